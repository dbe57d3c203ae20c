mod Common
pub mod Heads
pub mod Records
pub mod Words
pub mod Faults
pub mod Layouts
pub mod Shapes
pub mod PvBodies
