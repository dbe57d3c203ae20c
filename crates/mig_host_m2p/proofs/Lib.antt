pub mod Common
pub mod Sides
pub mod Ways
pub mod Grown
pub mod Collected
pub mod Stacks
pub mod Listed
pub mod Standing
