pub mod Common
pub mod Directories
pub mod Fans
pub mod Gathered
pub mod Counted
pub mod Room
pub mod Viewed
