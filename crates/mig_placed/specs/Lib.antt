mod Common
pub mod InFile
pub mod Joined
pub mod Runs
