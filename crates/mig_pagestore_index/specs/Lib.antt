pub mod Leaves
pub mod Directories
pub mod Tree
pub mod Indexed
