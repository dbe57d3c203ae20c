pub mod Behind
pub mod BesideFile
pub mod Marks
pub mod Outlines
