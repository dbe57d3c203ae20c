pub mod Cells
pub mod Trees
