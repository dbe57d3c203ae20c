pub mod Behind
pub mod Plain
