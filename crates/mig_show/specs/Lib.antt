mod Common
pub mod Names
pub mod Refusals
pub mod Tree
pub mod Smallest
pub mod Fronts
pub mod Seeing
pub mod Shows
pub mod Lines
