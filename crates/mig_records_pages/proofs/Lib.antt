pub mod Common
mod Places
pub mod Written
pub mod Joins
pub mod ListSteps
pub mod PageTexts
pub mod Copying
