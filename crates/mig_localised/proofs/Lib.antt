pub mod Localised
pub mod Over
pub mod Seated
