mod Common
pub mod Rows
pub mod CauseTexts
pub mod OtherTexts
