mod Common
pub mod Texts
pub mod ImageTexts
pub mod UnsoundTexts
pub mod LegacyTexts
pub mod Arguments
