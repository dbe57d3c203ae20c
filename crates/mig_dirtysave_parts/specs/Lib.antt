mod Common
pub mod KeptParts
pub mod SaveTexts
