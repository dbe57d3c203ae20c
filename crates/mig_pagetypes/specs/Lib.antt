pub mod PageTypes
pub mod FrameWords
pub mod LegacyWords
pub mod Limits
