mod Common
pub mod Forgotten
pub mod Judges
pub mod Outline
