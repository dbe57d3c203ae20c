pub mod Common
pub mod Changed
pub mod Faults
pub mod Forgotten
pub mod Outline
pub mod Entries
