pub mod Common
pub mod Walks
pub mod Rows
pub mod Codes
pub mod Texts
pub mod PvSettings
pub mod Closings
