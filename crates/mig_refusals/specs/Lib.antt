mod Common
pub mod Refusals
pub mod LibxcPv
pub mod Libxc
pub mod Stream
pub mod LegacyToolstack
pub mod Legacy
pub mod LegacyTables
pub mod ImageFile
pub mod ImageFileTables
pub mod ImageFileFronts
