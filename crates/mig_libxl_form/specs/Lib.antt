mod Common
pub mod LibxlTypes
pub mod Content
pub mod Emulators
pub mod Formed
pub mod Among
pub mod Behind
pub mod Judging
pub mod Carried
pub mod Spelled
pub mod Stream
