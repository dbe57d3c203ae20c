pub mod Common
pub mod Compared
pub mod Images
pub mod Places
