pub mod Compared
pub mod Placed
pub mod Places
