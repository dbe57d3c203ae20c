mod Common
pub mod Begun
pub mod Compared
pub mod Kept
pub mod PageReads
pub mod Reads
