mod Common
pub mod Judging
pub mod Mean
pub mod Record
pub mod Seen
pub mod Spelled
pub mod Stream
