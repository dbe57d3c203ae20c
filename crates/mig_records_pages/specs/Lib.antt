mod Common
pub mod Told
pub mod Written
pub mod Batches
pub mod PageData
pub mod Copied
