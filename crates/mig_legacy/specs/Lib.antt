mod Common
pub mod Chunks
pub mod Batches
pub mod Toolstack
pub mod Judged
pub mod Texts
pub mod WordsSaid
pub mod Legacy
pub mod LegacyForm
pub mod Stream
pub mod Spelled
pub mod Seen
pub mod Meaning
pub mod Placed
