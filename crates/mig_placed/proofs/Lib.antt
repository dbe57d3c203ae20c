mod Common
pub mod Cells
pub mod Seen
pub mod RunSteps
pub mod Patches
pub mod JoinedBytes
