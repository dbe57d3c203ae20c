mod Common
pub mod Causes
pub mod Forms
pub mod Findings
pub mod Step
pub mod Parts
pub mod Entries
pub mod Current
pub mod Sends
pub mod Live
pub mod Unused
