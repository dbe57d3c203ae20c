pub mod Common
pub mod LogsKept
pub mod Insides
pub mod MachinesRun
pub mod Laters
pub mod Exactly
pub mod Forgetting
pub mod LeftOut
mod Paces
