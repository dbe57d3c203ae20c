mod Common
pub mod MachineSeen
pub mod Noted
pub mod MachineFields
pub mod Histories
pub mod Exact
pub mod LaterMachines
pub mod Calls
pub mod Failing
pub mod Forgetful
pub mod Paced
