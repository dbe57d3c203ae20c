pub mod Common
pub mod Reports
pub mod Naming
pub mod Statuses
pub mod Promises
pub mod Settled
