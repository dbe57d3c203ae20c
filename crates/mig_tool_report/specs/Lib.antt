mod Common
pub mod Words
pub mod Report
pub mod Outcome
pub mod Statuses
pub mod Promises
