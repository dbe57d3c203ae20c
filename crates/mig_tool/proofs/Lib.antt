pub mod Common
pub mod Reporting
