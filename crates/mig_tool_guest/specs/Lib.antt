mod Common
pub mod Addresses
pub mod Refusals
pub mod Outcomes
pub mod Fronts
pub mod AddressSteps
pub use Rattle.mig_tool_report.specs.Words
pub use Rattle.mig_tool_report.specs.Report
pub use Rattle.mig_tool_report.specs.Outcome
pub use Rattle.mig_tool_report.specs.Statuses
pub mod Relays
pub mod Shown
pub mod RelaySteps
pub mod ShownSteps
pub mod Promises
