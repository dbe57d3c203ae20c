mod Common
pub mod LiveSaves
pub mod Saves
pub mod SaveSteps
pub mod Exercises
pub use Rattle.mig_tool_report.specs.Report
pub use Rattle.mig_tool_report.specs.Outcome
pub use Rattle.mig_tool_report.specs.Statuses
pub mod Promises
