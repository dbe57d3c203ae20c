pub mod Promises
pub use Rattle.mig_tool_report.specs.Words
pub use Rattle.mig_tool_report.specs.Report
pub use Rattle.mig_tool_report.specs.Outcome
pub use Rattle.mig_tool_report.specs.Statuses
