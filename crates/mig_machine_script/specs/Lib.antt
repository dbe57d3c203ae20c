mod Common
pub mod ScriptLines
pub mod ScriptFields
pub mod Scripts
pub mod ScriptAnswers
pub mod HostLines
pub mod Groups
pub mod Courses
pub mod Touched
