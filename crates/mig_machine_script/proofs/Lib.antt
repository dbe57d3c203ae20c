pub mod Common
pub mod Cutting
pub mod FieldsSaid
pub mod Growing
mod OneLine
pub mod OneScript
mod Judging
pub mod NamedMachines
pub mod LinesLogged
pub mod LinesApplied
pub mod GroupsRun
pub mod CoursesRun
pub mod DotsCounted
