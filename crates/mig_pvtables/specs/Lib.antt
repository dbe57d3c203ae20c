mod Common
pub mod P2mFrames
pub mod VcpuContexts
pub mod Blank
pub mod Faults
pub mod Tables
pub mod Renaming
pub mod P2mPages
pub mod BadEntries
pub mod Whole
pub mod WholePv
pub mod BlankSteps
pub mod P2mMarks
pub mod WorkedGuest
