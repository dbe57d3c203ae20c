pub mod Tests
pub mod Verdicts
pub mod Joined
pub mod ByParts
