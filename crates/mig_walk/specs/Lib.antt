mod Common
pub mod Outlined
pub mod Walks
pub mod WalkSteps
