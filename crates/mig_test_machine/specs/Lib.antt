mod Common
pub mod Standing
