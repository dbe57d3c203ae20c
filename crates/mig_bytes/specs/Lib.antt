mod Common
pub mod Faults
pub mod Bytes
pub mod Fields
pub mod Walk
pub mod Judged
pub mod Answers
pub mod Sequences
pub mod Memory
pub mod Outside
