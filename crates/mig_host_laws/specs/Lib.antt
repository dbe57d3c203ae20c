mod Common
pub mod Fields
pub mod NamedAnew
pub mod NamedFirst
pub mod Standing
pub mod Unsoundness
pub mod FirstRow
pub mod WorkedUserRoot
pub mod WorkedDescriptors
