pub mod Order
pub mod Gate
