mod Common
pub mod Canon
pub mod Elsewhere
pub mod CanonStream
pub mod Pieces
pub mod Bare
pub mod Batched
