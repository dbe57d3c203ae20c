pub mod Common
pub mod ContextChain
pub mod PairPieces
pub mod Fronts
pub mod FirstPieces
pub mod NextPieces
pub mod Types
