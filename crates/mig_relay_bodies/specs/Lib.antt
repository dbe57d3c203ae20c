mod Common
pub mod Bodies
pub mod ContextChain
pub mod PairPieces
pub mod Begun
pub mod Laws
