pub mod Common
pub mod Floats
pub mod Stages
pub mod Passing
pub mod Sights
pub mod Texts
pub mod OneFront
pub mod OneTree
