mod Common
pub mod Causes
pub mod Images
pub mod Streams
pub mod PassableLaws
pub mod Parts
pub mod Spots
pub mod Following
pub mod Keeping
pub mod Waiting
pub mod Steps
pub mod Standing
pub mod Relaying
pub mod Laws
pub mod Looking
