mod Common
pub mod Packed
pub mod Filling
pub mod ArenaLends
pub mod Frames
pub mod Mapped
pub mod FrameView
pub mod FrameLending
pub mod Pages
pub mod PageView
pub mod Lending
pub mod Ownership
pub mod Lends
pub mod Slab
pub mod SlabLends
