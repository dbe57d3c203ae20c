mod Common
pub mod GuestImage
pub mod GuestImageParts
pub mod GuestImageForm
pub mod Answer
pub mod PartCounts
pub mod FrameEnds
pub mod GuestImageLaws
pub mod Behind
pub mod PagesHeld
