pub mod Common
pub mod PartOrder
pub mod KeyedMaps
pub mod PartMaps
pub mod PartCursor
pub mod PartSets
pub mod Counts
pub mod Kept
pub mod Found
pub mod NextEntries
pub mod PageRuns
pub mod PartRows
pub mod CodeParts
pub mod Longs
mod Members
mod Prints
mod RoundsRead
pub mod Sizes
pub mod MemberCounts
pub mod Scans
pub mod Changed
pub mod Fills
