pub mod Common
pub mod Wrappers
pub mod Ends
pub mod Endings
pub mod Streams
pub mod Settled
pub mod HvmTables
pub mod PvRows
pub mod Looked
pub mod Told
mod Tables
mod Reframed
mod PvHosts
mod HvmHosts
pub mod Viewed
mod Fronts
mod Images
pub mod Libxl
pub mod Written
pub mod Looks
pub mod ContextSteps
pub mod SeenRows
pub mod HeldParts
pub mod TableRows
