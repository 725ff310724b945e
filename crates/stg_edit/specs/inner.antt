-- What serves private functions alone.
pub mod DraftAt
pub mod Filling
pub mod NewPlaces
pub mod Nodes
pub mod Packing
pub mod RemovedPlaces
pub mod RowMerge
pub mod Sizes
pub mod Table
pub mod View
