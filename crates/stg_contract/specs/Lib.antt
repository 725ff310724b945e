pub mod Verdicts
pub mod Calm
pub mod Room
pub mod Laws
pub mod Neighbours
pub mod Candidates
pub mod WatchedDummies
pub mod inner
