-- What the functions within the crate ensure: tests and searches over lists, rooms and levels.
pub mod Tests
pub mod Searches
pub mod Flagging
pub mod Chains
pub mod DeadLinks
