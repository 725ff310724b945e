-- What is promised.
pub mod Outside
pub mod Calls
pub mod Entries
pub mod Doors
pub mod Memory
pub mod Pipeline
-- What serves private functions alone.
pub mod inner
