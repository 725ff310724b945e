-- What is promised.
pub mod Projects
pub mod Keeping
pub mod Memory
-- What serves private functions alone.
pub mod inner
