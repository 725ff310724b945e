-- What serves private functions alone.
pub mod ArenaFields
pub mod LastCell
pub mod Links
pub mod Removing
pub mod RingChange
