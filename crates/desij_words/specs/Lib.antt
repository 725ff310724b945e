-- What is promised.
pub mod Words
pub mod Commands
pub mod Matches
pub mod Serving
-- What serves private functions alone.
pub mod inner
