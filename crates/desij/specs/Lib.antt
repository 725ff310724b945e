-- What is promised.
pub mod Reading
pub mod Answering
pub mod Files
pub mod Printing
pub mod Statuses
pub mod Run
pub mod Sitting
pub mod Served
-- What serves private functions alone.
pub mod inner
