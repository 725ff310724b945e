-- What is promised.
pub mod Fields
pub mod Routes
pub mod Paths
pub mod Requests
pub mod Asking
pub mod Replies
pub mod Making
pub mod Answering
pub mod Serving
pub mod Repeating
-- What serves private functions alone.
pub mod inner
