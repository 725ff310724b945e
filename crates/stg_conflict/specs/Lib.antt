pub mod Hidden
-- What serves private functions alone.
pub mod inner
