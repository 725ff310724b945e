pub mod Rules
pub mod Watching
pub mod Levelled
pub mod FlaggedDummies
pub mod inner
