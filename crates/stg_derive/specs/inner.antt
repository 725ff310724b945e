-- What the functions within the crate ensure: how an attempt stands, what is watched of its draft,
-- what each draft of a derivation keeps, and which nets of the tests can be derived from.
pub mod Choices
pub mod Drafts
pub mod UnderWay
pub mod Watching
pub mod Derivable
