pub mod Steps
pub mod Attempts
pub mod Derivations
pub mod Undoing
pub mod Loggable
pub mod Laws
pub mod inner
