-- What is promised.
pub mod Cuts
pub mod Deterministic
pub mod Conflict
pub mod Consistent
pub mod Stgs
pub mod Joint
pub mod Correct
pub mod Closed
pub mod Groups
pub mod PlainGroups
pub mod Faithful
pub mod Renumbered
pub mod Secure
pub mod RedundantPlaces
pub mod RedundantDummies
pub mod LeaveOut
pub mod Laws
