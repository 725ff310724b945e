-- What the clauses of private functions cite, and no public one.
pub mod Unmade
pub mod Ends
pub mod Taken
pub mod Measured
pub mod Putting
pub mod Shown
pub mod Turns
