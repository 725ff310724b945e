-- What the clauses of private functions cite, and no public one.
pub mod Wire
pub mod Heads
pub mod Steps
