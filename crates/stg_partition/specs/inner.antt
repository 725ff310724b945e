-- What the clauses of private functions cite, and no public one.
pub mod Joining
pub mod WordTexts
pub mod Marked
pub mod Naming
pub mod Numbers
pub mod Splits
