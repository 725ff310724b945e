-- What the clauses of private functions cite, and no public one.
pub mod Clear
