-- What the clauses of private functions cite, and no public one.
pub mod HiddenSearch
pub mod Labels
pub mod Notes
pub mod Search
