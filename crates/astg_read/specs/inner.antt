-- What the clauses of private functions cite, and no public one.
pub mod Views
pub mod Growth
pub mod LineResult
pub mod GraphRules
pub mod WellFormed
pub mod Construction
pub mod PlaceTokens
pub mod MarkingCheck
pub mod NoDummies
pub mod Fronts
