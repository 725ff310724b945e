-- What is promised.
pub mod Refusals
pub mod RuleNumbers
pub mod Rows
pub mod Names
pub mod Lists
pub mod Header
pub mod Nodes
pub mod Targets
pub mod Graphs
pub mod Markings
pub mod Said
pub mod Rules
pub mod Reading
pub mod Standing
pub mod Laws
pub mod ReadLimits
-- What serves private functions alone.
pub mod inner
