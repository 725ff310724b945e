mod ExampleWords
mod Examples
mod RawExamples
mod LimitExamples
mod AcceptedExamples
pub mod GrowthLemmas
pub mod NumberLemmas
pub mod Keyed
pub mod SignalLemmas
pub mod TargetLemmas
pub mod SameLemmas
pub mod GraphLemmas
pub mod Verdicts
pub mod NodeLemmas
pub mod EntryLemmas
pub mod CloseLemmas
pub mod MarkingCheckLemmas
pub mod LineResultLemmas
pub mod Faultless
pub mod ReadLemmas
pub mod Repeats
pub mod IndexLemmas
pub mod WellFormedGraph
pub mod WellFormedLemmas
pub mod ArcLemmas
pub mod ReadyLemmas
pub mod PlaceTokensLemmas
pub mod ConstructionLemmas
pub mod FinishLemmas
pub mod OneSpec
pub mod ArcOrder
pub mod ArcsThere
pub mod Accepted
