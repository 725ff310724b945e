pub mod ListLemmas
pub mod WordLemmas
pub mod LineLemmas
pub mod SpanLemmas
pub mod DecimalLemmas
pub mod FirstLemmas
mod Examples
