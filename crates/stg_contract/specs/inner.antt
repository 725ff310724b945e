-- What private functions ensure: tests, searches and counts over the lists that walks give.
pub mod Weights
pub mod Tests
pub mod Searches
pub mod Counts
pub mod Sums
pub mod Judging
pub mod Queues
pub mod Watches
pub mod Worked
