-- What is promised.
pub mod PartitionText
pub mod Partition
pub mod ErrorNumbers
-- What serves private functions alone.
pub mod inner
