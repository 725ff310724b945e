-- What is promised.
pub mod Net
pub mod LimitValues
pub mod Names
pub mod Words
pub mod Building
pub mod ErrorNumbers
pub mod Builder
pub mod Ordered
pub mod Component
pub mod Spec
pub mod PlaceWords
pub mod Graph
pub mod Run
pub mod Contraction
pub mod Initial
-- What serves private functions alone.
pub mod inner
