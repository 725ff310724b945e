-- What is promised.
pub mod PlaceNames
pub mod ComponentText
pub mod Writable
pub mod ReadsBack
