pub mod Told
pub mod Pass
pub mod Served
