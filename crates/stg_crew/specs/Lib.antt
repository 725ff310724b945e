pub mod Claims
pub mod Seats
pub mod Laws
pub mod Parts
pub mod Drawing
pub mod inner
