pub mod Rooms
pub mod Light
