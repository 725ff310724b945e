-- What the private functions ensure: how a log is read line by line.
pub mod Reading
pub mod Taking
pub mod TransKeys
