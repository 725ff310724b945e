-- What private functions ensure: parts with other nets.
pub mod Settling
pub mod Refusing
