pub mod LogText
pub mod Logs
pub mod Laws
pub mod inner
