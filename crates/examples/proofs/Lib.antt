pub mod Examples
pub mod Filters
pub mod Messages
pub mod Premises
pub mod Promises
pub mod Rows
