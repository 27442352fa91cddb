pub mod Meaning
pub mod Number
pub mod Promises
