pub mod MessageLaws
pub mod Promises
pub mod Ties
