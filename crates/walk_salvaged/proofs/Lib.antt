pub mod CatchUpLaws
pub mod Promises
