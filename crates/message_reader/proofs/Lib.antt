pub mod FirstLaws
pub mod Promises
