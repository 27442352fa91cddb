pub mod Promises
pub mod StateCalls
pub mod Ties
