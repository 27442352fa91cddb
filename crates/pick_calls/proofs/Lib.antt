pub mod PickTies
pub mod Promises
