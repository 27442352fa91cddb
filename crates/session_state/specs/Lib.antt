pub mod Counts
pub mod Session
pub mod Value
