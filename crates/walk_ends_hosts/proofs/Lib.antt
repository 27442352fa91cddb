pub mod CallsEnds
pub mod NewsAtBothEnds
pub mod Promises
