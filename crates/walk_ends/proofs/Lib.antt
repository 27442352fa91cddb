pub mod BothEnds
pub mod Exchanging
pub mod Going
pub mod JointLaws
pub mod Promises
pub mod Turning
pub mod TwoTables
