pub mod Compare
pub mod HashBytes
pub mod KeepLaws
pub mod OrderLaws
pub mod Promises
pub mod ReachLaws
pub mod Words
