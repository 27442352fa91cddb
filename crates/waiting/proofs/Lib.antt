pub mod CheckLaws
pub mod FindLaws
pub mod Promises
pub mod Today
pub mod WaitingLaws
