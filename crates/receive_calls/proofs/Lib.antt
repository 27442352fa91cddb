pub mod Promises
pub mod ReceiveTies
pub mod ReceiveWordLaws
