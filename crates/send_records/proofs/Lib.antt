pub mod LaidLaws
pub mod MeanLaws
pub mod Promises
pub mod SentLaws
