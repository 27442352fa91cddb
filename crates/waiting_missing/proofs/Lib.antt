pub mod AcceptedLaws
pub mod AskedLaws
pub mod FoundLaws
pub mod MissingCalls
pub mod MissingLaws
pub mod Promises
pub mod TakeLaws
