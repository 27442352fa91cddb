pub mod ChosenLaws
pub mod Promises
pub mod SelectLaws
pub mod SendCalls
