pub mod Promises
pub mod SavedLaws
