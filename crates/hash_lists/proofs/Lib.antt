pub mod CompareLaws
pub mod Lists
pub mod Promises
