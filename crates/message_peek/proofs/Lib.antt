pub mod PeekLaws
pub mod Promises
