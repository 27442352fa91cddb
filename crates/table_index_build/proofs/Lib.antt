pub mod BuildLaws
pub mod ExtendLaws
pub mod Promises
