pub mod GoodLaws
pub mod GoodSessions
pub mod KeptLaws
pub mod Promises
