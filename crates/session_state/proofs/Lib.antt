pub mod CountsLaws
pub mod Promises
pub mod SessionLaws
pub mod ValueLaws
