pub mod ConvertLaws
pub mod Promises
pub mod PutLaws
