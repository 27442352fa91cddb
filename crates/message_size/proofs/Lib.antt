pub mod Promises
pub mod SizeLaws
pub mod WriteLaws
