pub mod FlagLaws
pub mod Promises
pub mod WriteLaws
