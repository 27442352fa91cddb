pub mod Filters
pub mod HaveLaws
pub mod IgnoredLaws
pub mod Promises
pub mod Rules
