pub mod Decided
pub mod MadeLaws
pub mod PutDone
