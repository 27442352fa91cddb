pub mod Passing
pub mod Talk
