pub mod Hears
pub mod Meeting
pub mod Promises
pub mod Says
pub mod Sides
pub mod Talk
