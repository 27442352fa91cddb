pub mod Internal
pub mod Rows
