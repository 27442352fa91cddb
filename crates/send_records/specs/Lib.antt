pub mod Internal
pub mod Summary
