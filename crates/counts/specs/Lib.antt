pub mod Captures
pub mod Internal
pub mod Totals
