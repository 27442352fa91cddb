pub mod Internal
pub mod KeptRows
