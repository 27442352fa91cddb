pub mod Internal
pub mod Order
pub mod Reach
