pub mod Round
pub mod Walk
