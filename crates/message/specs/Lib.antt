pub mod Flags
pub mod Message
pub mod Sound
pub mod Write
