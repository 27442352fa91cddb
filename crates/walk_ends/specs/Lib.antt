pub mod Ends
pub mod Joint
