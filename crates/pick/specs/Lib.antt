pub mod Internal
pub mod PickCalls
pub mod Picking
