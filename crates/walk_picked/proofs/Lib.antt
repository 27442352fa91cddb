pub mod PickedWalkLaws
pub mod Promises
