pub mod PickedWalk
