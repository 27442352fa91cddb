pub mod PickWords
