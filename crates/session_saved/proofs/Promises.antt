-- What is promised of this crate and cited nowhere in it or above: a law that stands here can't be taken out or renamed unseen.
pub use Rattle.session_saved.proofs.SavedLaws.{restored_once, read_loads, saved_and_loaded}
