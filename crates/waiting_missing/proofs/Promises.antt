-- What is promised of this crate and cited nowhere in it or above: a law that stands here can't be taken out or renamed unseen.
pub use Rattle.waiting_missing.proofs.AcceptedLaws.{accepted_agrees, accepted_unheld, missing_hashes}
pub use Rattle.waiting_missing.proofs.MissingLaws.{missing_of_nothing, missing_grows, missing_induction}
