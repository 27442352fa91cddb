-- What is promised of this crate and cited nowhere in it or above: a law that stands here can't be taken out or renamed unseen.
pub use Rattle.session_check.proofs.GoodSessions.{good_within, lent_hashes, switched_good, restored_good, fresh_read_only_good}
pub use Rattle.session_check.proofs.KeptLaws.{kept_each, each_kept}
