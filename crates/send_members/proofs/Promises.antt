-- What is promised of this crate and cited nowhere in it or above: a law that stands here can't be taken out or renamed unseen.
pub use Rattle.send_members.proofs.SLaws.{last_syncs_one, filters_one, s_hashes, s_missed, s_closed}
