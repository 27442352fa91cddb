-- What is promised of this crate and cited nowhere in it or above: a law that stands here can't be taken out or renamed unseen.
pub use Rattle.waiting.proofs.WaitingLaws.{waiting_hashes, waitings_good, good_waiting_accepted, index_of_waiting, decoded_asks, decoded_waiting}
