-- What is promised of this crate and cited nowhere in it or above: a law that stands here can't be taken out or renamed unseen.
pub use Rattle.rules.proofs.Hash.{equal_hashes, order_of_hashes}
pub use Rattle.rules.proofs.Outputs.{written_once, written_gathered, gathered_bytes}
pub use Rattle.rules.proofs.Refusals.{refusals_differ}
