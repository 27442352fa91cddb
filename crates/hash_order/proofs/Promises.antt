-- What is promised of this crate and cited nowhere in it or above: a law that stands here can't be taken out or renamed unseen.
pub use Rattle.hash_order.proofs.KeepLaws.{once_same}
pub use Rattle.hash_order.proofs.ReachLaws.{none_below}
