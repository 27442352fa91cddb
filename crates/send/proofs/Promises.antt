-- What is promised of this crate and cited nowhere in it or above: a law that stands here can't be taken out or renamed unseen.
pub use Rattle.send.proofs.SelectLaws.{s_named, send_hashes, less_new, less_few, less_once, less_hashes}
