-- What is promised of this crate and cited nowhere in it or above: a law that stands here can't be taken out or renamed unseen.
pub use Rattle.message_peek.proofs.PeekLaws.{peeked_once, peek_agrees, peek_refuses, peek_prefix}
