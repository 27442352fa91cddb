-- What is promised of this crate and cited nowhere in it or above: a law that stands here can't be taken out or renamed unseen.
pub use Rattle.message_calls.proofs.MessageLaws.{version_back, flags_back, message_answered_once, peek_answered_once}
