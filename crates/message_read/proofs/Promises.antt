-- What is promised of this crate and cited nowhere in it or above: a law that stands here can't be taken out or renamed unseen.
pub use Rattle.message_read.proofs.IgnoredLaws.{message_forgotten, behind_stands, ignored_stand}
pub use Rattle.message_read.proofs.Meaning.{message_means}
pub use Rattle.message_read.proofs.Messages.{decoded_once, message_empty, message_other, message_words, haves_good_lem, chunks_good, flags_small}
pub use Rattle.message_read.proofs.RefusalVectors.{refusal_vectors}
