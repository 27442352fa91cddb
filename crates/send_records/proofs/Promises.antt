-- What is promised of this crate and cited nowhere in it or above: a law that stands here can't be taken out or renamed unseen.
pub use Rattle.send_records.proofs.MeanLaws.{summaries_mean, words_back}
