-- What is promised of this crate: a law that stands here can't be taken out or renamed unseen.
pub use Rattle.examples.proofs.Examples.{examples}
