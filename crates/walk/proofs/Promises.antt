-- What is promised of this crate: a law that stands here can't be taken out or renamed unseen.
pub use Rattle.walk.proofs.Example.{takes_one_more}
pub use Rattle.walk.proofs.Loading.{loads_one}
pub use Rattle.walk.proofs.Theorem1.{theorem_1}
pub use Rattle.walk.proofs.Walk01.{walk01_walks, round01_rounds, walk01_ends, walk01_new, walk01_goes}
