-- What is promised of this crate: a law that stands here can't be taken out or renamed unseen.
pub use Rattle.walk_sessions.proofs.Corollary.{corollary}
pub use Rattle.walk_sessions.proofs.Passing.{passed_walks}
pub use Rattle.walk_sessions.proofs.Talk.{theorem_2, sessions_01, sessions_picked_lem}
pub use Rattle.walk_sessions.proofs.TalkExample.{brings_none, brings_some, talk_takes_all}
