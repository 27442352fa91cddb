-- What is promised of this crate and cited nowhere in it or above: a law that stands here can't be taken out or renamed unseen.
pub use Rattle.walk_ends_sessions.proofs.Meeting.{sessions_meet}
pub use Rattle.walk_ends_sessions.proofs.Talk.{sessions_are_ends}
