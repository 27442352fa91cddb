-- What is promised of this crate and cited nowhere in it or above: a law that stands here can't be taken out or renamed unseen.
pub use Rattle.session.proofs.LaidLaws.{laid_haves_lem}
pub use Rattle.session.proofs.PlanLaws.{
  planned_held,
  body_read_only,
  list_hashes,
  document_v2,
  document_not_empty,
  have_or_none,
  said_flags,
  speaks_heads,
  speaks_first,
  speaks_body,
  speaks_apart,
  plan_says,
  own_filters,
}
pub use Rattle.session.proofs.GoodLaws.{body_few, restored_good, fresh_read_only_good, set_read_only_good, after_good, said_sound, said_back}
pub use Rattle.session.proofs.ReceiveLaws.{
  joined_heads,
  join_again,
  advance_ascends,
  shared_few_lem,
  flagged_keeps,
  flagged_lands,
  flagged_sent,
  flagged_forgets,
  receive_took,
  load_failed,
  refused_leaves,
  failed_lists,
}
pub use Rattle.session.proofs.PlanCalls.{plan_called_once, plan_refused_leaves, silence_leaves, reset_leaves}
pub use Rattle.session.proofs.Arms.{probes_inside, planned_rows}
pub use Rattle.session.proofs.PickPlanLaws.{plans_with_picks}
pub use Rattle.session.proofs.KeptCalls.{plan_stays_good, receive_stays_good, failed_stays_good}
pub use Rattle.session.proofs.KeptSessions.{counts_back}
pub use Rattle.session.proofs.Stands.{stand_same}
