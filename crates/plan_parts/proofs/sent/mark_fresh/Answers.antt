-- `plan_parts::sent::mark_fresh` meets its contract: each row that is left adds one to the hashes sent (SentLaws). Assumes nothing.
use native.Mathlib.Omega.{arith}
use Rattle.table_graph.proofs.PickLaws.{count_most}
use Rattle.plan_parts.proofs.SentLaws.{fresh_marked}
use Rattle.plan_parts.proofs.sent.mark_fresh.Goals as goal

pub overflow_add-result : goal.overflow_add-result
overflow_add-result c =
    omega (arith, count_most _ _ _ c.count_marked.ensures, c.requires.4, c.requires.0.rows.few)

pub returns : goal.returns
returns c =
    λ sent s up long.
    fresh_marked _ _ _ c.requires.0 _ _ _ sent _ (c.mark_new.ensures sent s) up c.requires.6
    (omega (arith, c.requires.5, c.mark_new.auto.fresh)) _ _ long c.count_marked.ensures
