-- `receive_shared::join::put_joined` meets its contract: what is put in order, merged with the rows of the held heads, is the joined list (JoinedLaws).
-- Assumes nothing.
use borrow.Author.Rules.{rules}
use mathlib.Core.Bool.{false}
use native.Mathlib.Omega.{arith}
use lib.ListN.{length-replicate}
use Rattle.rules.specs.Sizes.{sizes}
use Rattle.table_graph.proofs.MarkLaws.{blank}
use Rattle.table_graph.proofs.PickLaws.{count_most}
use Rattle.receive_shared.proofs.JoinedLaws.{ordered_fits, joined_ready, joined_put}
use Rattle.receive_shared.proofs.join.put_joined.Goals as goal

pub mark_joined-requires : goal.mark_joined-requires
mark_joined-requires c = (
  c.requires.0,
  ordered_fits _ _ _ c.requires.0 _ _ _ (λ i. search rules) c.order_once-ordered.ensures c.requires.3,
  c.requires.2,
  omega (arith, length-replicate sizes.rows false, c.requires.0.rows.few),
  blank _ sizes.rows c.requires.0.rows.few,
)

pub overflow_add-total : goal.overflow_add-total
overflow_add-total c =
    omega (arith, count_most _ _ _ c.count_marked.ensures, c.requires.0.rows.few, ordered_fits _ _ _ c.requires.0 _ _ _ (λ i. search rules) c.order_once-ordered.ensures c.requires.3)

pub merge_marked-requires : goal.merge_marked-requires
merge_marked-requires c = (
  c.requires.0,
  omega (arith, length-replicate sizes.rows false, c.requires.0.rows.few, c.mark_joined.auto.marks),
  joined_ready _ _ _ c.requires.0 _ _ _ (λ i. search rules) c.order_once-ordered.ensures c.requires.3 _ c.mark_joined.ensures _ (rw (← c.count_marked.ensures)),
)

pub returns : goal.returns
returns c =
    joined_put _ _ _ c.requires.0 _ _ _ (λ i. search rules) c.order_once-ordered.ensures c.requires.3 _ c.mark_joined.ensures _ c.merge_marked.ensures
