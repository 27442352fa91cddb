-- `receive_parts::left::count_left` meets its contract: what has been counted and what is left make the whole (LeftLaws). Assumes nothing.
use mathlib.Core.Bool.{not}
use mathlib.Core.Path.{sym, ap, ◌∙◌}
use Rattle.receive_parts.proofs.LeftLaws.{counting_starts, counting_passed, counting_taken, counting_ends}
use Rattle.receive_parts.proofs.left.count_left.Goals as goal
use Rattle.receive_parts.proofs.left.count_left.Goals.{then-not-held_marked, else-not-held_marked}

pub loop-k-init : goal.loop-k-init
loop-k-init c = counting_starts _ _ _

pub loop-k-preserved : goal.loop-k-preserved
loop-k-preserved c =
    elim c.if-not-held_marked.branch [
      | then-not-held_marked w ↦
          rw w.left-is
          (counting_taken _ _ _ _ _ c.loop-k.invariant c.loop-k-test.true (ap not (sym c.held_marked.ensures ∙ w.if-not-held_marked.true)))
      | else-not-held_marked w ↦
          rw w.left-is
          (counting_passed _ _ _ _ _ c.loop-k.invariant c.loop-k-test.true (ap not (sym c.held_marked.ensures ∙ w.if-not-held_marked.false)))
    ]

pub returns : goal.returns
returns c = counting_ends _ _ _ _ _ c.loop-k.invariant c.loop-k-test.false
