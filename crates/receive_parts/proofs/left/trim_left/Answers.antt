-- `receive_parts::left::trim_left` meets its contract: what has been moved and what is left make the whole, and what is still to be read is as it was
-- (LeftLaws). Assumes nothing.
use mathlib.Core.Bool.{not}
use mathlib.Core.Path.{sym, ap, ◌∙◌}
use borrow.Author.Rules.{rules}
use Rattle.receive_parts.proofs.LeftLaws.{trimming_starts, trimming_told, trimming_passed, trimming_taken, trimming_ends}
use Rattle.receive_parts.proofs.left.trim_left.Goals as goal
use Rattle.receive_parts.proofs.left.trim_left.Goals.{then-not-held_marked, else-not-held_marked}

pub loop-k-init : goal.loop-k-init
loop-k-init c = trimming_starts _ _ _

pub loop-k-preserved : goal.loop-k-preserved
loop-k-preserved c =
    elim c.if-not-held_marked.branch [
      | then-not-held_marked w ↦
          rw (w.sent-is, w.left-is)
          (trimming_taken _ _ _ _ _ _ c.loop-k.invariant c.loop-k-test.true _
          (trimming_told _ _ _ _ _ _ c.loop-k.invariant c.loop-k-test.true (ap not (sym c.held_marked.ensures ∙ w.if-not-held_marked.true)))
          (λ i. search rules)
          c.requires.2
          w.move_hash.ensures)
      | else-not-held_marked w ↦
          rw (w.sent-is, w.left-is)
          (trimming_passed _ _ _ _ _ _ c.loop-k.invariant c.loop-k-test.true
          (trimming_told _ _ _ _ _ _ c.loop-k.invariant c.loop-k-test.true (ap not (sym c.held_marked.ensures ∙ w.if-not-held_marked.false))))
    ]

pub returns : goal.returns
returns c = trimming_ends _ _ _ _ _ _ c.loop-k.invariant c.loop-k-test.false
