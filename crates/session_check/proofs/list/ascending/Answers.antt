-- `session_check::list::ascending` meets its contract: the hashes from the one before number i on decide what all of them do. Assumes nothing.
use mathlib.Core.Path.{sym, ◌∙◌}
use Rattle.session_check.proofs.GoodLaws.{climbing_starts, climbing_fails, climbing_on, climbing_ends}
use Rattle.session_check.proofs.list.ascending.Goals as goal

pub loop-i-init : goal.loop-i-init
loop-i-init c = climbing_starts _ _

pub returns-then-not-hash_before : goal.returns-then-not-hash_before
returns-then-not-hash_before c =
    sym (climbing_fails _ _ _ c.loop-i.auto.i c.loop-i-test.true (sym c.hash_before.ensures ∙ c.if-not-hash_before.true)) ∙ c.loop-i.invariant

pub loop-i-preserved : goal.loop-i-preserved
loop-i-preserved c =
    sym (climbing_on _ _ _ c.loop-i.auto.i c.loop-i-test.true (sym c.hash_before.ensures ∙ c.if-not-hash_before.false)) ∙ c.loop-i.invariant

pub returns : goal.returns
returns c = sym (climbing_ends _ _ _ c.loop-i.auto.i c.loop-i-test.false) ∙ c.loop-i.invariant
