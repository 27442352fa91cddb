-- `hash_lists::compare::all_held` meets its contract: what the hashes from number k on decide is what all of them do, and the row of a hash tells
-- whether it is held. Assumes nothing.
use mathlib.Core.Path.{sym, ◌∙◌}
use Rattle.hash_lists.proofs.CompareLaws.{test_starts, test_fails, test_on, test_ends, found_held, found_unknown}
use Rattle.hash_lists.proofs.compare.all_held.Goals as goal

pub loop-k-init : goal.loop-k-init
loop-k-init c = test_starts _ _ _ _

pub returns-then-n-look_up : goal.returns-then-n-look_up
returns-then-n-look_up c =
    sym (test_fails _ _ _ _ _ c.loop-k-test.true (found_unknown _ _ _ _ c.look_up.ensures c.if-n-look_up.true))
    ∙ c.loop-k.invariant

pub loop-k-preserved : goal.loop-k-preserved
loop-k-preserved c =
    sym (test_on _ _ _ _ _ c.loop-k-test.true (found_held _ _ _ _ c.look_up.ensures c.if-n-look_up.false))
    ∙ c.loop-k.invariant

pub returns : goal.returns
returns c = sym (test_ends _ _ _ _ _ c.loop-k-test.false) ∙ c.loop-k.invariant
