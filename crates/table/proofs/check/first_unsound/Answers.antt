-- `table::check::first_unsound` meets its contract: the first unsound one of the rows from i on is that of all, until row i is one or no row
-- is left. Assumes nothing.
use mathlib.Core.Path.{sym, ◌∙◌}
use Rattle.table.proofs.CheckLaws.{test_starts, test_fails, test_on, test_ends}
use Rattle.table.proofs.check.first_unsound.Goals as goal

pub loop-i-init : goal.loop-i-init
loop-i-init c = test_starts _ _

pub returns-then-not-row_sound : goal.returns-then-not-row_sound
returns-then-not-row_sound c =
    sym (test_fails _ _ _ c.loop-i-test.true (sym c.row_sound.ensures ∙ c.if-not-row_sound.true))
    ∙ c.loop-i.invariant

pub loop-i-preserved : goal.loop-i-preserved
loop-i-preserved c =
    sym (test_on _ _ _ c.loop-i-test.true (sym c.row_sound.ensures ∙ c.if-not-row_sound.false))
    ∙ c.loop-i.invariant

pub returns : goal.returns
returns c = sym (test_ends _ _ _ c.loop-i.auto.i-end c.loop-i-test.false) ∙ c.loop-i.invariant
