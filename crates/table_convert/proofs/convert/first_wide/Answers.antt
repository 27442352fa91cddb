-- `table_convert::convert::first_wide` meets its contract: the first wide one of the rows from i on is that of all, until row i is one or no row is
-- left. Assumes nothing.
use mathlib.Core.Path.{sym, ◌∙◌}
use Rattle.table.proofs.CheckLaws.{test_starts, test_fails, test_on, test_ends}
use Rattle.table_convert.proofs.ConvertLaws.{count_wide, count_fits_lem}
use Rattle.table_convert.proofs.convert.first_wide.Goals as goal

pub loop-i-init : goal.loop-i-init
loop-i-init c = test_starts _ _

pub returns-then-room-count_of : goal.returns-then-room-count_of
returns-then-room-count_of c =
    sym (test_fails _ _ _ c.loop-i-test.true (count_wide _ _ _ _ _ c.count_of.ensures c.if-room-count_of.true))
    ∙ c.loop-i.invariant

pub loop-i-preserved : goal.loop-i-preserved
loop-i-preserved c =
    sym (test_on _ _ _ c.loop-i-test.true (count_fits_lem _ _ _ _ _ c.count_of.ensures c.if-room-count_of.false))
    ∙ c.loop-i.invariant

pub returns : goal.returns
returns c = sym (test_ends _ _ _ c.loop-i.auto.i-end c.loop-i-test.false) ∙ c.loop-i.invariant
