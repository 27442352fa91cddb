-- `table::check::numbers_good` meets its contract: the numbers from the j-th on climb from `least` as all of them do from 0, until one doesn't
-- or none is left. Assumes nothing.
use mathlib.Core.Path.{sym, ◌∙◌}
use borrow.Author.Rules.{rules}
use Rattle.table.proofs.RowLaws.{climb_starts, climb_low, climb_high, climb_on, climb_ends}
use Rattle.table.proofs.check.numbers_good.Goals as goal

pub loop-j-init : goal.loop-j-init
loop-j-init c = climb_starts _ _ _ _ c.count_of-count.ensures

pub returns-then-k-least : goal.returns-then-k-least
returns-then-k-least c =
    sym (climb_low _ _ _ _ _ _ _ c.loop-j-test.true c.dep_of-k.ensures c.if-k-least.true) ∙ c.loop-j.invariant

pub returns-then-i-k : goal.returns-then-i-k
returns-then-i-k c =
    sym (climb_high _ _ _ _ _ _ _ c.loop-j-test.true c.dep_of-k.ensures (search rules) c.if-i-k.true)
    ∙ c.loop-j.invariant

pub loop-j-preserved : goal.loop-j-preserved
loop-j-preserved c =
    sym (climb_on _ _ _ _ _ _ _ c.loop-j-test.true c.dep_of-k.ensures (search rules) c.if-i-k.false)
    ∙ c.loop-j.invariant

pub returns : goal.returns
returns c = sym (climb_ends _ _ _ _ _ _ c.loop-j-test.false) ∙ c.loop-j.invariant
