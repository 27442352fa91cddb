-- `send_members::members::some_marked` meets its contract: the numbers from the j-th on decide what all of them do. A number of a good row is below
-- the row's own, so it has a mark. Assumes nothing.
use mathlib.Core.Path.{sym, ◌∙◌}
use native.Mathlib.Omega.{arith}
use Rattle.table.proofs.GoodLaws.{good_down}
use Rattle.table_graph.proofs.MarkLaws.{number_member}
use Rattle.send_members.proofs.MemberLaws.{numbers_start, numbers_found, numbers_on, numbers_done}
use Rattle.send_members.proofs.members.some_marked.Goals as goal

pub loop-j-init : goal.loop-j-init
loop-j-init c = numbers_start _ _ _ _ c.dep_count-count.ensures

pub bounds-marks-k : goal.bounds-marks-k
bounds-marks-k c =
    let in' = number_member _ _ _ c.dep_count-count.ensures _ _ c.loop-j-test.true c.dep-k.ensures in
    omega (arith, good_down _ _ c.requires.0 c.args.i c.dep-k.result (omega arith) in', c.requires.1)

pub returns-then-marks-k : goal.returns-then-marks-k
returns-then-marks-k c =
    sym (numbers_found _ _ _ _ c.dep_count-count.ensures _ _ c.loop-j-test.true c.dep-k.ensures c.if-marks-k.true) ∙ c.loop-j.invariant

pub loop-j-preserved : goal.loop-j-preserved
loop-j-preserved c =
    sym (numbers_on _ _ _ _ c.dep_count-count.ensures _ _ c.loop-j-test.true c.dep-k.ensures c.if-marks-k.false) ∙ c.loop-j.invariant

pub returns : goal.returns
returns c = sym (numbers_done _ _ _ _ c.dep_count-count.ensures _ c.loop-j-test.false) ∙ c.loop-j.invariant
