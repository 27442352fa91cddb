-- `pick::goes::goes_with` meets its contract: the numbers from the j-th on decide what all of them do (GoesLaws). A number of a good row is below the row's
-- own, so it has a mark. Assumes nothing.
use Prim.Native.Nat.{◌<◌}
use mathlib.Core.Path.{sym, ◌∙◌}
use borrow.Author.Rules.{rules}
use native.Mathlib.Omega.{arith}
use Rattle.table.proofs.GoodLaws.{good_down}
use Rattle.table_graph.proofs.MarkLaws.{number_member}
use Rattle.pick.proofs.GoesLaws.{go_start, go_unlisted, go_picked, go_left, go_done}
use Rattle.pick.proofs.goes.goes_with.Goals as goal
use Rattle.pick.proofs.goes.goes_with.Goals.{else-listed-k-via-then-listed-k+else-not-picks-k, else-listed-k-via-else-listed-k}

pub loop-j-init : goal.loop-j-init
loop-j-init c = go_start _ _ _ _ _ c.dep_count-j-end.ensures

pub bounds-listed-k : goal.bounds-listed-k
bounds-listed-k c =
    omega (
      arith,
      (let it : c.dep-k.result < c.args.i = good_down _ _ c.requires.0 c.args.i c.dep-k.result (omega arith)
          (number_member _ _ _ c.dep_count-j-end.ensures _ _ c.loop-j-test.true c.dep-k.ensures) in it),
      c.requires.1,
    )

pub bounds-picks-k : goal.bounds-picks-k
bounds-picks-k c =
    omega (
      arith,
      (let it : c.dep-k.result < c.args.i = good_down _ _ c.requires.0 c.args.i c.dep-k.result (omega arith)
          (number_member _ _ _ c.dep_count-j-end.ensures _ _ c.loop-j-test.true c.dep-k.ensures) in it),
      c.requires.2,
    )

pub returns-then-not-picks-k : goal.returns-then-not-picks-k
returns-then-not-picks-k c =
    sym
    (go_left _ _ _ _ _ c.dep_count-j-end.ensures _ _ c.loop-j-test.true c.dep-k.ensures c.if-listed-k.true
    c.if-not-picks-k.true)
    ∙ c.loop-j.invariant

pub loop-j-preserved : goal.loop-j-preserved
loop-j-preserved c =
    elim c.else-listed-k.branch [
      | else-listed-k-via-then-listed-k+else-not-picks-k w ↦
          sym
          (go_picked _ _ _ _ _ c.dep_count-j-end.ensures _ _ c.loop-j-test.true c.dep-k.ensures w.if-listed-k.true (search rules))
          ∙ c.loop-j.invariant
      | else-listed-k-via-else-listed-k w ↦
          sym (go_unlisted _ _ _ _ _ c.dep_count-j-end.ensures _ _ c.loop-j-test.true c.dep-k.ensures w.if-listed-k.false)
          ∙ c.loop-j.invariant
    ]

pub returns : goal.returns
returns c = sym (go_done _ _ _ _ _ c.dep_count-j-end.ensures _ c.loop-j-test.false) ∙ c.loop-j.invariant
