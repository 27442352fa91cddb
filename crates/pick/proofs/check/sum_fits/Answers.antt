-- `pick::check::sum_fits` meets its contract: what is left of the budget fits the sizes that are left if the budget fits all of them (BrokenLaws), and each
-- hash has a row. Assumes nothing.
use Prim.Native.Nat.{◌<◌}
use mathlib.Core.Path.{sym, ◌∙◌}
use native.Mathlib.Omega.{arith}
use Rattle.table.proofs.TableLaws.{length_rows_at}
use Rattle.table.specs.TableBytes.{rows_at}
use Rattle.pick.proofs.BrokenLaws.{rest_all, sum_starts, sum_over, sum_next, sum_done, row_inside, rows_next}
use Rattle.pick.proofs.GoesLaws.{number_is}
use Rattle.pick.proofs.check.sum_fits.Goals as goal

pub loop-k-init : goal.loop-k-init
loop-k-init c = record { ours = rw (rest_all _ _) c.requires.3; rest = sum_starts _ _ _ _ _ }

pub offset_bounds-row_sizes-row : goal.offset_bounds-row_sizes-row
offset_bounds-row_sizes-row c =
    omega (
      arith,
      (let it : c.look_up-row.result < c.args.n = let there = row_inside _ _ _ _ c.loop-k-test.true c.loop-k.invariant.ours in
          let same = c.look_up-row.ensures ∙ number_is (rows_at c.args.table.now 0 c.args.n) _ in
          omega (arith, there, same, length_rows_at c.args.table.now 0 c.args.n) in it),
      c.requires.0.rows.few,
    )

pub bounds-row_sizes-row : goal.bounds-row_sizes-row
bounds-row_sizes-row c =
    omega (
      arith,
      (let it : c.look_up-row.result < c.args.n = let there = row_inside _ _ _ _ c.loop-k-test.true c.loop-k.invariant.ours in
          let same = c.look_up-row.ensures ∙ number_is (rows_at c.args.table.now 0 c.args.n) _ in
          omega (arith, there, same, length_rows_at c.args.table.now 0 c.args.n) in it),
      c.requires.1,
    )

pub returns-then-left-row_sizes : goal.returns-then-left-row_sizes
returns-then-left-row_sizes c =
    sym (sum_over _ _ _ _ _ _ _ c.loop-k-test.true (c.look_up-row.ensures ∙ number_is _ _) c.if-left-row_sizes.true) ∙ c.loop-k.invariant.rest

pub offset_bounds-row_sizes-row-in-loop-k : goal.offset_bounds-row_sizes-row-in-loop-k
offset_bounds-row_sizes-row-in-loop-k c =
    omega (
      arith,
      (let it : c.look_up-row.result < c.args.n = let there = row_inside _ _ _ _ c.loop-k-test.true c.loop-k.invariant.ours in
          let same = c.look_up-row.ensures ∙ number_is (rows_at c.args.table.now 0 c.args.n) _ in
          omega (arith, there, same, length_rows_at c.args.table.now 0 c.args.n) in it),
      c.requires.0.rows.few,
    )

pub bounds-row_sizes-row-in-loop-k : goal.bounds-row_sizes-row-in-loop-k
bounds-row_sizes-row-in-loop-k c =
    omega (
      arith,
      (let it : c.look_up-row.result < c.args.n = let there = row_inside _ _ _ _ c.loop-k-test.true c.loop-k.invariant.ours in
          let same = c.look_up-row.ensures ∙ number_is (rows_at c.args.table.now 0 c.args.n) _ in
          omega (arith, there, same, length_rows_at c.args.table.now 0 c.args.n) in it),
      c.requires.1,
    )

pub loop-k-preserved : goal.loop-k-preserved
loop-k-preserved c =
    record {
      ours = rows_next _ _ _ _ c.loop-k-test.true c.loop-k.invariant.ours;
      rest = sym (sum_next _ _ _ _ _ _ _ c.loop-k-test.true (c.look_up-row.ensures ∙ number_is _ _) c.if-left-row_sizes.false) ∙ c.loop-k.invariant.rest;
    }

pub returns : goal.returns
returns c = sym (sum_done _ _ _ _ _ _ c.loop-k-test.false) ∙ c.loop-k.invariant.rest
