-- `pick::check::first_broken` meets its contract: the hashes that are left give the place that all of them do (BrokenLaws), and what the marks say of a row
-- that was found is what the hashes say (GoesLaws). Assumes nothing.
use Prim.Native.Nat.{◌*◌}
use mathlib.Core.Path.{sym, ◌∙◌}
use native.Mathlib.Omega.{arith}
use Rattle.rules.specs.Hash.{hash_at}
use Rattle.rules.specs.Sizes.{sizes}
use Rattle.table.proofs.TableLaws.{index_at_most, length_rows, length_rows_at}
use Rattle.table.specs.Table.{rows}
use Rattle.table.specs.TableBytes.{rows_at}
use Rattle.pick.proofs.BrokenLaws.{broken_starts, broken_here, broken_next, broken_done}
use Rattle.pick.proofs.GoesLaws.{row_fits, number_is}
use Rattle.pick.proofs.check.first_broken.Goals as goal

pub loop-k-init : goal.loop-k-init
loop-k-init c = λ list marks. broken_starts _ list _ _

pub returns-then-not-row_fits : goal.returns-then-not-row_fits
returns-then-not-row_fits c =
    λ list marks.
    sym
    (broken_here _ list _ _ _ _ c.loop-k-test.true
    (sym (row_fits _ _ c.requires.0.rows list _ marks _ _ c.requires.4 _ _ _ c.look_up-row.ensures)
    ∙ sym c.row_fits.ensures
    ∙ c.if-not-row_fits.true))
    ∙ c.loop-k.invariant list marks

pub overflow_add-from : goal.overflow_add-from
overflow_add-from c =
    let t = rows_at c.args.table.now 0 c.args.n in
    let hash = hash_at c.args.pick.now (sizes.hash * c.loop-k.k) in
    let long = length_rows_at c.args.table.now 0 c.args.n in
    omega (arith, c.look_up-row.ensures, index_at_most (rows t) hash, length_rows t, long, c.requires.0.rows.few)

pub loop-k-preserved : goal.loop-k-preserved
loop-k-preserved c =
    λ list marks.
    sym
    (broken_next _ list _ _ _ _ c.loop-k-test.true
    (sym (row_fits _ _ c.requires.0.rows list _ marks _ _ c.requires.4 _ _ _ c.look_up-row.ensures)
    ∙ sym c.row_fits.ensures
    ∙ c.if-not-row_fits.false)
    _
    (c.look_up-row.ensures ∙ number_is _ _))
    ∙ c.loop-k.invariant list marks

pub returns : goal.returns
returns c =
    λ list marks.
    sym (broken_done _ list _ _ _ _ (omega arith) c.loop-k-test.false) ∙ c.loop-k.invariant list marks
