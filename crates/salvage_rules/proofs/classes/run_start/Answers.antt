-- `salvage_rules::classes::run_start` meets its contract: one law of ClassLaws for each way to end. Assumes nothing.
use Prim.Native.Nat.{◌<◌}
use mathlib.Core.Path.{sym, ◌∙◌}
use native.Mathlib.Omega.{arith}
use Rattle.table.proofs.RowLaws.{row_within}
use Rattle.table_check.proofs.RepeatLaws.{entry_row, same_rows, start_stands}
use Rattle.salvage_rules.proofs.ClassLaws.{run_first, run_new, run_on, told_runs}
use Rattle.salvage_rules.proofs.classes.run_start.Goals as goal

pub returns-then-k-eq0 : goal.returns-then-k-eq0
returns-then-k-eq0 c = run_first _ _ c.if-k-eq0.true

pub row_place-requires : goal.row_place-requires
row_place-requires c =
    omega (arith, row_within _ _ _ _ ((let it : c.u16_at-row.result < c.args.n = entry_row _ _ _ _ c.requires.0 _ _ c.requires.1 c.u16_at-row.ensures in it)) c.requires.0.inside)

pub row_place-requires-2 : goal.row_place-requires-2
row_place-requires-2 c =
    omega (arith, row_within _ _ _ _ ((let it : c.u16_at-before.result < c.args.n = entry_row _ _ _ _ c.requires.0 _ _ (omega (arith, c.requires.1)) c.u16_at-before.ensures in it)) c.requires.0.inside)

pub same_hash-requires : goal.same_hash-requires
same_hash-requires c = (
  start_stands _ _ _ _ _ ((let it : c.u16_at-row.result < c.args.n = entry_row _ _ _ _ c.requires.0 _ _ c.requires.1 c.u16_at-row.ensures in it)) c.requires.0.inside c.row_place.ensures,
  start_stands _ _ _ _ _ ((let it : c.u16_at-before.result < c.args.n = entry_row _ _ _ _ c.requires.0 _ _ (omega (arith, c.requires.1)) c.u16_at-before.ensures in it)) c.requires.0.inside c.row_place-2.ensures,
)

pub returns-then-not-same_hash : goal.returns-then-not-same_hash
returns-then-not-same_hash c =
    let same = same_rows _ _ _ _ _ _ _ c.row_place.ensures c.row_place-2.ensures c.same_hash.ensures in
    run_new _ _ c.if-k-eq0.false
    (sym (told_runs _ _ _ _ _ _ _ same c.u16_at-row.ensures c.u16_at-before.ensures) ∙ c.if-not-same_hash.true)

pub returns : goal.returns
returns c =
    let same = same_rows _ _ _ _ _ _ _ c.row_place.ensures c.row_place-2.ensures c.same_hash.ensures in
    run_on _ _ _ c.if-k-eq0.false
    (sym (told_runs _ _ _ _ _ _ _ same c.u16_at-row.ensures c.u16_at-before.ensures) ∙ c.if-not-same_hash.false)
    c.requires.2
