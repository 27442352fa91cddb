-- `table_check::repeat::or_repeat` meets its contract: one law of RepeatLaws for each way to end. Assumes nothing.
use Prim.Native.Nat.{◌<◌}
use mathlib.Core.Path.{sym, ◌∙◌}
use native.Mathlib.Omega.{arith}
use Rattle.table.proofs.RowLaws.{row_within}
use Rattle.table_check.proofs.RepeatLaws.{or_other, or_lesser, or_first, entry_row, same_rows, start_stands}
use Rattle.table_check.proofs.repeat.or_repeat.Goals as goal

pub row_place-requires : goal.row_place-requires
row_place-requires c =
    omega (arith, row_within _ _ _ _ ((let it : c.u16_at-row.result < c.args.n = entry_row _ _ _ _ c.requires.0 _ _ (omega (arith, c.requires.1)) c.u16_at-row.ensures in it)) c.requires.0.inside)

pub row_place-requires-2 : goal.row_place-requires-2
row_place-requires-2 c =
    omega (arith, row_within _ _ _ _ ((let it : c.u16_at-next.result < c.args.n = entry_row _ _ _ _ c.requires.0 _ _ c.requires.1 c.u16_at-next.ensures in it)) c.requires.0.inside)

pub same_hash-requires : goal.same_hash-requires
same_hash-requires c = (
  start_stands _ _ _ _ _ ((let it : c.u16_at-row.result < c.args.n = entry_row _ _ _ _ c.requires.0 _ _ (omega (arith, c.requires.1)) c.u16_at-row.ensures in it)) c.requires.0.inside c.row_place.ensures,
  start_stands _ _ _ _ _ ((let it : c.u16_at-next.result < c.args.n = entry_row _ _ _ _ c.requires.0 _ _ c.requires.1 c.u16_at-next.ensures in it)) c.requires.0.inside c.row_place-2.ensures,
)

pub returns-then-not-same_hash : goal.returns-then-not-same_hash
returns-then-not-same_hash c =
    let same = same_rows _ _ _ _ _ _ _ c.row_place.ensures c.row_place-2.ensures c.same_hash.ensures in
    or_other _ _ _ _ _ _ c.u16_at-row.ensures c.u16_at-next.ensures (sym same ∙ c.if-not-same_hash.true)

pub returns-then-row-first : goal.returns-then-row-first
returns-then-row-first c =
    let same = same_rows _ _ _ _ _ _ _ c.row_place.ensures c.row_place-2.ensures c.same_hash.ensures in
    or_lesser _ _ _ _ _ _ c.u16_at-row.ensures c.u16_at-next.ensures (sym same ∙ c.if-not-same_hash.false) c.if-row-first.true

pub returns : goal.returns
returns c =
    let same = same_rows _ _ _ _ _ _ _ c.row_place.ensures c.row_place-2.ensures c.same_hash.ensures in
    or_first _ _ _ _ _ _ c.u16_at-row.ensures c.u16_at-next.ensures (sym same ∙ c.if-not-same_hash.false) c.if-row-first.false
