-- `table_check::check::check_in_order` meets its contract: 4 goes first; then the order of all rows, which was made, decides, and stays. Assumes nothing.
use Prim.Native.Nat.{ℕ, ◌/◌}
use mathlib.Core.Path.{◌≡◌, refl}
use native.Mathlib.Omega.{arith}
use lib.ListN.{length}
use Rattle.table.specs.TableBytes.{row_size_of}
use Rattle.table_check.specs.Internal.Repeats.{RowOrder}
use Rattle.table_check.proofs.CheckLaws.{limit_fits, past_in_order, left_in_order, within_limit, whole_inside, whole_few, rows_ordered}
use Rattle.table_check.proofs.check.check_in_order.Goals as goal

pub overflow_mul-width : goal.overflow_mul-width
overflow_mul-width c = record { fits = limit_fits _ _ c.row_size-size.ensures c.requires.0 }

pub returns-then-width-size : goal.returns-then-width-size
returns-then-width-size c =
    past_in_order _ _ _ c.row_size-size.ensures _ c.if-width-size.true

pub build_by_rows-requires : goal.build_by_rows-requires
build_by_rows-requires c =
    let few = whole_few _ _ _ (omega (arith, c.row_size-size.ensures)) c.if-width-size.false in
    (whole_inside _ _, omega (arith, c.row_size-size.ensures), omega (arith, few, c.requires.1, c.requires.2), omega (arith, few, c.requires.1))

pub check_ordered-requires : goal.check_ordered-requires
check_ordered-requires c =
    let n : ℕ = length c.args.table.now / c.row_size-size.result in
    let few = whole_few _ _ _ (omega (arith, c.row_size-size.ensures)) c.if-width-size.false in
    let ordered : (n ≡ length c.args.table.now / row_size_of c.args.width.dependencies) × RowOrder c.args.width.dependencies c.args.table.now c.build_by_rows.new.index n =
    rows_ordered _ _ _ _ _ c.row_size-size.ensures refl (omega (arith, few, c.requires.1, c.requires.2, c.build_by_rows.auto.index)) c.build_by_rows.ensures
    in
    (c.requires.0, within_limit _ _ c.row_size-size.ensures _ c.if-width-size.false, ordered.0, ordered.1)

pub returns : goal.returns
returns c =
    let n : ℕ = length c.args.table.now / c.row_size-size.result in
    let few = whole_few _ _ _ (omega (arith, c.row_size-size.ensures)) c.if-width-size.false in
    let ordered : (n ≡ length c.args.table.now / row_size_of c.args.width.dependencies) × RowOrder c.args.width.dependencies c.args.table.now c.build_by_rows.new.index n =
    rows_ordered _ _ _ _ _ c.row_size-size.ensures refl (omega (arith, few, c.requires.1, c.requires.2, c.build_by_rows.auto.index)) c.build_by_rows.ensures
    in
    left_in_order _ _ _ _ _ ordered.0 ordered.1 c.check_ordered.ensures
