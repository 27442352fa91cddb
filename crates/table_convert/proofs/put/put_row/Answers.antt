-- `table_convert::put::put_row` meets its contract: the bytes up to the last number in use are the row's in both widths, and zeros follow them
-- (PutLaws). Assumes nothing.
use mathlib.Core.Path.{refl}
use native.Mathlib.Omega.{arith}
use Rattle.table_convert.proofs.PutLaws.{row_put}
use Rattle.table_convert.proofs.put.put_row.Goals as goal

pub returns : goal.returns
returns c =
    row_put _ _ _ _ _ _ _ _ _ _ _ (λ k. (c.type_inv.table k).fits) c.requires.0 c.count_of-count.ensures
    (omega (arith, c.count_of-count.ensures, c.requires.2)) c.row_place-start.ensures c.row_place-place.ensures refl c.copy_into.ensures
    c.put_zeros.ensures
