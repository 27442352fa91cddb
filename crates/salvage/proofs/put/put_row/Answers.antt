-- `salvage::put::put_row` meets its contract: hash and count are the row's own bytes, the numbers are adjusted, and zeros follow them (PutLaws). Assumes
-- nothing.
use native.Mathlib.Omega.{arith}
use Rattle.salvage.proofs.PutLaws.{row_put}
use Rattle.salvage.proofs.put.put_row.Goals as goal

pub put_numbers-requires : goal.put_numbers-requires
put_numbers-requires c =
    (c.requires.0, c.requires.1, c.requires.2, omega (arith, c.requires.3), c.requires.4, omega (arith, c.copy_into.auto.out, c.row_place-place.ensures, c.requires.1, c.requires.5))

pub returns : goal.returns
returns c =
    row_put _ _ _ _ _ _ _ _ _ _ _ (λ j. (c.type_inv.table j).fits) c.requires.0 c.count_of-count.ensures c.row_place-start.ensures
    c.row_place-place.ensures c.copy_into.ensures c.put_numbers.ensures c.put_zeros.ensures
