-- `pick::check::row_fits` meets its contract: its tests are the definition's. Assumes nothing.
use native.Mathlib.Omega.{arith}
use borrow.Author.Rules.{rules}
use borrow.Author.Tests.{lt-leb, le-leb}
use Rattle.table.proofs.GoodLaws.{good_part}
use Rattle.pick.proofs.GoesLaws.{fits_past, fits_unlisted, fits_early, fits_with}
use Rattle.pick.proofs.check.row_fits.Goals as goal

pub returns-then-n-row : goal.returns-then-n-row
returns-then-n-row c = fits_past _ _ _ _ _ _ c.if-n-row.true

pub returns-then-not-listed-row : goal.returns-then-not-listed-row
returns-then-not-listed-row c = fits_unlisted _ _ _ _ _ _ c.if-n-row.false c.if-not-listed-row.true

pub returns-then-row-from : goal.returns-then-row-from
returns-then-row-from c =
    fits_early _ _ _ _ _ _ c.if-n-row.false c.if-not-listed-row.false (lt-leb _ _ c.if-row-from.true)

pub goes_with-requires : goal.goes_with-requires
goes_with-requires c =
    (good_part _ _ _ c.requires.0 (omega (arith, c.if-n-row.false)), omega (arith, c.if-n-row.false, c.requires.1), omega (arith, c.if-n-row.false, c.requires.2))

pub returns : goal.returns
returns c =
    fits_with _ _ _ _ _ _ c.if-n-row.false c.if-not-listed-row.false (le-leb _ _ (search rules)) _ c.goes_with.ensures
