-- `table_index_build::build::extend_index` meets its contract: one law of BuildLaws for each answer. Assumes nothing.
use mathlib.Core.Path.{refl, sym, ◌∙◌}
use Rattle.rules.proofs.Outputs.{refused}
use Rattle.table_index_build.proofs.BuildLaws.{extend_past, extend_refused, extend_unfit, extend_written}
use Rattle.rules.proofs.Cases.{handed_on}
use Rattle.table_index_build.proofs.build.extend_index.Goals as goal

pub returns-then-table : goal.returns-then-table
returns-then-table c = rw (extend_past _ _ c.if-table.true) (refused _ _)

pub put_extended-requires : goal.put_extended-requires
put_extended-requires c =
    (c.if-table.false, refl, sym c.fits_but_last.ensures ∙ c.if-fits_but_last.true)

pub returns-then-fits_but_last : goal.returns-then-fits_but_last
returns-then-fits_but_last c =
    rw (extend_written _ _ _ refl (sym c.fits_but_last.ensures ∙ c.if-fits_but_last.true)) c.put_extended.ensures

pub returns-in_err-check_alone : goal.returns-in_err-check_alone
returns-in_err-check_alone c = rw (handed_on c.from_residual.ensures.1, extend_refused _ _ _ (sym c.in_err-check_alone.ensures)) (refused _ _)

pub returns : goal.returns
returns c =
    rw
    (extend_unfit _ _ _ refl _ (sym c.in_ok-check_alone.ensures)
    (sym c.fits_but_last.ensures ∙ c.if-fits_but_last.false))
    (refused _ _)
