-- `table_convert::put::put_rows` meets its contract: putting the rows that are left behind those that were put gives the buffer that putting all of
-- them gives (PutLaws). Assumes nothing.
use mathlib.Core.Path.{refl, ◌∙◌}
use Rattle.table_convert.proofs.PutLaws.{rows_start, rows_more, rows_all}
use Rattle.table_convert.proofs.put.put_rows.Goals as goal

pub loop-i-init : goal.loop-i-init
loop-i-init c = record { long = refl; rest = rows_start _ _ _ _ _ }

pub loop-i-preserved : goal.loop-i-preserved
loop-i-preserved c =
    record {
      long = c.put_row.auto.out ∙ c.loop-i.invariant.long;
      rest = rows_more _ _ _ _ _ _ _ c.loop-i-test.true (c.requires.0.narrow _ c.loop-i-test.true) c.put_row.ensures ∙ c.loop-i.invariant.rest;
    }

pub returns : goal.returns
returns c = rows_all _ _ _ _ _ _ c.loop-i-test.false ∙ c.loop-i.invariant.rest
