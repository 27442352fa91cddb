-- `salvage::put::put_rows` meets its contract: the buffer has the kept ones of the rows that were passed (PutLaws). Assumes nothing.
use Rattle.salvage.proofs.PutLaws.{rows_start, rows_more}
use Rattle.salvage.proofs.put.put_rows.Goals as goal

pub loop-i-init : goal.loop-i-init
loop-i-init c = rows_start _ _ _ _

pub loop-i-preserved : goal.loop-i-preserved
loop-i-preserved c =
    rows_more _ _ _ _ _ _ _ c.loop-i-test.true c.loop-i.invariant c.put_kept.ensures
