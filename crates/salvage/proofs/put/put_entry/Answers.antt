-- `salvage::put::put_entry` meets its contract: a case for each way to end (PutLaws). Assumes nothing.
use native.Mathlib.Omega.{arith}
use lib.ListN.{length-set}
use Rattle.salvage.proofs.PutLaws.{entry_none, entry_room, entry_told}
use Rattle.salvage.proofs.put.put_entry.Goals as goal

pub returns-then-rule-eq0 : goal.returns-then-rule-eq0
returns-then-rule-eq0 c = entry_none _ _ _ _ c.if-rule-eq0.true

pub bounds-report-at : goal.bounds-report-at
bounds-report-at c = omega (arith, entry_room _ _ _ c.if-rule-eq0.false _ c.requires)

pub bounds-report-at-2 : goal.bounds-report-at-2
bounds-report-at-2 c = simp length-set (omega (arith, entry_room _ _ _ c.if-rule-eq0.false _ c.requires))

pub returns : goal.returns
returns c = entry_told _ _ _ c.if-rule-eq0.false _
