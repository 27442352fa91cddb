-- `waiting_missing::take::asked_count` meets its contract: the mark decides. Assumes nothing.
use Rattle.waiting_missing.proofs.take.asked_count.Goals as goal

pub returns-then-marks-row : goal.returns-then-marks-row
returns-then-marks-row c = rw c.if-marks-row.true c.asks_count.ensures

pub returns : goal.returns
returns c = rw c.if-marks-row.false
