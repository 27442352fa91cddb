-- `send_records::laid::with_next` meets its contract: one case of `with_next` for each answer. Assumes nothing.
use mathlib.Core.Path.{sym}
use Rattle.send_records.proofs.LaidLaws.{next_none, next_full, next_stored}
use Rattle.send_records.proofs.laid.with_next.Goals as goal

pub returns-then-total-count : goal.returns-then-total-count
returns-then-total-count c = sym (next_none _ _ _ c.if-total-count.true)

pub returns-then-count-ge-LAID_HAVES : goal.returns-then-count-ge-LAID_HAVES
returns-then-count-ge-LAID_HAVES c = sym (next_full _ _ _ c.if-total-count.false c.if-count-ge-LAID_HAVES.true)

pub returns : goal.returns
returns c = next_stored _ _ _ c.if-total-count.false c.if-count-ge-LAID_HAVES.false
