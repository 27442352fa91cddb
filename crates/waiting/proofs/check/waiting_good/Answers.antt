-- `waiting::check::waiting_good` meets its contract: one law of WaitingLaws for each test that decides. Assumes nothing.
use mathlib.Core.Path.{sym, ◌∙◌}
use Rattle.table.proofs.TableLaws.{length_rows_at}
use Rattle.waiting.proofs.WaitingLaws.{waiting_many, waiting_fill, waiting_unasked, waiting_twice, waiting_held}
use Rattle.waiting.proofs.check.waiting_good.Goals as goal

pub returns-then-count-gt-DEPENDENCIES : goal.returns-then-count-gt-DEPENDENCIES
returns-then-count-gt-DEPENDENCIES c = sym (waiting_many _ _ _ _ c.asks_count-count.ensures c.if-count-gt-DEPENDENCIES.true)

pub returns-then-not-zero_bytes : goal.returns-then-not-zero_bytes
returns-then-not-zero_bytes c =
    sym (waiting_fill _ _ _ _ c.asks_count-count.ensures c.if-count-gt-DEPENDENCIES.false (sym c.zero_bytes.ensures ∙ c.if-not-zero_bytes.true))

pub returns-then-not-zero_bytes-2 : goal.returns-then-not-zero_bytes-2
returns-then-not-zero_bytes-2 c =
    sym
    (waiting_unasked _ _ _ _ c.asks_count-count.ensures c.if-count-gt-DEPENDENCIES.false
    (sym c.zero_bytes.ensures ∙ c.if-not-zero_bytes.false)
    c.requires.1
    (sym c.zero_bytes-2.ensures ∙ c.if-not-zero_bytes-2.true))

pub returns-then-find_waiting-i : goal.returns-then-find_waiting-i
returns-then-find_waiting-i c =
    sym
    (waiting_twice _ _ _ _ c.asks_count-count.ensures c.if-count-gt-DEPENDENCIES.false
    (sym c.zero_bytes.ensures ∙ c.if-not-zero_bytes.false)
    c.requires.1
    (sym c.zero_bytes-2.ensures ∙ c.if-not-zero_bytes-2.false)
    _
    c.find_waiting.ensures
    c.if-find_waiting-i.true)

pub returns : goal.returns
returns c =
    sym
    (waiting_held _ _ _ _ c.asks_count-count.ensures c.if-count-gt-DEPENDENCIES.false
    (sym c.zero_bytes.ensures ∙ c.if-not-zero_bytes.false)
    c.requires.1
    (sym c.zero_bytes-2.ensures ∙ c.if-not-zero_bytes-2.false)
    _
    c.find_waiting.ensures
    c.if-find_waiting-i.false
    _
    _
    (length_rows_at _ 0 _)
    c.look_up.ensures)
