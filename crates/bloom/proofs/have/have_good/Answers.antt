-- `bloom::have::have_good` meets its contract: too many hashes for the bytes stand nowhere in them, then their place is tested, and then the
-- filter decides. Assumes nothing.
use mathlib.Core.Path.{sym, ◌∙◌}
use Rattle.bloom.proofs.HaveLaws.{sync_many, sync_outside, filter_decides}
use Rattle.bloom.proofs.have.have_good.Goals as goal

pub returns-then-bytes-count : goal.returns-then-bytes-count
returns-then-bytes-count c = sym (sync_many _ _ _ _ c.sync_count-count.ensures c.if-bytes-count.true)

pub returns-then-not-inside : goal.returns-then-not-inside
returns-then-not-inside c =
    sym
    (sync_outside _ _ _ _ _ c.sync_place.ensures c.sync_count-count.ensures (sym c.inside.ensures ∙ c.if-not-inside.true))

pub returns : goal.returns
returns c =
    c.filter_good.ensures
    ∙ sym
    (filter_decides _ _ _ _ _ c.sync_place.ensures c.sync_count-count.ensures
    (sym c.inside.ensures ∙ c.if-not-inside.false))
