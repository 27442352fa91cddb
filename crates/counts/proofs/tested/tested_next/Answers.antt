-- `counts::tested::tested_next` meets its contract: a row that is held counts nothing. Assumes nothing.
use mathlib.Core.Path.{sym, ◌∙◌}
use Rattle.counts.proofs.TestedLaws.{next_held, next_contained, next_missed}
use Rattle.counts.proofs.tested.tested_next.Goals as goal

pub returns-then-held : goal.returns-then-held
returns-then-held c = next_held _ _ _ c.if-held.true

pub returns-then-contains_hash : goal.returns-then-contains_hash
returns-then-contains_hash c =
    next_contained _ _ _ c.if-held.false (sym c.contains_hash.ensures ∙ c.if-contains_hash.true)

pub returns : goal.returns
returns c =
    next_missed _ _ _ c.if-held.false (sym c.contains_hash.ensures ∙ c.if-contains_hash.false)
