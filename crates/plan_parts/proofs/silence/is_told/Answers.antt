-- `plan_parts::silence::is_told` meets its contract: other heads decide, and else the answer does. Assumes nothing.
use mathlib.Core.Path.{sym, ◌∙◌}
use Rattle.plan_parts.proofs.TestLaws.{first_fails, second_decides}
use Rattle.plan_parts.proofs.silence.is_told.Goals as goal

pub returns-then-not-same_marked : goal.returns-then-not-same_marked
returns-then-not-same_marked c = first_fails _ _ (sym c.same_marked.ensures ∙ c.if-not-same_marked.true)

pub returns : goal.returns
returns c = second_decides _ _ (sym c.same_marked.ensures ∙ c.if-not-same_marked.false)
