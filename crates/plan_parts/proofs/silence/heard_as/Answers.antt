-- `plan_parts::silence::heard_as` meets its contract: what wasn't heard is no list, and else the lists are compared. Assumes nothing.
use mathlib.Core.Path.{◌∙◌}
use native.Mathlib.Omega.{arith}
use Rattle.plan_parts.proofs.HeardLaws.{count_there, as_nothing, as_count}
use Rattle.plan_parts.proofs.silence.heard_as.Goals as goal

pub same_marked-requires : goal.same_marked-requires
same_marked-requires c =
    (c.requires.0, omega arith, c.requires.1, count_there _ _ _ c.in-Some.is c.requires.2)

pub returns-in-None : goal.returns-in-None
returns-in-None c = as_nothing _ _ _ c.in-None.is

pub returns-in-Some : goal.returns-in-Some
returns-in-Some c = c.same_marked.ensures ∙ as_count _ _ _ _ c.in-Some.is
