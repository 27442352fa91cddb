-- `plan_parts::silence::heard_none` meets its contract: what wasn't heard is no list, and a list of none has no hash. Assumes nothing.
use mathlib.Core.List.{[]}
use mathlib.Core.Path.{refl}
use Rattle.plan_parts.proofs.HeardLaws.{none_nothing, none_count}
use Rattle.plan_parts.proofs.silence.heard_none.Goals as goal

pub returns-in-None : goal.returns-in-None
returns-in-None c = λ theirs. none_nothing theirs _ [] c.in-None.is

pub returns-in-Some : goal.returns-in-Some
returns-in-Some c = λ theirs. none_count theirs _ [] _ c.in-Some.is _ refl
