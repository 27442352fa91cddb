-- `receive_parts::heads::has_last` meets its contract: the last row is a head, so a list without it isn't the heads (HeadLaws). Assumes nothing.
use native.Mathlib.Omega.{arith}
use mathlib.Core.Path.{refl, sym, ◌∙◌}
use Rattle.rules.proofs.Cases.{true_false}
use Rattle.receive_parts.proofs.HeadLaws.{lacks_last}
use Rattle.receive_parts.proofs.heads.has_last.Goals as goal

pub returns-then-before-eq0 : goal.returns-then-before-eq0
returns-then-before-eq0 c = λ e. absurd (true_false _ refl e)

pub overflow_mul-before : goal.overflow_mul-before
overflow_mul-before c = omega (arith, c.requires.0.few)

pub is_in-requires : goal.is_in-requires
is_in-requires c = (omega (arith, c.if-before-eq0.false, c.requires.0.inside), c.requires.1)

pub returns : goal.returns
returns c = λ e. lacks_last _ _ c.requires.0 (omega (arith, c.if-before-eq0.false)) _ (sym c.is_in.ensures ∙ e)
