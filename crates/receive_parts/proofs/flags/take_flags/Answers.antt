-- `receive_parts::flags::take_flags` meets its contract: field by field, for each way through the section and its reset. Assumes nothing.
use mathlib.Core.Path.{sym, ◌∙◌}
use Rattle.receive_parts.proofs.flags.take_flags.Goals as goal

pub returns-in-None : goal.returns-in-None
returns-in-None c = rw c.in-None.is

pub returns-then-wants_reset : goal.returns-then-wants_reset
returns-then-wants_reset c =
    rw (c.in-Some.is, c.supports_reset.ensures, c.read_only.ensures, sym c.wants_reset.ensures ∙ c.if-wants_reset.true)

pub returns-else-wants_reset : goal.returns-else-wants_reset
returns-else-wants_reset c =
    rw (c.in-Some.is, c.supports_reset.ensures, c.read_only.ensures, sym c.wants_reset.ensures ∙ c.if-wants_reset.false)
