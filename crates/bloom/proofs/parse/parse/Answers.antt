-- `bloom::parse::parse` meets its contract: no bytes are left, or the numbers are read. Assumes nothing.
use mathlib.Core.Path.{sym, ◌∙◌}
use Rattle.bloom.proofs.Filters.{filter_default, filter_numbers_lem}
use Rattle.bloom.proofs.parse.parse.Goals as goal

pub returns-then-left-eq0 : goal.returns-then-left-eq0
returns-then-left-eq0 c = sym (filter_default _ _ _ (sym c.left.ensures ∙ c.if-left-eq0.true))

pub returns : goal.returns
returns c =
    c.parse_numbers.ensures ∙ sym (filter_numbers_lem _ _ _ (λ e. c.if-left-eq0.false (c.left.ensures ∙ e)))
