-- `bloom::rule::build_rules` meets its contract: numbers that are too large for a size break the rules at any size. Assumes nothing.
use mathlib.Core.Path.{sym}
use Rattle.bloom.proofs.Rules.{past_entries, past_bits}
use Rattle.bloom.proofs.rule.build_rules.Goals as goal

pub returns-then-entries-gt-MOST_FILTER : goal.returns-then-entries-gt-MOST_FILTER
returns-then-entries-gt-MOST_FILTER c = sym (past_entries _ _ _ _ c.if-entries-gt-MOST_FILTER.true)

pub returns-then-bits-gt-MOST_FILTER : goal.returns-then-bits-gt-MOST_FILTER
returns-then-bits-gt-MOST_FILTER c = sym (past_bits _ _ _ _ c.if-entries-gt-MOST_FILTER.false c.if-bits-gt-MOST_FILTER.true)

pub returns : goal.returns
returns c = rw c.bits_capacity.ensures at c.filter_rules.ensures
