-- `bloom::rule::filter_rules` meets its contract: its tests are those of `filter_rules`, in order. Assumes nothing.
use Prim.Native.Nat.{ℕ, ◌<◌}
use mathlib.Core.Path.{◌≡◌, sym, ◌∙◌}
use native.Mathlib.Omega.{arith}
use Rattle.bloom.proofs.Rules.{past_entries, past_bits, past_probes, other_size, no_entries, no_bits, many_probes, last_rule}
use Rattle.bloom.proofs.rule.filter_rules.Goals as goal

some : (n : ℕ) → (n ≡ 0 → ⊥) → 0 < n
some n h = omega arith

pub returns-then-entries-gt-MOST_FILTER : goal.returns-then-entries-gt-MOST_FILTER
returns-then-entries-gt-MOST_FILTER c = sym (past_entries _ _ _ _ c.if-entries-gt-MOST_FILTER.true)

pub returns-then-bits-gt-MOST_FILTER : goal.returns-then-bits-gt-MOST_FILTER
returns-then-bits-gt-MOST_FILTER c = sym (past_bits _ _ _ _ c.if-entries-gt-MOST_FILTER.false c.if-bits-gt-MOST_FILTER.true)

pub returns-then-probes-gt-MOST_FILTER : goal.returns-then-probes-gt-MOST_FILTER
returns-then-probes-gt-MOST_FILTER c = sym (past_probes _ _ _ _ c.if-entries-gt-MOST_FILTER.false c.if-bits-gt-MOST_FILTER.false c.if-probes-gt-MOST_FILTER.true)

pub returns-then-size-bits_capacity : goal.returns-then-size-bits_capacity
returns-then-size-bits_capacity c =
    sym
    (other_size _ _ _ _ c.if-entries-gt-MOST_FILTER.false c.if-bits-gt-MOST_FILTER.false c.if-probes-gt-MOST_FILTER.false
    (λ q. c.if-size-bits_capacity.true (q ∙ sym c.bits_capacity.ensures)))

pub returns-then-entries-eq0 : goal.returns-then-entries-eq0
returns-then-entries-eq0 c =
    sym
    (no_entries _ _ _ _ c.if-entries-gt-MOST_FILTER.false c.if-bits-gt-MOST_FILTER.false c.if-probes-gt-MOST_FILTER.false
    (c.if-size-bits_capacity.false ∙ c.bits_capacity.ensures)
    c.if-entries-eq0.true)

pub returns-then-bits-eq0 : goal.returns-then-bits-eq0
returns-then-bits-eq0 c =
    sym
    (no_bits _ _ _ _ c.if-entries-gt-MOST_FILTER.false c.if-bits-gt-MOST_FILTER.false c.if-probes-gt-MOST_FILTER.false
    (c.if-size-bits_capacity.false ∙ c.bits_capacity.ensures)
    c.if-entries-eq0.false
    c.if-bits-eq0.true)

pub returns-then-probes : goal.returns-then-probes
returns-then-probes c =
    sym
    (many_probes _ _ _ _ c.if-entries-gt-MOST_FILTER.false c.if-bits-gt-MOST_FILTER.false c.if-probes-gt-MOST_FILTER.false
    (c.if-size-bits_capacity.false ∙ c.bits_capacity.ensures)
    c.if-entries-eq0.false
    (some _ c.if-bits-eq0.false)
    c.if-probes.true)

pub returns : goal.returns
returns c =
    sym
    (last_rule _ _ _ _ c.if-entries-gt-MOST_FILTER.false c.if-bits-gt-MOST_FILTER.false c.if-probes-gt-MOST_FILTER.false
    (c.if-size-bits_capacity.false ∙ c.bits_capacity.ensures)
    c.if-entries-eq0.false
    (some _ c.if-bits-eq0.false)
    c.if-probes.false)
