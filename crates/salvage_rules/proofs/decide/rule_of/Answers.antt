-- `salvage_rules::decide::rule_of` meets its contract: the tests are those of the definition, in its order (DecideLaws). Assumes nothing.
use mathlib.Core.Path.{sym, ◌∙◌}
use native.Mathlib.Omega.{arith}
use Rattle.salvage_rules.proofs.DecideLaws.{rule_count, rule_numbers, rule_zeros, rule_repeated, rule_lost, rule_none}
use Rattle.salvage_rules.proofs.decide.rule_of.Goals as goal

pub returns-then-d-count_of : goal.returns-then-d-count_of
returns-then-d-count_of c =
    rule_count _ _ _ _ _ c.requires _ c.count_of.ensures c.if-d-count_of.true

pub returns-then-not-numbers_good : goal.returns-then-not-numbers_good
returns-then-not-numbers_good c =
    rule_numbers _ _ _ _ _ c.requires _ c.count_of.ensures c.if-d-count_of.false (sym c.numbers_good.ensures ∙ c.if-not-numbers_good.true)

pub returns-then-not-zeros_good : goal.returns-then-not-zeros_good
returns-then-not-zeros_good c =
    rule_zeros _ _ _ _ _ c.requires _ c.count_of.ensures c.if-d-count_of.false
    (sym c.numbers_good.ensures ∙ c.if-not-numbers_good.false)
    (sym c.zeros_good.ensures ∙ c.if-not-zeros_good.true)

pub returns-then-taken : goal.returns-then-taken
returns-then-taken c =
    rule_repeated _ _ _ _ _ c.requires _ c.count_of.ensures c.if-d-count_of.false
    (sym c.numbers_good.ensures ∙ c.if-not-numbers_good.false)
    (sym c.zeros_good.ensures ∙ c.if-not-zeros_good.false)
    c.if-taken.true

pub deps_kept-requires : goal.deps_kept-requires
deps_kept-requires c =
    (c.requires.inside, omega (arith, c.count_of.ensures, c.if-d-count_of.false), sym c.numbers_good.ensures ∙ c.if-not-numbers_good.false, c.requires.long)

pub returns-then-not-deps_kept : goal.returns-then-not-deps_kept
returns-then-not-deps_kept c =
    rule_lost _ _ _ _ _ c.requires _ c.count_of.ensures c.if-d-count_of.false
    (sym c.numbers_good.ensures ∙ c.if-not-numbers_good.false)
    (sym c.zeros_good.ensures ∙ c.if-not-zeros_good.false)
    c.if-taken.false
    (sym c.deps_kept.ensures ∙ c.if-not-deps_kept.true)

pub returns : goal.returns
returns c =
    rule_none _ _ _ _ _ c.requires _ c.count_of.ensures c.if-d-count_of.false
    (sym c.numbers_good.ensures ∙ c.if-not-numbers_good.false)
    (sym c.zeros_good.ensures ∙ c.if-not-zeros_good.false)
    c.if-taken.false
    (sym c.deps_kept.ensures ∙ c.if-not-deps_kept.false)
