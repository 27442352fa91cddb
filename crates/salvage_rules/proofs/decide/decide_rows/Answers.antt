-- `salvage_rules::decide::decide_rows` meets its contract: each turn decides one row, and keeps whether a kept row has a class (DecideLaws). Assumes
-- nothing.
use mathlib.Core.Path.{refl}
use native.Mathlib.Omega.{arith}
use Rattle.table.proofs.RowLaws.{row_within}
use Rattle.salvage_rules.proofs.DecideLaws.{none_kept, count_few, rules_next, places_next, count_next, taken_next, before_row, class_low}
use Rattle.salvage_rules.proofs.decide.decide_rows.Goals as goal

pub loop-i-init : goal.loop-i-init
loop-i-init c =
    record {
      takes = c.requires.7;
      rule = λ j h. absurd (omega (arith, h));
      place = λ j h. absurd (omega (arith, h));
      count = none_kept _ _;
    }

pub rule_of-rule-requires : goal.rule_of-rule-requires
rule_of-rule-requires c =
    before_row _ _ _ _ c.requires.6 c.loop-i.rules c.loop-i.taken _ _ c.loop-i-test.true (row_within _ _ _ _ c.loop-i-test.true c.requires.0) _ c.loop-i.auto.rules c.requires.4 c.loop-i.invariant.rule c.loop-i.invariant.takes refl

pub overflow_cast-places : goal.overflow_cast-places
overflow_cast-places c =
    omega (arith, count_few _ _ _ _ c.loop-i.invariant.count, c.loop-i-test.true, c.requires.1)

pub kept_after-kept-requires : goal.kept_after-kept-requires
kept_after-kept-requires c =
    omega (arith, count_few _ _ _ _ c.loop-i.invariant.count, c.loop-i-test.true, c.requires.1)

pub loop-i-preserved : goal.loop-i-preserved
loop-i-preserved c =
    record {
      takes =
          taken_next _ _ _ _ c.requires.6 c.loop-i.taken _ _ _ _ c.loop-i.invariant.takes refl (class_low _ _ _ _ c.requires.6 _ _ c.loop-i-test.true refl) _ c.loop-i.auto.taken c.requires.3 c.rule_of-rule.ensures
          c.taken_after.ensures;
      rule = rules_next _ _ c.loop-i.rules _ _ c.loop-i-test.true _ c.loop-i.auto.rules c.requires.4 c.loop-i.invariant.rule c.rule_of-rule.ensures;
      place = places_next _ _ c.loop-i.places _ _ c.loop-i-test.true _ c.loop-i.auto.places c.requires.5 c.loop-i.invariant.place c.loop-i.invariant.count;
      count = count_next _ _ _ _ _ _ c.loop-i.invariant.count c.rule_of-rule.ensures c.kept_after-kept.ensures;
    }
