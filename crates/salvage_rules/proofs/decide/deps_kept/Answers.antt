-- `salvage_rules::decide::deps_kept` meets its contract: what the numbers from the j-th on say is what all of them say, until one names a dropped row or
-- none is left (DecideLaws). Assumes nothing.
use mathlib.Core.Path.{sym, ◌∙◌}
use native.Mathlib.Omega.{arith}
use Rattle.salvage_rules.proofs.DecideLaws.{number_low, left_starts, left_lost, left_on, left_ends}
use Rattle.salvage_rules.proofs.decide.deps_kept.Goals as goal

pub loop-j-init : goal.loop-j-init
loop-j-init c = left_starts _ _ _ _ _ c.count_of-count.ensures

pub bounds-rules-k : goal.bounds-rules-k
bounds-rules-k c =
    omega (arith, number_low _ _ _ _ _ _ c.requires.2 c.count_of-count.ensures c.loop-j-test.true c.dep_of-k.ensures, c.requires.3)

pub returns-then-rules-k-ne0 : goal.returns-then-rules-k-ne0
returns-then-rules-k-ne0 c =
    sym (left_lost _ _ _ _ _ _ _ c.loop-j-test.true c.dep_of-k.ensures c.if-rules-k-ne0.true) ∙ c.loop-j.invariant

pub loop-j-preserved : goal.loop-j-preserved
loop-j-preserved c =
    sym (left_on _ _ _ _ _ _ _ c.loop-j-test.true c.dep_of-k.ensures c.if-rules-k-ne0.false) ∙ c.loop-j.invariant

pub returns : goal.returns
returns c = sym (left_ends _ _ _ _ _ _ c.loop-j-test.false) ∙ c.loop-j.invariant
