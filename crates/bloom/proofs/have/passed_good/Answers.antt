-- `bloom::have::passed_good` meets its contract: the haves from record i on decide what all of them do. Assumes nothing.
use mathlib.Core.Path.{sym, ◌∙◌}
use Rattle.bloom.proofs.HaveLaws.{testing_starts, not_whole, testing_fails, testing_on, testing_ends}
use Rattle.bloom.proofs.have.passed_good.Goals as goal

pub returns-then-haves-ne0 : goal.returns-then-haves-ne0
returns-then-haves-ne0 c = sym (not_whole _ _ c.if-haves-ne0.true)

pub loop-i-init : goal.loop-i-init
loop-i-init c = testing_starts _ _ _ c.at_most-total.ensures c.if-haves-ne0.false

pub returns-then-not-have_good : goal.returns-then-not-have_good
returns-then-not-have_good c =
    sym (testing_fails _ _ _ _ c.loop-i-test.true (sym c.have_good.ensures ∙ c.if-not-have_good.true))
    ∙ c.loop-i.invariant

pub loop-i-preserved : goal.loop-i-preserved
loop-i-preserved c =
    sym (testing_on _ _ _ _ c.loop-i-test.true (sym c.have_good.ensures ∙ c.if-not-have_good.false))
    ∙ c.loop-i.invariant

pub returns : goal.returns
returns c = sym (testing_ends _ _ _ _ c.loop-i-test.false) ∙ c.loop-i.invariant
