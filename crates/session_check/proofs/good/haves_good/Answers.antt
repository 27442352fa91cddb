-- `session_check::good::haves_good` meets its contract: what is absent is good; else each test that fails decides, and after three that pass the
-- last-sync hashes do. Assumes nothing.
use mathlib.Core.Path.{sym, ◌∙◌}
use lib.Seq.{length-take-le}
use Rattle.session_check.proofs.GoodLaws.{haves_nothing, haves_many, haves_short, haves_bad, syncs_decide}
use Rattle.session_check.proofs.good.haves_good.Goals as goal

pub returns-in_default : goal.returns-in_default
returns-in_default c = sym (haves_nothing _ _ _ c.in_default.is)

pub returns-then-count-gt-HAVES : goal.returns-then-count-gt-HAVES
returns-then-count-gt-HAVES c = sym (haves_many _ _ _ _ c.in-Some.is c.if-count-gt-HAVES.true)

pub returns-then-haves-count : goal.returns-then-haves-count
returns-then-haves-count c =
    sym (haves_short _ _ _ _ c.in-Some.is c.if-count-gt-HAVES.false c.if-haves-count.true)

pub slice_bounds-kept-end : goal.slice_bounds-kept-end
slice_bounds-kept-end c = sym (length-take-le _ _ c.if-haves-count.false)

pub returns-then-not-passed_good : goal.returns-then-not-passed_good
returns-then-not-passed_good c =
    sym (haves_bad _ _ _ _ c.in-Some.is c.if-count-gt-HAVES.false c.if-haves-count.false
    (sym c.passed_good.ensures ∙ c.if-not-passed_good.true))

pub returns : goal.returns
returns c =
    c.passed_few.ensures
    ∙ sym (syncs_decide _ _ _ _ c.in-Some.is c.if-count-gt-HAVES.false c.if-haves-count.false
    (sym c.passed_good.ensures ∙ c.if-not-passed_good.false))
