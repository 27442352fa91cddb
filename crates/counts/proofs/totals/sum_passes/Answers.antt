-- `counts::totals::sum_passes` meets its contract: one sum that passes is enough. Assumes nothing.
use mathlib.Core.Path.{sym, ◌∙◌}
use Rattle.counts.proofs.TotalLaws.{past_first, past_second, past_third, past_fourth, past_fifth}
use Rattle.counts.proofs.totals.sum_passes.Goals as goal

pub returns-then-total_passes : goal.returns-then-total_passes
returns-then-total_passes c = past_first _ _ (sym c.total_passes.ensures ∙ c.if-total_passes.true)

pub returns-then-total_passes-2 : goal.returns-then-total_passes-2
returns-then-total_passes-2 c =
    past_second _ _ (sym c.total_passes.ensures ∙ c.if-total_passes.false) (sym c.total_passes-2.ensures ∙ c.if-total_passes-2.true)

pub returns-then-total_passes-3 : goal.returns-then-total_passes-3
returns-then-total_passes-3 c =
    past_third _ _ (sym c.total_passes.ensures ∙ c.if-total_passes.false) (sym c.total_passes-2.ensures ∙ c.if-total_passes-2.false)
    (sym c.total_passes-3.ensures ∙ c.if-total_passes-3.true)

pub returns-then-total_passes-4 : goal.returns-then-total_passes-4
returns-then-total_passes-4 c =
    past_fourth _ _ (sym c.total_passes.ensures ∙ c.if-total_passes.false) (sym c.total_passes-2.ensures ∙ c.if-total_passes-2.false)
    (sym c.total_passes-3.ensures ∙ c.if-total_passes-3.false)
    (sym c.total_passes-4.ensures ∙ c.if-total_passes-4.true)

pub returns : goal.returns
returns c =
    c.total_passes-5.ensures
    ∙ past_fifth _ _ (sym c.total_passes.ensures ∙ c.if-total_passes.false) (sym c.total_passes-2.ensures ∙ c.if-total_passes-2.false)
    (sym c.total_passes-3.ensures ∙ c.if-total_passes-3.false)
    (sym c.total_passes-4.ensures ∙ c.if-total_passes-4.false)
