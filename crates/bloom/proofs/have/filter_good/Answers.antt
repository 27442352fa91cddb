-- `bloom::have::filter_good` meets its contract: the rules decide, and else where the field stands does. Assumes nothing.
use mathlib.Core.Path.{sym, ap, ◌∙◌}
use Rattle.bloom.specs.Have.{filter_good}
use Rattle.bloom.proofs.HaveLaws.{filter_broken, filter_where}
use Rattle.bloom.proofs.have.filter_good.Goals as goal

pub returns-then-not-filter_rules : goal.returns-then-not-filter_rules
returns-then-not-filter_rules c =
    sym (filter_broken _ _ (sym c.filter_rules.ensures ∙ c.if-not-filter_rules.true))
    ∙ ap (filter_good _) c.filter_in-f.ensures

pub returns : goal.returns
returns c =
    c.inside.ensures
    ∙ sym (filter_where _ _ (sym c.filter_rules.ensures ∙ c.if-not-filter_rules.false))
    ∙ ap (filter_good _) c.filter_in-f.ensures
