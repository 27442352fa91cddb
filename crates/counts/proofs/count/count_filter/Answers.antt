-- `counts::count::count_filter` meets its contract: a filter that was read is good. Assumes nothing.
use mathlib.Core.Path.{sym, ap, ◌∙◌}
use Rattle.rules.proofs.Cases.{handed_on}
use Rattle.counts.proofs.CountLaws.{read_good, filter_refused, filter_accepted}
use Rattle.counts.proofs.count.count_filter.Goals as goal
use Rattle.std.specs.Prelude.{Ok}

pub counts_of-requires : goal.counts_of-requires
counts_of-requires c =
    (c.requires.0, c.requires.1, read_good _ _ _ (λ i. (c.type_inv.filter i).fits) (sym c.in_ok-f.ensures))

pub returns-in_err-f : goal.returns-in_err-f
returns-in_err-f c = rw (handed_on c.from_residual.ensures.1) (filter_refused _ _ _ (sym c.in_err-f.ensures))

pub returns : goal.returns
returns c =
    ap Ok c.counts_of.ensures ∙ filter_accepted _ _ _ _ (sym c.in_ok-f.ensures)
