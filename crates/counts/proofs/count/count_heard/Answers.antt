-- `counts::count::count_heard` meets its contract: a table that is good has its index. Assumes nothing.
use mathlib.Core.Path.{refl, sym, ◌∙◌}
use Rattle.rules.proofs.Cases.{handed_on}
use Rattle.counts.proofs.CountLaws.{order_indexed, table_refused, table_accepted}
use Rattle.counts.proofs.count.count_heard.Goals as goal

pub count_filter-requires : goal.count_filter-requires
count_filter-requires c =
    (c.requires, order_indexed _ _ _ (sym c.in_ok-n.ensures.answer) (c.in_ok-n.ensures.order _ refl))

pub returns-in_err-n : goal.returns-in_err-n
returns-in_err-n c = rw (handed_on c.from_residual.ensures.1) (table_refused _ _ _ (sym c.in_err-n.ensures.answer))

pub returns : goal.returns
returns c =
    c.count_filter.ensures ∙ table_accepted _ _ _ (sym c.in_ok-n.ensures.answer)
