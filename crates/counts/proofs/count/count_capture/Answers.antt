-- `counts::count::count_capture` meets its contract: a table that is good has its index. Assumes nothing.
use mathlib.Core.Path.{refl, sym, ◌∙◌}
use Rattle.rules.proofs.Cases.{handed_on}
use Rattle.counts.proofs.CountLaws.{order_indexed, capture_refused, capture_accepted}
use Rattle.counts.proofs.count.count_capture.Goals as goal

pub count_heard-requires : goal.count_heard-requires
count_heard-requires c =
    order_indexed _ _ _ (sym c.in_ok-m.ensures.answer) (c.in_ok-m.ensures.order _ refl)

pub returns-in_err-m : goal.returns-in_err-m
returns-in_err-m c = rw (handed_on c.from_residual.ensures.1) (capture_refused _ _ _ _ (sym c.in_err-m.ensures.answer))

pub returns : goal.returns
returns c =
    c.count_heard.ensures ∙ capture_accepted _ _ _ _ (sym c.in_ok-m.ensures.answer)
