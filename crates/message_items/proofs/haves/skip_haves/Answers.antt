-- `message_items::haves::skip_haves` meets its contract: the items still to come, from the place reached, say what all of them say. Assumes nothing.
use mathlib.Core.Path.{sym, ◌∙◌}
use Rattle.rules.proofs.Cases.{handed_on}
use Rattle.message_items.proofs.ItemLaws.{have_stopped, have_item_lem, passing_starts, passing_ends, passing_stops, passing_on}
use Rattle.message_items.proofs.haves.skip_haves.Goals as goal

pub loop-init : goal.loop-init
loop-init c = passing_starts _ _ _

pub returns-in_err-next : goal.returns-in_err-next
returns-in_err-next c = rw (handed_on c.from_residual.ensures.1) (sym
    (passing_stops _ _ _ _ _ c.loop-test.true _ (have_stopped _ _ _ (sym c.in_err-next.ensures)))
    ∙ c.loop.invariant)

pub loop-preserved : goal.loop-preserved
loop-preserved c =
    sym
    (passing_on _ _ _ _ _ c.loop-test.true _ _
    (have_item_lem _ _ _ _ _ (sym c.in_ok-next.ensures)))
    ∙ c.loop.invariant

pub returns : goal.returns
returns c = sym (passing_ends _ _ _ _ _ c.loop-test.false) ∙ c.loop.invariant
