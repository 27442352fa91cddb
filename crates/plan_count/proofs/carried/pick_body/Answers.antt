-- `plan_count::carried::pick_body` meets its contract: where no radio is limited, and of a document, all goes, and else the pick. Assumes nothing.
use mathlib.Core.Bool.{false}
use borrow.Author.Tests.{not-true, not-false}
use mathlib.Core.Path.{◌≡◌, sym, ◌∙◌}
use Rattle.plan_count.proofs.GoingLaws.{all_goes, goes_unlimited, goes_whole, goes_picked, list_marked}
use Rattle.plan_count.proofs.carried.pick_body.Goals as goal

pub returns-then-not-radio : goal.returns-then-not-radio
returns-then-not-radio c b need long counted unsent = goes_unlimited _ _ _ b _ _ need _ _ _ _ _ (not-true _ c.if-not-radio.true) (all_goes counted)

pub returns-then-body : goal.returns-then-body
returns-then-body c b need long counted unsent =
    goes_whole _ _ _ b _ _ need _ _ _ _ _ (not-false _ c.if-not-radio.false) (sym counted.body.document ∙ c.if-body.true) (all_goes counted)

pub returns : goal.returns
returns c b need long counted unsent =
    let listed : b.document ≡ false = sym counted.body.document ∙ c.if-body.false in
    goes_picked _ _ _ b _ _ need _ _ _ _ _ (not-false _ c.if-not-radio.false) listed
    (c.pick_list.ensures b.hashes need long (list_marked _ _ b.hashes _ _ counted.new.those (unsent listed)) (λ e. unsent listed))
