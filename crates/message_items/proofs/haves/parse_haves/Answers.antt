-- `message_items::haves::parse_haves` meets its contract: the count is refused, or its items are passed over. Assumes nothing.
use mathlib.Core.Path.{sym, ◌∙◌}
use Rattle.message_items.proofs.ItemLaws.{haves_refused, haves_listed}
use Rattle.rules.proofs.Cases.{handed_on}
use Rattle.message_items.proofs.haves.parse_haves.Goals as goal

pub returns : goal.returns
returns c =
    c.skip_haves.ensures ∙ sym (haves_listed _ _ _ _ (sym c.in_ok-count.ensures))

pub returns-in_err-count : goal.returns-in_err-count
returns-in_err-count c = rw (handed_on c.from_residual.ensures.1) (sym (haves_refused _ _ _ (sym c.in_err-count.ensures)))
