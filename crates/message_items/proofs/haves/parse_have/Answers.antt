-- `message_items::haves::parse_have` meets its contract: one case of `have_at` for each answer. Assumes nothing.
use mathlib.Core.Path.{sym}
use Rattle.rules.proofs.Cases.{handed_on}
use Rattle.message_items.proofs.ItemLaws.{have_no_list, have_no_part, have_no_filter, have_read}
use Rattle.message_items.proofs.haves.parse_have.Goals as goal

pub returns-in_err-sync : goal.returns-in_err-sync
returns-in_err-sync c = rw (handed_on c.from_residual.ensures.1) (sym (have_no_list _ _ _ (sym c.in_err-sync.ensures)))

pub returns-in_err-start : goal.returns-in_err-start
returns-in_err-start c =
    rw (handed_on c.from_residual-in_err-start.ensures.1)
    (sym (have_no_part _ _ _ _ (sym c.in_ok-sync.ensures) _ (sym c.in_err-start.ensures)))

pub returns-in_err-filter : goal.returns-in_err-filter
returns-in_err-filter c =
    rw (handed_on c.from_residual-in_err-filter.ensures.1)
    (sym (have_no_filter _ _ _ _ (sym c.in_ok-sync.ensures) _ _ (sym c.in_ok-start.ensures) _ (sym c.in_err-filter.ensures)))

pub returns : goal.returns
returns c =
    sym (have_read _ _ _ _ (sym c.in_ok-sync.ensures) _ _ (sym c.in_ok-start.ensures) _ _ (sym c.in_ok-filter.ensures))
