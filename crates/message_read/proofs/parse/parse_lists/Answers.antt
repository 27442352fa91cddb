-- `message_read::parse::parse_lists` meets its contract: one case of `lists_at` for each answer. Assumes nothing.
use mathlib.Core.Path.{sym}
use Rattle.rules.proofs.Cases.{handed_on}
use Rattle.message_read.proofs.ReadLaws.{lists_no_haves, lists_no_chunks, lists_no_section, lists_read}
use Rattle.message_read.proofs.parse.parse_lists.Goals as goal

pub returns-in_err-haves : goal.returns-in_err-haves
returns-in_err-haves c = rw (handed_on c.from_residual.ensures.1) (sym (lists_no_haves _ _ _ _ _ _ (sym c.in_err-haves.ensures)))

pub returns-in_err-chunks : goal.returns-in_err-chunks
returns-in_err-chunks c =
    rw (handed_on c.from_residual-in_err-chunks.ensures.1)
    (sym (lists_no_chunks _ _ _ _ _ _ _ (sym c.in_ok-haves.ensures) _ (sym c.in_err-chunks.ensures)))

pub returns-in_err-flags : goal.returns-in_err-flags
returns-in_err-flags c =
    rw (handed_on c.from_residual-in_err-flags.ensures.1)
    (sym (lists_no_section _ _ _ _ _ _ _ (sym c.in_ok-haves.ensures) _ _ (sym c.in_ok-chunks.ensures) _ (sym c.in_err-flags.ensures)))

pub returns : goal.returns
returns c =
    sym (lists_read _ _ _ _ _ _ _ (sym c.in_ok-haves.ensures) _ _ (sym c.in_ok-chunks.ensures) _ _ (sym c.in_ok-flags.ensures))
