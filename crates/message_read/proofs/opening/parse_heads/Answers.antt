-- `message_read::opening::parse_heads` meets its contract: one case of `heads_at` for each answer. Assumes nothing.
use mathlib.Core.Path.{sym}
use Rattle.rules.proofs.Cases.{handed_on}
use Rattle.message_read.proofs.ReadLaws.{heads_refused, heads_read}
use Rattle.message_read.proofs.opening.parse_heads.Goals as goal

pub returns-in_err-heads : goal.returns-in_err-heads
returns-in_err-heads c = rw (handed_on c.from_residual.ensures.1) (sym (heads_refused _ _ _ (sym c.in_err-heads.ensures)))

pub returns : goal.returns
returns c = sym (heads_read _ _ _ _ (sym c.in_ok-heads.ensures))
