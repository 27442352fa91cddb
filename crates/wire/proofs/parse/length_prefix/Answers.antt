-- `wire::parse::length_prefix` meets its contract: one case of `count_at` for each answer. Assumes nothing.
use mathlib.Core.Path.{sym, ◌∙◌}
use Rattle.rules.proofs.Cases.{handed_on}
use Rattle.wire.proofs.Item.{count_checks}
use Rattle.wire.proofs.parse.length_prefix.Goals as goal

pub returns-in_err-count : goal.returns-in_err-count
returns-in_err-count c =
    handed_on c.from_residual.ensures.1 ∙ sym ((count_checks _ _ _ _).passed _ (sym c.in_err-count.ensures))

pub returns-then-limit-count : goal.returns-then-limit-count
returns-then-limit-count c = sym ((count_checks _ _ _ _).past _ _ (sym c.in_ok-count.ensures) c.if-limit-count.true)

pub returns : goal.returns
returns c = sym ((count_checks _ _ _ _).put _ _ (sym c.in_ok-count.ensures) c.if-limit-count.false)
