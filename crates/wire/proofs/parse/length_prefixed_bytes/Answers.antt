-- `wire::parse::length_prefixed_bytes` meets its contract: one case of `prefixed_at` for each answer. Assumes nothing.
use mathlib.Core.Path.{sym}
use native.Mathlib.Omega.{arith}
use Rattle.wire.proofs.Item.{left_is, prefixed_checks}
use Rattle.rules.proofs.Cases.{handed_on}
use Rattle.wire.proofs.parse.length_prefixed_bytes.Goals as goal

pub returns-then-left-size : goal.returns-then-left-size
returns-then-left-size c =
    sym ((prefixed_checks _ _ _).past _ _ (sym c.in_ok-size.ensures) (rw c.left.ensures at c.if-left-size.true))

pub overflow_add-result : goal.overflow_add-result
overflow_add-result c =
    let a = c.args in
    omega (arith, left_is a.bytes.now c.in_ok-size.start a.end, c.left.ensures)

pub returns : goal.returns
returns c =
    sym ((prefixed_checks _ _ _).put _ _ (sym c.in_ok-size.ensures) (rw c.left.ensures at c.if-left-size.false))

pub returns-in_err-size : goal.returns-in_err-size
returns-in_err-size c = rw (handed_on c.from_residual.ensures.1) (sym ((prefixed_checks _ _ _).passed _ (sym c.in_err-size.ensures)))
