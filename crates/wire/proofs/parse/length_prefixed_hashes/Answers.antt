-- `wire::parse::length_prefixed_hashes` meets its contract: one case of `hash_list_at` for each answer. Assumes nothing.
use mathlib.Core.Path.{sym}
use native.Mathlib.Omega.{arith}
use Rattle.wire.proofs.Item.{left_is, hash_list_checks}
use Rattle.rules.proofs.Cases.{handed_on}
use Rattle.wire.proofs.parse.length_prefixed_hashes.Goals as goal

pub overflow_add-cut : goal.overflow_add-cut
overflow_add-cut c =
    let a = c.args in
    omega (arith, left_is a.bytes.now c.in_ok-wanted.start a.end, c.left-whole.ensures)

pub returns-then-whole-wanted : goal.returns-then-whole-wanted
returns-then-whole-wanted c =
    rw c.left-whole.ensures
    (sym ((hash_list_checks _ _ _).past _ _ (sym c.in_ok-wanted.ensures) (rw c.left-whole.ensures at c.if-whole-wanted.true)))

pub overflow_add-next : goal.overflow_add-next
overflow_add-next c =
    let a = c.args in
    omega (arith, left_is a.bytes.now c.in_ok-wanted.start a.end, c.left-whole.ensures)

pub returns : goal.returns
returns c =
    sym ((hash_list_checks _ _ _).put _ _ (sym c.in_ok-wanted.ensures) (rw c.left-whole.ensures at c.if-whole-wanted.false))

pub returns-in_err-wanted : goal.returns-in_err-wanted
returns-in_err-wanted c = rw (handed_on c.from_residual.ensures.1) (sym ((hash_list_checks _ _ _).passed _ (sym c.in_err-wanted.ensures)))
