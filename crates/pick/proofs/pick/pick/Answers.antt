-- `pick::pick::pick` meets its contract: one law for each answer (PickAnswers), and what has passed the tests is good. Assumes nothing.
use mathlib.Core.Path.{sym}
use native.Mathlib.Omega.{arith}
use Rattle.rules.proofs.Outputs.{refused}
use Rattle.rules.proofs.PassedLaws.{up_to_is}
use Rattle.rules.specs.Sizes.{sizes}
use Rattle.table_index.proofs.CheckLaws.{checked_indexed}
use Rattle.pick.proofs.PickAnswers.{pick_no_table, pick_no_list, pick_no_sizes, pick_made}
use Rattle.rules.proofs.Cases.{handed_on}
use Rattle.pick.proofs.pick.pick.Goals as goal

pub returns-then-row_sizes-n : goal.returns-then-row_sizes-n
returns-then-row_sizes-n c =
    rw (pick_no_sizes _ _ _ _ _ _ (sym c.in_ok-n.ensures) _ (sym c.in_ok-many.ensures) c.if-row_sizes-n.true) (refused _ _)

pub put_picked-requires : goal.put_picked-requires
put_picked-requires c =
    let many = up_to_is sizes.hashes_to_send _ _ (sym c.in_ok-many.ensures) in
    (checked_indexed _ _ _ (sym c.in_ok-n.ensures), omega (arith, many.whole), omega (arith, c.if-row_sizes-n.false))

pub returns-in_err-n : goal.returns-in_err-n
returns-in_err-n c = rw (handed_on c.from_residual.ensures.1, pick_no_table _ _ _ _ _ _ (sym c.in_err-n.ensures)) (refused _ _)

pub returns-in_err-many : goal.returns-in_err-many
returns-in_err-many c = rw (handed_on c.from_residual-in_err-many.ensures.1, pick_no_list _ _ _ _ _ _ (sym c.in_ok-n.ensures) _ (sym c.in_err-many.ensures)) (refused _ _)

pub returns : goal.returns
returns c =
    rw (pick_made _ _ _ _ _ _ (sym c.in_ok-n.ensures) _ (sym c.in_ok-many.ensures) c.if-row_sizes-n.false) c.put_picked.ensures
