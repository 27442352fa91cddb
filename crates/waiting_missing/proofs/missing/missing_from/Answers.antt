-- `waiting_missing::missing::missing_from` meets its contract: one case of `missing_from` for each answer. There are numbers for one hash more than a list may have,
-- so a count past the limit says that too many are missing. Assumes nothing.
use Prim.Native.Nat.{ℕ, ◌+◌}
use mathlib.Core.Path.{sym, ◌∙◌}
use native.Mathlib.Omega.{arith}
use lib.ListN.{length-replicate}
use Rattle.rules.specs.Sizes.{sizes}
use Rattle.rules.proofs.PassedLaws.{passed_is}
use Rattle.waiting_missing.proofs.MissingCalls.{no_list_lem, too_many, few_enough}
use Rattle.rules.proofs.Cases.{handed_on}
use Rattle.waiting_missing.proofs.missing.missing_from.Goals as goal

pub find_in_order-found-requires : goal.find_in_order-found-requires
find_in_order-found-requires c =
    let is = passed_is _ _ (sym c.in_ok-entries.ensures) in
    (c.requires.0, c.requires.1, c.requires.2, omega (arith, is.whole), is.few)

pub returns-then-found-gt-HASHES : goal.returns-then-found-gt-HASHES
returns-then-found-gt-HASHES c =
    too_many _ _ _ _ (sym c.in_ok-entries.ensures) (c.find_in_order-found.auto.refs ∙ length-replicate {A = ℕ} (sizes.hashes + 1) 0) c.find_in_order-found.ensures
    c.if-found-gt-HASHES.true

pub returns-in_err-entries : goal.returns-in_err-entries
returns-in_err-entries c = rw (handed_on c.from_residual.ensures.1) (no_list_lem _ _ _ _ _ (sym c.in_err-entries.ensures))

pub returns : goal.returns
returns c =
    few_enough _ _ _ _ (sym c.in_ok-entries.ensures) (c.find_in_order-found.auto.refs ∙ length-replicate {A = ℕ} (sizes.hashes + 1) 0) c.find_in_order-found.ensures
    c.if-found-gt-HASHES.false
    c.write_found.ensures
