-- `waiting_missing::take::take_ref` meets its contract: the look-ups say whether the hash is unknown, and only then it is taken (FoundLaws). Assumes nothing.
use Prim.Native.Nat.{ℕ}
use borrow.Author.Rules.{rules}
use native.Mathlib.Omega.{arith}
use lib.ListN.{length-replicate}
use Rattle.rules.specs.Sizes.{sizes}
use Rattle.hash_refs.proofs.RefLaws.{hash_copied}
use Rattle.waiting_missing.proofs.FoundLaws.{held_known, waiting_known, neither_unknown, took_not, took_one}
use Rattle.waiting_missing.proofs.take.take_ref.Goals as goal

pub returns-then-look_up-n : goal.returns-then-look_up-n
returns-then-look_up-n c =
    took_not _ c.requires.2 (held_known _ _ _ _ _ _ _ c.look_up.ensures (hash_copied _ _ _ _ _ (λ k. (c.type_inv.list k).fits) (λ k. (c.type_inv.waiting k).fits) _ c.put_ref.ensures) c.if-look_up-n.true)

pub returns-then-find_waiting-m : goal.returns-then-find_waiting-m
returns-then-find_waiting-m c =
    took_not _ c.requires.2 (waiting_known _ _ _ _ _ _ _ c.look_up.ensures (hash_copied _ _ _ _ _ (λ k. (c.type_inv.list k).fits) (λ k. (c.type_inv.waiting k).fits) _ c.put_ref.ensures) _ c.find_waiting.ensures c.if-find_waiting-m.true)

pub add_ref-requires : goal.add_ref-requires
add_ref-requires c =
    (c.requires.2, c.requires.3, omega (arith, c.put_ref.auto.out, length-replicate {A = ℕ} sizes.hash 0), hash_copied _ _ _ _ _ (λ k. (c.type_inv.list k).fits) (λ k. (c.type_inv.waiting k).fits) _ c.put_ref.ensures)

pub returns : goal.returns
returns c =
    took_one _ (neither_unknown _ _ _ _ _ _ _ c.look_up.ensures (hash_copied _ _ _ _ _ (λ k. (c.type_inv.list k).fits) (λ k. (c.type_inv.waiting k).fits) _ c.put_ref.ensures) _ c.find_waiting.ensures c.if-look_up-n.false (search rules)) c.add_ref.ensures
