-- A passed list: one law for each way through its tests, and what stands behind one that is accepted.
use Prim.Native.Nat.{ℕ, ◌*◌, ◌/◌, ◌%◌, ◌≤◌, ◌<◌}
use mathlib.Core.List.{List}
use mathlib.Core.Path.{◌≡◌}
use native.Mathlib.Omega.{arith}
use borrow.Author.Tests.{lt-ltb, le-ltb, ltb-false, eq-eqb, ne_eqb, eqb-true}
use lib.Dec.{ltb, eqb}
use lib.ListN.{length}
use Rattle.rules.specs.Passed.{passed_up_to, passed_hashes, after_passed}
use Rattle.rules.specs.Sizes.{sizes}
use Rattle.rules.specs.declared.refusal.Refusal.{Refusal}
use Rattle.rules.specs.declared.refusal.Refusal.TheVariants.{Cut, PastSize}
use Rattle.rules.proofs.Cases.{split}
use Rattle.std.specs.Prelude.{Result, Ok, Err}

module _ (most : ℕ) (s : List ℕ) where
  pub up_to_long : most * sizes.hash < length s → passed_up_to most s ≡ Err (PastSize 0)
  unfolding passed_up_to
  up_to_long h = rw (lt-ltb _ _ h)

  pub up_to_cut : length s ≤ most * sizes.hash → (length s % sizes.hash ≡ 0 → ⊥)
      → passed_up_to most s ≡ Err (Cut (sizes.hash * (length s / sizes.hash)))
  unfolding passed_up_to
  up_to_cut h g = rw (le-ltb _ _ h, ne_eqb _ _ g)

  pub up_to_whole : length s ≤ most * sizes.hash → length s % sizes.hash ≡ 0 → passed_up_to most s ≡ Ok (length s / sizes.hash)
  unfolding passed_up_to
  up_to_whole h g = rw (le-ltb _ _ h, eq-eqb _ _ g)

  -- an accepted list is just its hashes, and no more than there may be
  pub record PassedIs (n : ℕ) : Type 0 where
    pub whole : length s ≡ sizes.hash * n
    pub few : n ≤ most

  pub up_to_is : (n : ℕ) → passed_up_to most s ≡ Ok n → PassedIs n
  unfolding passed_up_to
  up_to_is n e =
      split (ltb (most * sizes.hash) (length s))
      (λ t. absurd (let z : ◌≡◌ {A = ℕ} 0 1 = cc in omega arith))
      (λ t.
      split (eqb (length s % sizes.hash) 0)
      (λ u.
      let q : length s / 32 ≡ n = cc in
      let l : length s ≤ most * sizes.hash = ltb-false _ _ t in
      let w : length s % sizes.hash ≡ 0 = eqb-true _ _ u in
      record { whole = omega arith; few = omega arith })
      (λ u. absurd (let z : ◌≡◌ {A = ℕ} 0 1 = cc in omega arith)))

-- a list as messages and sessions have them
module _ (s : List ℕ) where
  pub passed_whole : length s ≤ sizes.hashes * sizes.hash → length s % sizes.hash ≡ 0 → passed_hashes s ≡ Ok (length s / sizes.hash)
  passed_whole = up_to_whole sizes.hashes s

  pub passed_is : (n : ℕ) → passed_hashes s ≡ Ok n → PassedIs sizes.hashes s n
  passed_is = up_to_is sizes.hashes s

module _ {A : Type 0} (refused : Refusal → A) (k : ℕ → A) where
  pub after_refused : (p : Result ℕ Refusal) (r : Refusal) → p ≡ Err r → after_passed p refused k ≡ refused r
  unfolding after_passed
  after_refused p r e = rw e

  pub after_hashes : (p : Result ℕ Refusal) (n : ℕ) → p ≡ Ok n → after_passed p refused k ≡ k n
  unfolding after_passed
  after_hashes p n e = rw e
