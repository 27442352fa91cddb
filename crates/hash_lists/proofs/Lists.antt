-- Lists are the same just where they are equal.
use Prim.Native.Nat.{ℕ}
use mathlib.Core.Bool.{true, false}
use mathlib.Core.List.{List, [], ◌∷◌}
use mathlib.Core.Path.{◌≡◌, refl}
use borrow.Author.Tests.{eq-eqb, eqb-true}
use lib.Dec.{eqb}
use Rattle.rules.proofs.Cases.{both, true_false}
use Rattle.hash_lists.specs.Lists.{same}

-- ---- the same hashes in the same order

pub same_refl : (l : List ℕ) → same l l ≡ true
unfolding same
same_refl [] = refl
same_refl (x ∷ xs) = rw (eq-eqb x x refl) (same_refl xs)

pub same_equal : (a b : List ℕ) → same a b ≡ true → a ≡ b
unfolding same
same_equal [] [] e = refl
same_equal [] (y ∷ ys) e = absurd (true_false false e refl)
same_equal (x ∷ xs) [] e = absurd (true_false false e refl)
same_equal (x ∷ xs) (y ∷ ys) e =
    let b = both (eqb x y) (same xs ys) e in
    rw (eqb-true x y b.0, same_equal xs ys b.1)

pub same_differs : (a b : List ℕ) → same a b ≡ false → a ≡ b → ⊥
same_differs a b e q = true_false (same a b) (rw q (same_refl b)) e
