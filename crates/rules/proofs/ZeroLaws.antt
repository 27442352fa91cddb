-- Bytes that are zeros: in parts, and joined in one number. Assumes nothing.
use Prim.Native.Nat.{ℕ, zero, suc, ◌+◌}
use mathlib.Core.Bool.{Bool, true, false, ◌&&◌}
use mathlib.Core.List.{List}
use mathlib.Core.Path.{◌≡◌, refl, sym, ap}
use native.Mathlib.Nat.{add-zero, zero-add}
use native.Mathlib.Omega.{arith}
use borrow.Author.Tests.{eqb-true, eqb-false, ne_eqb}
use lib.Bits.{bit_or, or_add_and, and_le_r}
use lib.Dec.{eqb}
use lib.ListN.{get_or}
use Rattle.rules.proofs.Cases.{split}
use Rattle.rules.specs.Zeros.{bytes_at, zeros}

pub zeros_parts : (s : List ℕ) (at a b : ℕ) → zeros (bytes_at s at (a + b)) ≡ (zeros (bytes_at s at a) && zeros (bytes_at s (at + a) b))
unfolding zeros bytes_at
zeros_parts s at zero b = rw (zero-add, add-zero)
zeros_parts s at (suc a) b =
    let e : suc a + b ≡ suc (a + b) = omega arith in
    let f : at + suc a ≡ at + 1 + a = omega arith in
    split (eqb (get_or s at 0) 0)
    (λ q. rw (e, q, f) (zeros_parts s (at + 1) a b))
    (λ q. rw (e, q))

-- joined numbers are 0 if both are
or_zero : (a b : ℕ) → eqb (bit_or a b) 0 ≡ (eqb a 0 && eqb b 0)
or_zero a b =
    split (eqb a 0)
    (λ e. rw (eqb-true a 0 e))
    (λ e.
    let n : a ≡ 0 → ⊥ = eqb-false a 0 e in
    rw (e, ne_eqb (bit_or a b) 0 (λ q. n (omega (arith, or_add_and a b, and_le_r a b)))))

and_true_right : (x : Bool) → (x && true) ≡ x
and_true_right true = refl
and_true_right false = refl

-- The first bytes from a place on are 0 if what they are joined in is.
module _ (s : List ℕ) (at : ℕ) where
  pub joined_none : eqb 0 0 ≡ zeros (bytes_at s at 0)
  unfolding zeros bytes_at
  joined_none = refl

  pub joined_next : (k any : ℕ) → eqb any 0 ≡ zeros (bytes_at s at k) → eqb (bit_or any (get_or s (at + k) 0)) 0 ≡ zeros (bytes_at s at (k + 1))
  unfolding zeros bytes_at
  joined_next k any e =
      rw (or_zero any (get_or s (at + k) 0), zeros_parts s at k 1, e) (ap (λ (x : Bool). zeros (bytes_at s at k) && x) (sym (and_true_right _)))
