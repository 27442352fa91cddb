-- The entries of an index in its bytes.
use Prim.Native.Nat.{ℕ, zero, suc, ◌+◌, ◌-◌, ◌*◌, ◌≤◌, ◌<◌}
use mathlib.Core.List.{List, [], ◌∷◌}
use mathlib.Core.Path.{◌≡◌, refl, ap, ◌∙◌}
use native.Mathlib.Nat.{add-zero, zero-add, not-suc-le-zero}
use native.Mathlib.Omega.{arith}
use lib.ListN.{length, get_or}
use Rattle.rules.specs.LittleEndian.{u16_at}
use Rattle.table.specs.TableBytes.{u16s_at}

pub length_u16s : (s : List ℕ) (at count : ℕ) → length (u16s_at s at count) ≡ count
unfolding u16s_at
length_u16s s at zero = refl
length_u16s s at (suc count) = ap suc (length_u16s s (at + 2) count)

pub u16s_index : (s : List ℕ) (at count j : ℕ) → j < count → get_or (u16s_at s at count) j 0 ≡ u16_at s (at + 2 * j)
unfolding u16s_at
u16s_index s at zero j b = absurd (not-suc-le-zero b)
u16s_index s at (suc count) zero b = rw add-zero
u16s_index s at (suc count) (suc j) b =
    let e : at + 2 * suc j ≡ at + 2 + 2 * j = omega arith in
    rw e (u16s_index s (at + 2) count j (omega arith))

-- the entries from the i-th on
pub u16s_next : (s : List ℕ) (n i r : ℕ) → i < n → r ≡ u16_at s (2 * i)
    → u16s_at s (2 * i) (n - i) ≡ r ∷ u16s_at s (2 * (i + 1)) (n - (i + 1))
unfolding u16s_at
u16s_next s n i r h read =
    let d : n - i ≡ suc (n - (i + 1)) = omega arith in
    let e : 2 * (i + 1) ≡ 2 * i + 2 = omega arith in
    rw (d, read, e)

pub u16s_none : (s : List ℕ) (n i : ℕ) → n ≤ i → u16s_at s (2 * i) (n - i) ≡ []
unfolding u16s_at
u16s_none s n i h =
    let d : n - i ≡ 0 = omega arith in
    rw d

-- the j-th entry
pub entry : (s : List ℕ) (n j : ℕ) → j < n → get_or (u16s_at s 0 n) j 0 ≡ u16_at s (2 * j)
entry s n j b = u16s_index s 0 n j b ∙ rw zero-add
