-- How a row is checked. Each law is one turn of a loop over its numbers, or one way through its tests, with the tests as hypotheses.
use Prim.Native.Nat.{ℕ, zero, suc, ◌+◌, ◌-◌, ◌*◌, ◌≤◌, ◌<◌}
use mathlib.Core.Bool.{Bool, true, false, ◌&&◌}
use mathlib.Core.List.{List, [], ◌∷◌}
use mathlib.Core.Path.{◌≡◌, refl, sym, ap}
use native.Mathlib.Nat.{mul-le-mul_right}
use native.Mathlib.Numerals.{add-one}
use native.Mathlib.Omega.{arith}
use borrow.Author.Tests.{ltb-true, leb-true, eqb-true, eqb-false, lt-ltb, le-ltb, le-leb, lt-leb, eq-eqb, ne_eqb}
use lib.Dec.{ltb, leb, eqb}
use lib.ListN.{get_or}
use Rattle.hash_order.proofs.KeepLaws.{every_member, every_one}
use Rattle.hash_order.proofs.OrderLaws.{member_here, member_there, ascends_tail, ascends_first}
use Rattle.hash_order.specs.Order.{member, every, ascends}
use Rattle.rules.proofs.Cases.{split, both, same_truth, and_true}
use Rattle.rules.proofs.ZeroLaws.{zeros_parts}
use Rattle.rules.specs.LittleEndian.{u16_at}
use Rattle.rules.specs.Sizes.{sizes}
use Rattle.rules.specs.Zeros.{bytes_at, zeros}
use Rattle.table.specs.Internal.OwnBytes.{row_sound_of}
use Rattle.table.specs.TableBytes.{u16s_at, row_size_of, count_of, used_of, unused_of, numbers_good}
use Rattle.table.proofs.TableLaws.{number_place_of}

-- ---- numbers that climb

-- Strictly ascending from `least` on, and each below `end`, as the loop tests them.
unfoldable pub climbs : ℕ → ℕ → List ℕ → Bool
climbs least end [] = true
climbs least end (x ∷ xs) = (leb least x && ltb x end) && climbs (suc x) end xs

climbs_below : (least end : ℕ) (l : List ℕ) (k : ℕ) → climbs least end l ≡ true → member k l ≡ true → k < end
unfolding climbs member
climbs_below least end [] k c m = absurd (let z : ◌≡◌ {A = ℕ} 0 1 = cc in omega arith)
climbs_below least end (x ∷ xs) k c m =
    let parts = both (leb least x && ltb x end) (climbs (suc x) end xs) c in
    split (eqb k x)
    (λ e.
    let same : k ≡ x = eqb-true k x e in
    let below : x < end = ltb-true x end (both (leb least x) (ltb x end) parts.0).1 in
    omega arith)
    (λ e. climbs_below (suc x) end xs k parts.1 (rw e at m))

climbs_ascends : (least end : ℕ) (l : List ℕ) → climbs least end l ≡ true → ascends l ≡ true
unfolding climbs ascends
climbs_ascends least end [] c = refl
climbs_ascends least end (x ∷ []) c = refl
climbs_ascends least end (x ∷ y ∷ ys) c =
    let rest = (both (leb least x && ltb x end) (climbs (suc x) end (y ∷ ys)) c).1 in
    let next = (both (leb (suc x) y && ltb y end) (climbs (suc y) end ys) rest).0 in
    let above : suc x ≤ y = leb-true (suc x) y (both (leb (suc x) y) (ltb y end) next).0 in
    rw (lt-ltb x y (omega arith)) (climbs_ascends (suc x) end (y ∷ ys) rest)

ascends_climbs : (least end : ℕ) (l : List ℕ) → ascends l ≡ true → ((k : ℕ) → member k l ≡ true → least ≤ k) → ((k : ℕ) → member k l ≡ true → k < end)
    → climbs least end l ≡ true
unfolding climbs
ascends_climbs least end [] a low high = refl
ascends_climbs least end (x ∷ xs) a low high =
    rw (le-leb least x (low x (member_here x xs)), lt-ltb x end (high x (member_here x xs)))
    (ascends_climbs (suc x) end xs (ascends_tail x xs a) (ascends_first x xs a) (λ k m. high k (member_there k x xs m)))

-- from 0 on: just what a row's numbers are to be
pub climbs_good : (i : ℕ) (l : List ℕ) → climbs 0 i l ≡ numbers_good i l
unfolding numbers_good
climbs_good i l =
    same_truth _ _
    (λ c. and_true _ _ (climbs_ascends 0 i l c) (every_one (λ k. ltb k i) l (λ k m. lt-ltb k i (climbs_below 0 i l k c m))))
    (λ g.
    let b = both (ascends l) (every (λ k. ltb k i) l) g in
    ascends_climbs 0 i l b.0 (λ k m. omega arith) (λ k m. ltb-true k i (every_member (λ j. ltb j i) l b.1 k m)))

-- ---- a row's numbers

number_next : (d i j : ℕ) → number_place_of d i j + 2 ≡ number_place_of d i (j + 1)
number_next d i j = omega arith

module _ (d : ℕ) (s : List ℕ) (i count : ℕ) where
  -- what the numbers from the j-th on say, of those in use
  pub climbing : ℕ → ℕ → Bool
  climbing least j = climbs least i (u16s_at s (number_place_of d i j) (count - j))

  pub climb_starts : count ≡ count_of d s i → climbing 0 0 ≡ numbers_good i (used_of d s i)
  unfolding climbing used_of
  climb_starts e =
      let all : count - 0 ≡ count_of d s i = omega arith in
      let p : number_place_of d i 0 ≡ i * row_size_of d + sizes.hash + 2 = omega arith in
      rw (all, p) (climbs_good i (used_of d s i))

  module _ (least j k : ℕ) (inside : j < count) (read : k ≡ u16_at s (number_place_of d i j)) where
    left : count - j ≡ suc (count - (j + 1))
    left = omega arith

    pub climb_low : k < least → climbing least j ≡ false
    unfolding climbing climbs u16s_at
    climb_low h = rw (left, ← read, lt-leb least k h)

    pub climb_high : least ≤ k → i ≤ k → climbing least j ≡ false
    unfolding climbing climbs u16s_at
    climb_high l h = rw (left, ← read, le-leb least k l, le-ltb k i h)

    pub climb_on : least ≤ k → k < i → climbing least j ≡ climbing (k + 1) (j + 1)
    unfolding climbing climbs u16s_at
    climb_on l h = rw (left, ← read, le-leb least k l, lt-ltb k i h, number_next d i j, add-one k)

  pub climb_ends : (least j : ℕ) → count ≤ j → climbing least j ≡ true
  unfolding climbing climbs u16s_at
  climb_ends least j h =
      let none : count - j ≡ 0 = omega arith in
      rw none

-- ---- numbers that are zeros

two_zero : (a b : ℕ) → eqb (a + 256 * b) 0 ≡ (eqb a 0 && (eqb b 0 && true))
two_zero a b =
    split (eqb a 0)
    (λ e.
    split (eqb b 0)
    (λ f. rw (e, f) (eq-eqb (a + 256 * b) 0 (omega (arith, eqb-true a 0 e, eqb-true b 0 f))))
    (λ f. rw (e, f) (ne_eqb (a + 256 * b) 0 (λ z. eqb-false b 0 f (omega arith)))))
    (λ e. rw e (ne_eqb (a + 256 * b) 0 (λ z. eqb-false a 0 e (omega arith))))

u16_zero : (s : List ℕ) (at : ℕ) → eqb (u16_at s at) 0 ≡ zeros (bytes_at s at 2)
unfolding u16_at zeros bytes_at
u16_zero s at = two_zero (get_or s at 0) (get_or s (at + 1) 0)

-- numbers are zeros where their bytes are
u16s_zero : (s : List ℕ) (at count : ℕ) → zeros (u16s_at s at count) ≡ zeros (bytes_at s at (2 * count))
unfolding zeros u16s_at bytes_at
u16s_zero s at zero = refl
u16s_zero s at (suc count) =
    let e : 2 * suc count ≡ 2 + 2 * count = omega arith in
    rw (e, zeros_parts s at 2 (2 * count), ← u16s_zero s (at + 2) count) (ap (λ (x : Bool). x && zeros (u16s_at s (at + 2) count)) (u16_zero s at))

-- what isn't in use of a row, its start and its count told by numbers
pub unused_bytes : (d : ℕ) (s : List ℕ) (i start count : ℕ) → start ≡ i * row_size_of d → count ≡ count_of d s i
    → zeros (bytes_at s (start + sizes.hash + 2 + 2 * count) (2 * (d - count))) ≡ zeros (unused_of d s i)
unfolding unused_of
unused_bytes d s i start count e f = rw (e, f) (sym (u16s_zero s _ _))

-- ---- a row

module _ (d : ℕ) (s : List ℕ) (i count : ℕ) (is : count ≡ count_of d s i) where
  pub sound_many : d < count → row_sound_of d s i ≡ false
  unfolding row_sound_of
  sound_many h = rw (← is, lt-leb count d h)

  module _ (few : count ≤ d) where
    pub sound_numbers : numbers_good i (used_of d s i) ≡ false → row_sound_of d s i ≡ false
    unfolding row_sound_of
    sound_numbers e = rw (← is, le-leb count d few, e)

    pub sound_zeros : numbers_good i (used_of d s i) ≡ true → row_sound_of d s i ≡ zeros (unused_of d s i)
    unfolding row_sound_of
    sound_zeros e = rw (← is, le-leb count d few, e)

-- ---- places in a table

module _ (d i : ℕ) where
  -- where row i starts, its size told by a number
  module _ (size : ℕ) (is : size ≡ row_size_of d) where
    pub row_starts : i * size ≡ i * row_size_of d
    row_starts = rw is

    pub row_start_fits : (most : ℕ) → (i + 1) * row_size_of d < most → i * size < most
    row_start_fits most h = rw is (omega arith)

  -- what is read of a row, its start told by a number
  module _ (s : List ℕ) (start r : ℕ) (is : start ≡ i * row_size_of d) where
    pub count_read : r ≡ u16_at s (start + sizes.hash) → r ≡ count_of d s i
    unfolding count_of
    count_read e = rw is at e

    pub number_read : (j : ℕ) → r ≡ u16_at s (start + sizes.hash + 2 + 2 * j) → r ≡ u16_at s (number_place_of d i j)
    number_read j e = rw is at e

  -- a row of the first n
  pub row_within : (n long : ℕ) → i < n → n * row_size_of d ≤ long → (i + 1) * row_size_of d ≤ long
  row_within n long h inside =
      let rows : (i + 1) * row_size_of d ≤ n * row_size_of d = mul-le-mul_right (row_size_of d) (omega arith) in
      omega arith
