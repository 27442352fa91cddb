-- Numbers of two bytes each: as long as they are, read back, the bytes that they were read from, and bytes.
use Prim.Native.Nat.{ℕ, zero, suc, ◌+◌, ◌*◌, ◌/◌, ◌%◌, ◌≤◌, ◌<◌}
use mathlib.Core.Bool.{true}
use mathlib.Core.List.{List, [], ◌∷◌, ◌++◌, append-nil}
use mathlib.Core.Path.{◌≡◌, refl, sym, ap, ap₂, ◌∙◌}
use native.Mathlib.Nat.{add-zero}
use native.Mathlib.Omega.{arith}
use lib.ListN.{length, get_or}
use lib.Seq.{slice, slice_empty, slice-cons, get_or-append-add}
use Rattle.hash_order.proofs.OrderLaws.{member_here, member_there}
use Rattle.hash_order.specs.Order.{member}
use Rattle.rules.specs.Hash.{Bytes}
use Rattle.rules.specs.LittleEndian.{u16_at}
use Rattle.table.specs.TableBytes.{u16s_at, u16s_bytes}

pub length_twos_at : (s : List ℕ) (at count : ℕ) → length (u16s_at s at count) ≡ count
unfolding u16s_at
length_twos_at s at zero = refl
length_twos_at s at (suc count) = ap suc (length_twos_at s (at + 2) count)

pub length_twos_bytes : (l : List ℕ) → length (u16s_bytes l) ≡ 2 * length l
unfolding u16s_bytes
length_twos_bytes [] = refl
length_twos_bytes (i ∷ l) = omega (arith, length_twos_bytes l)

-- numbers that are read are the bytes they are read from
pub twos_at_bytes : (s : List ℕ) (at count : ℕ) → Bytes s → at + 2 * count ≤ length s → u16s_bytes (u16s_at s at count) ≡ slice at (at + 2 * count) s
unfolding u16s_bytes u16s_at u16_at
twos_at_bytes s at zero b h = rw (add-zero, slice_empty)
twos_at_bytes s at (suc count) b h =
    let e : at + 2 * suc count ≡ at + 2 + 2 * count = omega arith in
    let two : suc (suc at) ≡ at + 2 = omega arith in
    let one : suc at ≡ at + 1 = omega arith in
    let low : (get_or s at 0 + 256 * get_or s (at + 1) 0) % 256 ≡ get_or s at 0 = omega (arith, b at) in
    let high : (get_or s at 0 + 256 * get_or s (at + 1) 0) / 256 ≡ get_or s (at + 1) 0 = omega (arith, b at) in
    let first : slice at (at + 2 + 2 * count) s ≡ get_or s at 0 ∷ slice (suc at) (at + 2 + 2 * count) s = slice-cons at (at + 2 + 2 * count) s 0 (omega arith) (omega arith) in
    let second : slice (suc at) (at + 2 + 2 * count) s ≡ get_or s (suc at) 0 ∷ slice (suc (suc at)) (at + 2 + 2 * count) s = slice-cons (suc at) (at + 2 + 2 * count) s 0 (omega arith) (omega arith) in
    rw (low, high, e, twos_at_bytes s (at + 2) count b (omega arith), first, second, two, one)

-- what stands behind some bytes
module _ (pre s : List ℕ) where
  pub u16_behind : (k : ℕ) → u16_at (pre ++ s) (length pre + k) ≡ u16_at s k
  unfolding u16_at
  u16_behind k =
      ap₂ (λ a b. a + 256 * b) (get_or-append-add pre s k 0)
      (ap (λ (i : ℕ). get_or (pre ++ s) i 0) (let z : length pre + k + 1 ≡ length pre + (k + 1) = omega arith in z) ∙ get_or-append-add pre s (k + 1) 0)

  pub u16s_behind : (k n : ℕ) → u16s_at (pre ++ s) (length pre + k) n ≡ u16s_at s k n
  unfolding u16s_at
  u16s_behind k zero = refl
  u16s_behind k (suc n) =
      ap₂ (λ (a : ℕ) (l : List ℕ). a ∷ l) (u16_behind k)
      (ap (λ (i : ℕ). u16s_at (pre ++ s) i n) (let z : length pre + k + 2 ≡ length pre + (k + 2) = omega arith in z) ∙ u16s_behind (k + 2) n)

-- numbers that are written are read back, whatever follows
pub u16_front : (n : ℕ) (x : List ℕ) → u16_at (n % 256 ∷ n / 256 ∷ x) 0 ≡ n
unfolding u16_at
u16_front n x = omega arith

pub twos_front : (l x : List ℕ) → u16s_at (u16s_bytes l ++ x) 0 (length l) ≡ l
unfolding u16s_bytes u16s_at
twos_front [] x = refl
twos_front (n ∷ l) x =
    ap₂ (λ (a : ℕ) (b : List ℕ). a ∷ b) (u16_front n (u16s_bytes l ++ x))
    (u16s_behind (n % 256 ∷ n / 256 ∷ []) (u16s_bytes l ++ x) 0 (length l) ∙ twos_front l x)

pub twos_back : (l : List ℕ) → u16s_at (u16s_bytes l) 0 (length l) ≡ l
twos_back l = ap (λ (x : List ℕ). u16s_at x 0 (length l)) (sym (append-nil (u16s_bytes l))) ∙ twos_front l []

-- and are bytes where the numbers are of two
pub twos_bytes : (l : List ℕ) → ((x : ℕ) → member x l ≡ true → x < 65536) → Bytes (u16s_bytes l)
unfolding u16s_bytes
twos_bytes [] h k = omega arith
twos_bytes (i ∷ l) h zero = omega arith
twos_bytes (i ∷ l) h (suc zero) = omega (arith, h i (member_here i l))
twos_bytes (i ∷ l) h (suc (suc k)) = twos_bytes l (λ x m. h x (member_there x i l m)) k
