-- A word by its bytes, and the bytes of a hash by its words: bytes one behind the other are the first ones' number times a power of 256, and the others'.
use Prim.Native.Nat.{ℕ, zero, suc, ◌+◌, ◌-◌, ◌*◌, ◌^◌, ◌≤◌}
use mathlib.Core.List.{List, [], ◌∷◌, ◌++◌}
use mathlib.Core.Path.{◌≡◌, sym, ap, ◌∙◌}
use native.Mathlib.Nat.{zero-add, suc-add, pow-succ', mul_assoc, add-mul, add_assoc}
use native.Mathlib.Omega.{arith}
use lib.ListN.{length, get_or, length-append}
use lib.Seq.{slice, slice-cons, slice_empty, length-slice}
use Rattle.rules.specs.Hash.{big_endian}
use Rattle.rules.proofs.Hash.{slice_append}
use Rattle.hash_order.specs.Internal.Word.{word_size, half_size, half_limit, half_at, word_at}

power_sum : (m n : ℕ) → 256 ^ (m + n) ≡ 256 ^ m * 256 ^ n
power_sum zero n = rw zero-add (omega arith)
power_sum (suc m) n = rw (suc-add, pow-succ' 256 (m + n), pow-succ' 256 m, power_sum m n, mul_assoc)

joined : (xs ys : List ℕ) → big_endian (xs ++ ys) ≡ big_endian xs * 256 ^ length ys + big_endian ys
unfolding big_endian
joined [] ys = omega arith
joined (x ∷ xs) ys = rw (joined xs ys, length-append xs ys, power_sum (length xs) (length ys), add-mul, mul_assoc, add_assoc)

-- bytes up to an end, by the first k of them
parts : (k : ℕ) (s : List ℕ) (at e : ℕ) → at + k ≤ e → e ≤ length s
    → big_endian (slice at e s) ≡ big_endian (slice at (at + k) s) * 256 ^ (e - (at + k)) + big_endian (slice (at + k) e s)
parts k s at e inside fits =
    ap big_endian (sym (slice_append k at e s inside))
    ∙ joined (slice at (at + k) s) (slice (at + k) e s)
    ∙ ap (λ (n : ℕ). big_endian (slice at (at + k) s) * 256 ^ n + big_endian (slice (at + k) e s)) (length-slice (at + k) e s fits)

pub first_word : (s : List ℕ) (at e : ℕ) → at + word_size ≤ e → e ≤ length s
    → big_endian (slice at e s) ≡ word_at s at * 256 ^ (e - (at + word_size)) + big_endian (slice (at + word_size) e s)
unfolding word_at
first_word s at e inside fits = parts word_size s at e inside fits

-- by the first of them
digit : (s : List ℕ) (i j k e : ℕ) → j ≡ suc i → e ≡ j + k → e ≤ length s
    → big_endian (slice i e s) ≡ get_or s i 0 * 256 ^ k + big_endian (slice j e s)
unfolding big_endian
digit s i j k e p q fits =
    let long : length (slice (suc i) e s) ≡ k = rw (length-slice (suc i) e s fits) (omega arith) in
    rw (p, slice-cons i e s 0 (omega arith) fits, long)

half_bytes : (s : List ℕ) (at e : ℕ) → e ≡ at + half_size → e ≤ length s → big_endian (slice at e s) ≡ half_at s at
unfolding half_at big_endian
half_bytes s at e end fits =
    let b0 : big_endian (slice at e s) ≡ get_or s at 0 * 16777216 + big_endian (slice (at + 1) e s) = digit s at (at + 1) 3 e (omega arith) (omega arith) fits in
    let b1 : big_endian (slice (at + 1) e s) ≡ get_or s (at + 1) 0 * 65536 + big_endian (slice (at + 2) e s) = digit s (at + 1) (at + 2) 2 e (omega arith) (omega arith) fits in
    let b2 : big_endian (slice (at + 2) e s) ≡ get_or s (at + 2) 0 * 256 + big_endian (slice (at + 3) e s) = digit s (at + 2) (at + 3) 1 e (omega arith) (omega arith) fits in
    let b3 : big_endian (slice (at + 3) e s) ≡ get_or s (at + 3) 0 * 1 + big_endian (slice e e s) = digit s (at + 3) e 0 e (omega arith) (omega arith) fits in
    let none : big_endian (slice e e s) ≡ 0 = ap big_endian (slice_empty e s) in
    omega (arith, b0, b1, b2, b3, none)

pub word_halves : (s : List ℕ) (at : ℕ) → at + word_size ≤ length s → (x y : ℕ) → x ≡ half_at s at → y ≡ half_at s (at + half_size)
    → x * half_limit + y ≡ word_at s at
unfolding word_at
word_halves s at fits x y p q =
    let e : ℕ = at + word_size in
    let size : e - (at + half_size) ≡ half_size = omega arith in
    let first : big_endian (slice at (at + half_size) s) ≡ x = half_bytes s at (at + half_size) (omega arith) (omega arith) ∙ sym p in
    let second : big_endian (slice (at + half_size) e s) ≡ y = half_bytes s (at + half_size) e (omega arith) fits ∙ sym q in
    sym (rw (size, first, second) at (parts half_size s at e (omega arith) fits))

-- by the last of them
pub last_byte : (s : List ℕ) (i k : ℕ) → i + (k + 1) ≤ length s → big_endian (slice i (i + (k + 1)) s) ≡ big_endian (slice i (i + k) s) * 256 + get_or s (i + k) 0
unfolding big_endian
last_byte s i k fits =
    let e : ℕ = i + (k + 1) in
    let size : e - (i + k) ≡ 1 = omega arith in
    let byte : big_endian (slice (i + k) e s) ≡ get_or s (i + k) 0 * 1 + big_endian (slice e e s) = digit s (i + k) e 0 e (omega arith) (omega arith) fits in
    let none : big_endian (slice e e s) ≡ 0 = ap big_endian (slice_empty e s) in
    let all : big_endian (slice i e s) ≡ big_endian (slice i (i + k) s) * 256 + big_endian (slice (i + k) e s) = rw size at (parts k s i e (omega arith) fits) in
    omega (arith, all, byte, none)
