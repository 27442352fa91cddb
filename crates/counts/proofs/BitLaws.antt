-- Set bits: the bits of a field summed are the ones of its bytes, and a word's ones are those of its bytes.
use Prim.Native.Nat.{ℕ, zero, suc, ◌+◌, ◌-◌, ◌*◌, ◌/◌, ◌%◌, ◌^◌, ◌≤◌, ◌<◌}
use mathlib.Core.List.{List, [], ◌∷◌, ◌++◌}
use mathlib.Core.Path.{◌≡◌, refl, sym, ap, ◌∙◌}
use native.Mathlib.Nat.{zero-add, div-div-eq-div-mul, mod-lt, pow-succ', pow-le-pow_right}
use native.Mathlib.Omega.{arith}
use lib.Count.{ones, ones_step, ones_cat}
use lib.ListN.{length, get_or, take, drop, length-drop}
use lib.Pow.{pow-add}
use lib.Seq.{slice, length-take-le, take_all, take-length}
use Rattle.bloom_probe.specs.Probes.{bit_at}
use Rattle.hash_order.proofs.Words.{last_byte}
use Rattle.hash_order.specs.Internal.Word.{word_size, word_at}
use Rattle.rules.proofs.Hash.{bytes_tail, bytes_take, bytes_drop, bytes_slice, big_endian_below, take_drop, slice_append}
use Rattle.rules.specs.Hash.{Bytes, big_endian}
use Rattle.counts.specs.Captures.{bits_below, bits_set}

-- ---- the ones of bytes

-- The ones of each byte, summed.
unfoldable pub byte_ones : List ℕ → ℕ
byte_ones [] = 0
byte_ones (b ∷ bs) = ones b + byte_ones bs

ones_append : (a b : List ℕ) → byte_ones (a ++ b) ≡ byte_ones a + byte_ones b
unfolding byte_ones
ones_append [] b = omega arith
ones_append (x ∷ a) b = let z = ones_append a b in omega arith

bytes_bits : (n : ℕ) → 256 ^ n ≡ 2 ^ (8 * n)
bytes_bits zero = refl
bytes_bits (suc n) =
    let e : 8 * suc n ≡ 8 + 8 * n = omega arith in
    rw (pow-succ' 256 n, bytes_bits n, e, pow-add 2 8 (8 * n))

-- a number's ones are those of its bytes
pub number_ones : (bs : List ℕ) → Bytes bs → ones (big_endian bs) ≡ byte_ones bs
unfolding big_endian byte_ones ones
number_ones [] f = refl
number_ones (b ∷ bs) f =
    let rest = bytes_tail b bs f in
    rw (bytes_bits (length bs))
    (ones_cat (8 * length bs) b (big_endian bs) (rw (bytes_bits (length bs)) at (big_endian_below bs rest)) ∙ ap (λ (n : ℕ). ones b + n) (number_ones bs rest))

-- eight bits of a byte
combine : (o0 o1 o2 o3 o4 o5 o6 o7 o8 d0 d1 d2 d3 d4 d5 d6 d7 : ℕ) → o0 ≡ d0 + o1 → o1 ≡ d1 + o2 → o2 ≡ d2 + o3 → o3 ≡ d3 + o4 → o4 ≡ d4 + o5 → o5 ≡ d5 + o6
    → o6 ≡ d6 + o7 → o7 ≡ d7 + o8 → o8 ≡ 0
    → o0 ≡ d0 + (d1 + (d2 + (d3 + (d4 + (d5 + (d6 + d7))))))
combine o0 o1 o2 o3 o4 o5 o6 o7 o8 d0 d1 d2 d3 d4 d5 d6 d7 e0 e1 e2 e3 e4 e5 e6 e7 e8 = omega arith

gone : (b : ℕ) → b < 256 → b / 256 ≡ 0
gone b h = omega arith

step_at : (b k m : ℕ) → k * 2 ≡ m → ones (b / k) ≡ b / k % 2 + ones (b / m)
step_at b k m e = ones_step (b / k) ∙ ap (λ (x : ℕ). b / k % 2 + ones x) (div-div-eq-div-mul b k 2 ∙ ap (λ (x : ℕ). b / x) e)

no_ones : (x : ℕ) → x ≡ 0 → ones x ≡ 0
unfolding ones
no_ones x e = rw e

eight : (b : ℕ) → b < 256
    → ones (b / 1) ≡ b / 1 % 2 + (b / 2 % 2 + (b / 4 % 2 + (b / 8 % 2 + (b / 16 % 2 + (b / 32 % 2 + (b / 64 % 2 + b / 128 % 2))))))
eight b h =
    combine (ones (b / 1)) (ones (b / 2)) (ones (b / 4)) (ones (b / 8)) (ones (b / 16)) (ones (b / 32)) (ones (b / 64)) (ones (b / 128)) (ones (b / 256))
    (b / 1 % 2) (b / 2 % 2) (b / 4 % 2) (b / 8 % 2) (b / 16 % 2) (b / 32 % 2) (b / 64 % 2) (b / 128 % 2)
    (step_at b 1 2 refl) (step_at b 2 4 refl) (step_at b 4 8 refl) (step_at b 8 16 refl) (step_at b 16 32 refl) (step_at b 32 64 refl) (step_at b 64 128 refl)
    (step_at b 128 256 refl)
    (no_ones (b / 256) (gone b h))

whole_byte : (b : ℕ) → b / 1 ≡ b
whole_byte b = omega arith

-- ---- the bits of a field

bits_step : (k : ℕ) (l : List ℕ) → bits_below (suc k) l ≡ bits_below k l + bit_at l k
unfolding bits_below
bits_step k l = refl

-- bit 8 i + j
bit-at : (field : List ℕ) (i j : ℕ) → j < 8 → bit_at field (8 * i + j) ≡ get_or field i 0 / 2 ^ j % 2
unfolding bit_at
bit-at field i j h =
    let a : (8 * i + j) / 8 ≡ i = omega arith in
    let b : (8 * i + j) % 8 ≡ j = omega arith in
    rw (a, b)

below_eight : (field : List ℕ) (i : ℕ) → get_or field i 0 < 256 → bits_below (8 * i + 8) field ≡ bits_below (8 * i) field + ones (get_or field i 0)
below_eight field i h = eights field i (get_or field i 0) refl h
  where
    sums : (z x0 x1 x2 x3 x4 x5 x6 x7 y0 y1 y2 y3 y4 y5 y6 y7 o : ℕ) → x0 ≡ y0 → x1 ≡ y1 → x2 ≡ y2 → x3 ≡ y3 → x4 ≡ y4 → x5 ≡ y5 → x6 ≡ y6 → x7 ≡ y7
        → o ≡ y0 + (y1 + (y2 + (y3 + (y4 + (y5 + (y6 + y7))))))
        → z + x0 + x1 + x2 + x3 + x4 + x5 + x6 + x7 ≡ z + o
    sums z x0 x1 x2 x3 x4 x5 x6 x7 y0 y1 y2 y3 y4 y5 y6 y7 o e0 e1 e2 e3 e4 e5 e6 e7 e = omega arith

    next : (k m : ℕ) (l : List ℕ) → m ≡ suc k → bits_below m l ≡ bits_below k l + bit_at l k
    next k m l e = ap (λ (x : ℕ). bits_below x l) e ∙ bits_step k l

    unrolled : (field : List ℕ) (i : ℕ)
        → bits_below (8 * i + 8) field
        ≡ bits_below (8 * i) field + bit_at field (8 * i + 0) + bit_at field (8 * i + 1) + bit_at field (8 * i + 2) + bit_at field (8 * i + 3) + bit_at field (8 * i + 4)
        + bit_at field (8 * i + 5) + bit_at field (8 * i + 6) + bit_at field (8 * i + 7)
    unrolled field i =
        let n1 : bits_below (8 * i + 1) field ≡ bits_below (8 * i) field + bit_at field (8 * i + 0) =
        next (8 * i + 0) (8 * i + 1) field (omega arith) ∙ ap (λ (x : ℕ). bits_below x field + bit_at field (8 * i + 0)) (let z : 8 * i + 0 ≡ 8 * i = omega arith in z)
        in
        next (8 * i + 7) (8 * i + 8) field (omega arith)
        ∙ ap (λ (x : ℕ). x + bit_at field (8 * i + 7))
        (next (8 * i + 6) (8 * i + 7) field (omega arith)
        ∙ ap (λ (x : ℕ). x + bit_at field (8 * i + 6))
        (next (8 * i + 5) (8 * i + 6) field (omega arith)
        ∙ ap (λ (x : ℕ). x + bit_at field (8 * i + 5))
        (next (8 * i + 4) (8 * i + 5) field (omega arith)
        ∙ ap (λ (x : ℕ). x + bit_at field (8 * i + 4))
        (next (8 * i + 3) (8 * i + 4) field (omega arith)
        ∙ ap (λ (x : ℕ). x + bit_at field (8 * i + 3))
        (next (8 * i + 2) (8 * i + 3) field (omega arith)
        ∙ ap (λ (x : ℕ). x + bit_at field (8 * i + 2))
        (next (8 * i + 1) (8 * i + 2) field (omega arith) ∙ ap (λ (x : ℕ). x + bit_at field (8 * i + 1)) n1))))))

    eights : (field : List ℕ) (i b : ℕ) → get_or field i 0 ≡ b → get_or field i 0 < 256 → bits_below (8 * i + 8) field ≡ bits_below (8 * i) field + ones (get_or field i 0)
    eights field i b e h =
        unrolled field i
        ∙ sums (bits_below (8 * i) field) _ _ _ _ _ _ _ _ _ _ _ _ _ _ _ _ (ones (get_or field i 0))
        (bit-at field i 0 (omega arith)) (bit-at field i 1 (omega arith)) (bit-at field i 2 (omega arith)) (bit-at field i 3 (omega arith))
        (bit-at field i 4 (omega arith)) (bit-at field i 5 (omega arith)) (bit-at field i 6 (omega arith)) (bit-at field i 7 (omega arith))
        (ap ones (sym (whole_byte (get_or field i 0))) ∙ eight (get_or field i 0) h)

-- the first n bytes
ones_up_to : ℕ → List ℕ → ℕ
ones_up_to zero l = 0
ones_up_to (suc n) l = ones_up_to n l + ones (get_or l n 0)

bits_up_to : (n : ℕ) (field : List ℕ) → Bytes field → bits_below (8 * n) field ≡ ones_up_to n field
unfolding ones_up_to bits_below
bits_up_to zero field f = refl
bits_up_to (suc n) field f =
    ap (λ (x : ℕ). bits_below x field) (let z : 8 * suc n ≡ 8 * n + 8 = omega arith in z)
    ∙ below_eight field n (f n)
    ∙ ap (λ (x : ℕ). x + ones (get_or field n 0)) (bits_up_to n field f)

up_to_first : (n : ℕ) (x : ℕ) (l : List ℕ) → ones_up_to (suc n) (x ∷ l) ≡ ones x + ones_up_to n l
unfolding ones_up_to
up_to_first zero x l = omega arith
up_to_first (suc n) x l = let z = up_to_first n x l in omega arith

all_bytes : (l : List ℕ) → ones_up_to (length l) l ≡ byte_ones l
unfolding byte_ones ones_up_to
all_bytes [] = refl
all_bytes (x ∷ l) = up_to_first (length l) x l ∙ ap (λ (y : ℕ). ones x + y) (all_bytes l)

-- ---- the rest, a byte at a time

-- The bytes from a place on.
abbrev rest_of : List ℕ → ℕ → List ℕ
rest_of field at = take (length field - at) (drop at field)

module _ (field : List ℕ) (f : Bytes field) (at : ℕ) (inside : at ≤ length field) (few : length field < at + word_size) where
  rest_long : length (rest_of field at) ≡ length field - at
  rest_long = length-take-le (length field - at) (drop at field) (omega (arith, length-drop at field))

  -- seven bytes at most
  pub rest_small : (i word : ℕ) → word ≡ big_endian (take i (rest_of field at)) → i < length (rest_of field at) → word < 72057594037927936
  rest_small i word is h =
      let long : length (take i (rest_of field at)) ≡ i = length-take-le i (rest_of field at) (omega arith) in
      let bytes = bytes_take i (rest_of field at) (bytes_take (length field - at) (drop at field) (bytes_drop at field f)) in
      let below : big_endian (take i (rest_of field at)) < 256 ^ i = rw long at (big_endian_below (take i (rest_of field at)) bytes) in
      let most : 256 ^ i ≤ 256 ^ 7 = pow-le-pow_right (omega arith) (let z : i ≤ 7 = omega (arith, rest_long) in z) in
      omega (arith, is, below, most)

  pub rest_byte : (i : ℕ) → get_or (rest_of field at) i 0 < 256
  rest_byte i = bytes_take (length field - at) (drop at field) (bytes_drop at field f) i

  pub rest_next : (i word : ℕ) → word ≡ big_endian (take i (rest_of field at)) → i < length (rest_of field at)
      → word * 256 + get_or (rest_of field at) i 0 ≡ big_endian (take (i + 1) (rest_of field at))
  rest_next i word is h = rw is (sym (rw (zero-add (i + 1), zero-add i) at (last_byte (rest_of field at) 0 i (omega arith))))

  pub rest_ends : (i word : ℕ) → word ≡ big_endian (take i (rest_of field at)) → length (rest_of field at) ≤ i
      → word ≡ big_endian (slice at (length field) field)
  rest_ends i word is h =
      let e : at + (length field - at) ≡ length field = omega arith in
      is ∙ ap big_endian (take_all i (rest_of field at) h) ∙ ap big_endian (rw e at (take_drop (length field - at) at field))

-- ---- a field

field_ones : (field : List ℕ) → Bytes field → bits_set field ≡ byte_ones field
unfolding bits_set
field_ones field f = bits_up_to (length field) field f ∙ all_bytes field

module _ (field : List ℕ) (f : Bytes field) where
  pub set_starts : 0 + byte_ones (slice 0 (length field) field) ≡ bits_set field
  set_starts = let z : byte_ones (slice 0 (length field) field) ≡ bits_set field = ap byte_ones (take-length field) ∙ sym (field_ones field f) in omega arith

  -- a word, and what is behind it
  pub set_word : (at : ℕ) → at + word_size ≤ length field
      → byte_ones (slice at (length field) field) ≡ ones (word_at field at) + byte_ones (slice (at + word_size) (length field) field)
  unfolding word_at
  set_word at h =
      ap byte_ones (sym (slice_append word_size at (length field) field h))
      ∙ ones_append (slice at (at + word_size) field) (slice (at + word_size) (length field) field)
      ∙ ap (λ (n : ℕ). n + byte_ones (slice (at + word_size) (length field) field)) (sym (number_ones _ (bytes_slice field at (at + word_size) f)))

  -- the rest as one word
  pub set_rest : (at : ℕ) → byte_ones (slice at (length field) field) ≡ ones (big_endian (slice at (length field) field))
  set_rest at = sym (number_ones _ (bytes_slice field at (length field) f))

  -- word i is counted, and then the rest
  pub set_next : (i set n : ℕ) → n ≡ ones (word_at field (i * word_size)) → i < length field / word_size
      → set + byte_ones (slice (i * word_size) (length field) field) ≡ bits_set field
      → set + n + byte_ones (slice ((i + 1) * word_size) (length field) field) ≡ bits_set field
  set_next i set n e b w =
      let next : i * word_size + word_size ≡ (i + 1) * word_size = omega arith in
      let word = rw next at (set_word (i * word_size) (omega arith)) in
      omega (arith, word, e, w)

  pub set_ends : (i set n : ℕ) → n ≡ ones (big_endian (slice (length field / word_size * word_size) (length field) field)) → i ≡ length field / word_size
      → set + byte_ones (slice (i * word_size) (length field) field) ≡ bits_set field
      → set + n ≡ bits_set field
  set_ends i set n e all w =
      let left = rw all at w in
      omega (arith, left, e, set_rest (length field / word_size * word_size))

-- ---- no more are set than there are

bit_small : (field : List ℕ) (k : ℕ) → bit_at field k ≤ 1
unfolding bit_at
bit_small field k = le_of_lt_suc (mod-lt (get_or field (k / 8) 0 / 2 ^ (k % 8)) (let z : 0 < 2 = omega arith in z))
  where
    le_of_lt_suc : {n : ℕ} → n < 2 → n ≤ 1
    le_of_lt_suc h = omega arith

pub bits_few : (k : ℕ) (field : List ℕ) → bits_below k field ≤ k
unfolding bits_below
bits_few zero field = omega arith
bits_few (suc k) field = let a = bits_few k field in let b = bit_small field k in omega arith

pub set_most : (field : List ℕ) → bits_set field ≤ 8 * length field
unfolding bits_set
set_most field = bits_few (8 * length field) field
