-- Bytes of a known length and the number that they are tell each other: the rest is below 256 to its length, so the top byte is the quotient by
-- that and the rest the remainder. Hence a hash and its bytes tell each other, numbers are equal or ordered as the bytes are, and a list of hashes
-- is the bytes of its range.
use Prim.Native.Nat.{ℕ, zero, suc, ◌+◌, ◌*◌, ◌/◌, ◌%◌, ◌^◌, ◌≤◌, ◌<◌}
use mathlib.Core.Bool.{Bool, true, false, ◌||◌, ◌&&◌}
use mathlib.Core.List.{List, [], ◌∷◌, ◌++◌}
use mathlib.Core.Path.{◌≡◌, refl, sym, ap, ◌∙◌}
use native.Mathlib.Nat.{zero-add, suc-add, add-zero, add_assoc, not-suc-le-zero, pow-succ', pow-le-pow_right, one-le-pow, mod-lt, mod-eq_of_lt, mod-one, suc_inj, suc-ne-zero, lt_of_lt_of_le}
use native.Mathlib.Omega.{arith}
use borrow.Author.Tests.{ltb-true, ltb-false, lt-ltb, le-ltb, eq-eqb, ne_eqb}
use lib.Arith.{digits_lt, digits_div, digits_mod, mod-mul}
use lib.Dec.{ltb, eqb}
use lib.ListN.{length, get_or, take, drop, length-append, length-take, length-drop, take-append-drop}
use lib.Seq.{slice, slice_empty, take-take, drop-drop, take-nil, get_or-drop, length-slice, take_at, drop_at}
use Rattle.rules.specs.Hash.{Bytes, big_endian, big_endian_bytes, bytes_before, IsHash, AreHashes, hash_at, hashes_at, hash_bytes, hashes_bytes}
use Rattle.rules.specs.Sizes.{sizes}

pub bytes_head : (b : ℕ) (bs : List ℕ) → Bytes (b ∷ bs) → b < 256
bytes_head b bs h = h 0

pub bytes_tail : (b : ℕ) (bs : List ℕ) → Bytes (b ∷ bs) → Bytes bs
bytes_tail b bs h i = h (suc i)

pub bytes_take : (n : ℕ) (s : List ℕ) → Bytes s → Bytes (take n s)
bytes_take zero s h i = omega arith
bytes_take (suc n) [] h i = h i
bytes_take (suc n) (b ∷ bs) h zero = h 0
bytes_take (suc n) (b ∷ bs) h (suc i) = bytes_take n bs (bytes_tail b bs h) i

pub bytes_drop : (n : ℕ) (s : List ℕ) → Bytes s → Bytes (drop n s)
bytes_drop n s h i = rw get_or-drop (h (n + i))

pub bytes_slice : (s : List ℕ) (a e : ℕ) → Bytes s → Bytes (slice a e s)
bytes_slice s a e h = bytes_drop a (take e s) (bytes_take e s h)

pub big_endian_below : (bs : List ℕ) → Bytes bs → big_endian bs < 256 ^ length bs
unfolding big_endian
big_endian_below [] h = omega arith
big_endian_below (b ∷ bs) h = rw pow-succ' (digits_lt (bytes_head b bs h) (big_endian_below bs (bytes_tail b bs h)))

pub length_big_endian_bytes : (k x : ℕ) → length (big_endian_bytes k x) ≡ k
unfolding big_endian_bytes
length_big_endian_bytes zero x = refl
length_big_endian_bytes (suc k) x = ap suc (length_big_endian_bytes k x)

pub big_endian_bytes_bytes : (k x : ℕ) → Bytes (big_endian_bytes k x)
unfolding big_endian_bytes
big_endian_bytes_bytes zero x i = omega arith
big_endian_bytes_bytes (suc k) x zero = mod-lt (x / 256 ^ k) (omega arith)
big_endian_bytes_bytes (suc k) x (suc i) = big_endian_bytes_bytes k x i

-- k bytes hold the remainder by 256 ^ k.
pub value_of_bytes : (k x : ℕ) → big_endian (big_endian_bytes k x) ≡ x % 256 ^ k
unfolding big_endian big_endian_bytes
value_of_bytes zero x = sym (mod-one x)
value_of_bytes (suc k) x =
    rw (length_big_endian_bytes k x, value_of_bytes k x, pow-succ') (sym (mod-mul x (omega arith) (one-le-pow k 256 (omega arith))))

pub value_there_and_back : (k x : ℕ) → x < 256 ^ k → big_endian (big_endian_bytes k x) ≡ x
value_there_and_back k x h = value_of_bytes k x ∙ mod-eq_of_lt h

-- The top digit and the rest tell a number, and decide the order of two.
pub digits_equal : (x y c r t : ℕ) → r < c → t < c → x * c + r ≡ y * c + t → (x ≡ y) × (r ≡ t)
digits_equal x y c r t h k e =
    let top : x ≡ y = sym (digits_div x h) ∙ ap (λ (n : ℕ). n / c) e ∙ digits_div y k in
    (top, sym (digits_mod x h) ∙ ap (λ (n : ℕ). n % c) e ∙ digits_mod y k)

pub same_test : (a b c d : ℕ) → (a < b → c < d) → (b ≤ a → d ≤ c) → ltb a b ≡ ltb c d
same_test a b c d f g = go (ltb a b) refl
  where
    go : (p : Bool) → ltb a b ≡ p → p ≡ ltb c d
    go true e = sym (lt-ltb c d (f (ltb-true a b e)))
    go false e = sym (le-ltb c d (g (ltb-false a b e)))

digits_order : (x y c r t : ℕ) → r < c → t < c → (ltb x y || (eqb x y && ltb r t)) ≡ ltb (x * c + r) (y * c + t)
digits_order x y c r t h k = go (ltb x y) (ltb y x) refl refl
  where
    go : (p q : Bool) → ltb x y ≡ p → ltb y x ≡ q → (p || (eqb x y && ltb r t)) ≡ ltb (x * c + r) (y * c + t)
    go true q e f = sym (lt-ltb (x * c + r) (y * c + t) (omega (arith, digits_lt (ltb-true x y e) h)))
    go false true e f =
        let l : y < x = ltb-true y x f in
        rw (ne_eqb x y (omega arith), le-ltb (x * c + r) (y * c + t) (omega (arith, digits_lt l k)))
    go false false e f =
        let q : x ≡ y = omega (arith, ltb-false x y e, ltb-false y x f) in
        rw (eq-eqb x y q, q) (same_test r t (y * c + r) (y * c + t) (omega arith) (omega arith))

-- Induction on two lists of bytes of one length, with the bounds on the rest that the digits' laws want.
each_digit : (P : List ℕ → List ℕ → Type 0)
    → P [] []
    → ((x y : ℕ) (xs ys : List ℕ) → length xs ≡ length ys → big_endian xs < 256 ^ length ys → big_endian ys < 256 ^ length ys → P xs ys → P (x ∷ xs) (y ∷ ys))
    → (a b : List ℕ) → Bytes a → Bytes b → length a ≡ length b → P a b
each_digit P none step [] [] ha hb l = none
each_digit P none step [] (y ∷ ys) ha hb l = absurd (suc-ne-zero (length ys) (sym l))
each_digit P none step (x ∷ xs) [] ha hb l = absurd (suc-ne-zero (length xs) l)
each_digit P none step (x ∷ xs) (y ∷ ys) ha hb l =
    let n : length xs ≡ length ys = suc_inj l in
    let below : big_endian xs < 256 ^ length ys = rw n at (big_endian_below xs (bytes_tail x xs ha)) in
    let rest = each_digit P none step xs ys (bytes_tail x xs ha) (bytes_tail y ys hb) n in
    step x y xs ys n below (big_endian_below ys (bytes_tail y ys hb)) rest

pub equal_values : (a b : List ℕ) → Bytes a → Bytes b → length a ≡ length b → big_endian a ≡ big_endian b → a ≡ b
unfolding big_endian
equal_values =
    each_digit (λ a b. big_endian a ≡ big_endian b → a ≡ b) (λ e. refl)
    (λ x y xs ys n h k rest e.
    let parts = digits_equal x y (256 ^ length ys) (big_endian xs) (big_endian ys) h k (rw n at e) in
    rw (parts.0, rest parts.1))

pub order_of_values : (a b : List ℕ) → Bytes a → Bytes b → length a ≡ length b → bytes_before a b ≡ ltb (big_endian a) (big_endian b)
unfolding big_endian bytes_before
order_of_values =
    each_digit (λ a b. bytes_before a b ≡ ltb (big_endian a) (big_endian b)) refl
    (λ x y xs ys n h k rest. rw (rest, n) (digits_order x y (256 ^ length ys) (big_endian xs) (big_endian ys) h k))

pub bytes_there_and_back : (bs : List ℕ) → Bytes bs → big_endian_bytes (length bs) (big_endian bs) ≡ bs
bytes_there_and_back bs h =
    let same : big_endian (big_endian_bytes (length bs) (big_endian bs)) ≡ big_endian bs = value_there_and_back (length bs) (big_endian bs) (big_endian_below bs h) in
    equal_values _ bs (big_endian_bytes_bytes (length bs) (big_endian bs)) h (length_big_endian_bytes (length bs) (big_endian bs)) same

-- Parts of a slice: its start, a slice of it, and the two that a place inside it makes.
pub take_drop : (k a : ℕ) (s : List ℕ) → take k (drop a s) ≡ drop a (take (a + k) s)
take_drop k zero s = rw zero-add
take_drop k (suc a) [] = simp take-nil
take_drop k (suc a) (x ∷ xs) = rw suc-add (take_drop k a xs)

pub take_slice : (k a e : ℕ) (s : List ℕ) → a + k ≤ e → take k (slice a e s) ≡ slice a (a + k) s
take_slice k a e s h = rw (take_drop k a (take e s), take-take)

pub slice_slice : (i j a e : ℕ) (s : List ℕ) → a + j ≤ e → slice i j (slice a e s) ≡ slice (a + i) (a + j) s
slice_slice i j a e s h = rw (take_slice j a e s h, drop-drop)

pub slice_append : (k a e : ℕ) (s : List ℕ) → a + k ≤ e → slice a (a + k) s ++ slice (a + k) e s ≡ slice a e s
slice_append k a e s h = rw (← take_slice k a e s h, ← drop-drop k a (take e s)) (take-append-drop k (slice a e s))

pub slice_parts : (k a e : ℕ) (s p q : List ℕ) → a + k ≤ e → length p ≡ k → slice a e s ≡ p ++ q → (slice a (a + k) s ≡ p) × (slice (a + k) e s ≡ q)
slice_parts k a e s p q h l same =
    let first : slice a (a + k) s ≡ p = rw (← take_slice k a e s h, same) (take_at p q k l) in
    (first, rw (← drop-drop k a (take e s), same) (drop_at p q k l))

-- A slice of k bytes and its number, at any k.
pub length_slice_of : (k : ℕ) (s : List ℕ) (a : ℕ) → a + k ≤ length s → length (slice a (a + k) s) ≡ k
length_slice_of k s a h = rw (length-slice a (a + k) s h) (omega arith)

slice_below : (k : ℕ) (s : List ℕ) (a : ℕ) → Bytes s → big_endian (slice a (a + k) s) < 256 ^ k
slice_below k s a h =
    let short : length (slice a (a + k) s) ≤ k = simp (length-drop, length-take) (omega arith) in
    lt_of_lt_of_le (big_endian_below (slice a (a + k) s) (bytes_slice s a (a + k) h)) (pow-le-pow_right (omega arith) short)

slice_there_and_back : (k : ℕ) (s : List ℕ) (a : ℕ) → Bytes s → a + k ≤ length s → big_endian_bytes k (big_endian (slice a (a + k) s)) ≡ slice a (a + k) s
slice_there_and_back k s a h f = rw (length_slice_of k s a f) at (bytes_there_and_back (slice a (a + k) s) (bytes_slice s a (a + k) h))

pub hash_is_hash : (s : List ℕ) (place : ℕ) → Bytes s → IsHash (hash_at s place)
unfolding hash_at
hash_is_hash s place h = slice_below sizes.hash s place h

pub hash_bytes_lem : (s : List ℕ) (place : ℕ) → Bytes s → place + sizes.hash ≤ length s → hash_bytes (hash_at s place) ≡ slice place (place + sizes.hash) s
unfolding hash_at hash_bytes
hash_bytes_lem s place h f = slice_there_and_back sizes.hash s place h f

pub hash_there_and_back : (s : List ℕ) (place h : ℕ) → IsHash h → slice place (place + sizes.hash) s ≡ hash_bytes h → hash_at s place ≡ h
unfolding hash_at hash_bytes
hash_there_and_back s place h a e = ap big_endian e ∙ value_there_and_back sizes.hash h a

pub length_hash_bytes : (h : ℕ) → length (hash_bytes h) ≡ sizes.hash
unfolding hash_bytes
length_hash_bytes h = length_big_endian_bytes sizes.hash h

module _ (s t : List ℕ) (i j : ℕ) (bs : Bytes s) (bt : Bytes t) (fs : i + sizes.hash ≤ length s) (ft : j + sizes.hash ≤ length t) where
  pub equal_hashes : hash_at s i ≡ hash_at t j → slice i (i + sizes.hash) s ≡ slice j (j + sizes.hash) t
  equal_hashes e = sym (hash_bytes_lem s i bs fs) ∙ ap hash_bytes e ∙ hash_bytes_lem t j bt ft

  pub order_of_hashes : bytes_before (slice i (i + sizes.hash) s) (slice j (j + sizes.hash) t) ≡ ltb (hash_at s i) (hash_at t j)
  unfolding hash_at
  order_of_hashes =
      let long : length (slice i (i + sizes.hash) s) ≡ length (slice j (j + sizes.hash) t) = length_slice_of _ s i fs ∙ sym (length_slice_of _ t j ft) in
      order_of_values _ _ (bytes_slice s i (i + sizes.hash) bs) (bytes_slice t j (j + sizes.hash) bt) long

-- Lists of hashes: each law takes the first hash off, by this sum.
after_first : (place count : ℕ) → place + sizes.hash * suc count ≡ place + sizes.hash + sizes.hash * count
after_first place count = omega arith

pub length_hashes_at : (s : List ℕ) (place count : ℕ) → length (hashes_at s place count) ≡ count
unfolding hashes_at
length_hashes_at s place zero = refl
length_hashes_at s place (suc count) = ap suc (length_hashes_at s (place + sizes.hash) count)

pub length_hashes_bytes : (hs : List ℕ) → length (hashes_bytes hs) ≡ sizes.hash * length hs
unfolding hashes_bytes
length_hashes_bytes [] = refl
length_hashes_bytes (h ∷ hs) = rw (length-append, length_hash_bytes, length_hashes_bytes hs) (omega arith)

pub hashes_are_hashes : (s : List ℕ) (place count : ℕ) → Bytes s → AreHashes (hashes_at s place count)
unfolding AreHashes hashes_at
hashes_are_hashes s place zero h = tt
hashes_are_hashes s place (suc count) h = (hash_is_hash s place h, hashes_are_hashes s (place + sizes.hash) count h)

pub hashes_at_bytes : (s : List ℕ) (place count : ℕ)
    → Bytes s
    → place + sizes.hash * count ≤ length s
    → hashes_bytes (hashes_at s place count) ≡ slice place (place + sizes.hash * count) s
unfolding hashes_bytes hashes_at
hashes_at_bytes s place zero h f = rw (add-zero, slice_empty)
hashes_at_bytes s place (suc count) h f =
    let next : ℕ = place + sizes.hash in
    let rest = hashes_at_bytes s next count h (omega arith) in
    rw (hash_bytes_lem s place h (omega arith), rest, after_first) (slice_append sizes.hash place (next + sizes.hash * count) s (omega arith))

pub hashes_there_and_back : (s : List ℕ) (place : ℕ) (hs : List ℕ)
    → AreHashes hs
    → slice place (place + sizes.hash * length hs) s ≡ hashes_bytes hs
    → hashes_at s place (length hs) ≡ hs
unfolding AreHashes hashes_at hashes_bytes
hashes_there_and_back s place [] a e = refl
hashes_there_and_back s place (h ∷ hs) a e =
    let next : ℕ = place + sizes.hash in
    let end : ℕ = next + sizes.hash * length hs in
    let parts = slice_parts sizes.hash place end s (hash_bytes h) (hashes_bytes hs) (omega arith) (length_hash_bytes h) (rw after_first at e) in
    rw (hash_there_and_back s place h a.0 parts.0, hashes_there_and_back s next hs a.1 parts.1)

pub hashes_index : (s : List ℕ) (place count i : ℕ) → i < count → get_or (hashes_at s place count) i 0 ≡ hash_at s (place + sizes.hash * i)
unfolding hashes_at
hashes_index s place zero i h = absurd (not-suc-le-zero h)
hashes_index s place (suc count) zero h = rw add-zero
hashes_index s place (suc count) (suc i) h = rw after_first (hashes_index s (place + sizes.hash) count i (omega arith))

-- A hash is read from its own bytes alone: the same from a slice that holds them.
pub hash_at_slice : (s : List ℕ) (place e i : ℕ) → place + i + sizes.hash ≤ e → hash_at s (place + i) ≡ hash_at (slice place e s) i
unfolding hash_at
hash_at_slice s place e i h = rw (slice_slice i (i + sizes.hash) place e s (omega arith), add_assoc)

pub hashes_at_slice : (s : List ℕ) (place e i count : ℕ)
    → place + i + sizes.hash * count ≤ e
    → hashes_at s (place + i) count ≡ hashes_at (slice place e s) i count
unfolding hashes_at
hashes_at_slice s place e i zero h = refl
hashes_at_slice s place e i (suc count) h =
    rw (hash_at_slice s place e i (omega arith), add_assoc, hashes_at_slice s place e (i + sizes.hash) count (omega arith))
