-- Laws of numbers: how the shortest form goes on, and how `find` goes from one byte to the next.
use Prim.Native.Nat.{ℕ, zero, suc, ◌+◌, ◌-◌, ◌*◌, ◌/◌, ◌%◌, ◌^◌, ◌≤◌, ◌<◌, min, suc-le-suc}
use mathlib.Core.List.{List, [], ◌∷◌, ◌++◌}
use mathlib.Core.Path.{◌≡◌, refl, sym, ◌∙◌, ap, ap₂}
use native.Mathlib.Nat.{mul-add-div_right, div-lt_iff_lt-mul, pow-suc, le-div_iff_mul-le, div-div-eq-div-mul, mul_comm, mul_assoc, add-mul}
use native.Mathlib.Numerals.{add-one}
use native.Mathlib.Omega.{arith}
use borrow.Author.Tests.{lt-ltb, le-ltb, ltb-true, ltb-false}
use lib.Dec.{ltb, lit<}
use lib.ListN.{length, get_or, set, take, drop, length-take, drop_of_length-le, length-append}
use lib.Seq.{slice, sets, slice-cons, take_all}
use lib.Pow.{pow-add, pow_mono, pow_pos}
use Rattle.rules.proofs.Cases.{split}
use Rattle.rules.proofs.Outputs.{sets_append}
use Rattle.rules.specs.declared.refusal.Refusal.TheVariants.{Cut, BadNumber}
use Rattle.leb128.specs.Number.{sevens, shortest, Found, ends, cut, bad, go_on, find, answer_at, number_at, Put}
use Rattle.std.specs.Prelude.{Result, Ok, Err}
use Rattle.rules.specs.declared.refusal.Refusal.{Refusal}

-- ---- the shortest form

-- the bound on the steps doesn't matter where it is large enough
enough : (k j n : ℕ) → n ≤ k → n ≤ j → sevens k n ≡ sevens j n
unfolding sevens
enough zero zero n h g = refl
enough zero (suc j) n h g =
    let s : n < 128 = omega arith in
    rw (lt-ltb _ _ s)
enough (suc k) zero n h g =
    let s : n < 128 = omega arith in
    rw (lt-ltb _ _ s)
enough (suc k) (suc j) n h g =
    split (ltb n 128)
    (λ e. rw e)
    (λ e.
    let l : 128 ≤ n = ltb-false _ _ e in
    rw e (ap (λ (r : List ℕ). (n % 128 + 128) ∷ r) (enough k j (n / 128) (omega arith) (omega arith))))

pub shortest_one : (n : ℕ) → n < 128 → shortest n ≡ n ∷ []
unfolding shortest sevens
shortest_one zero h = refl
shortest_one (suc n) h = rw (lt-ltb (suc n) 128 h)

pub shortest_more : (n : ℕ) → 128 ≤ n → shortest n ≡ (n % 128 + 128) ∷ shortest (n / 128)
unfolding shortest sevens
shortest_more zero h = absurd (omega arith)
shortest_more (suc n) h =
    rw (le-ltb (suc n) 128 h)
    (ap (λ (r : List ℕ). (suc n % 128 + 128) ∷ r) (enough n (suc n / 128) (suc n / 128) (omega arith) (omega arith)))

pub shortest_length_more : (n : ℕ) → 128 ≤ n → length (shortest n) ≡ suc (length (shortest (n / 128)))
shortest_length_more n h = rw (shortest_more n h)

-- a number of k groups of seven bits has at most k bytes
pub shortest_length : (k n : ℕ) → n < 128 ^ suc k → length (shortest n) ≤ suc k
shortest_length zero n h = let l : n < 128 = h in rw (shortest_one n l) (omega arith)
shortest_length (suc k) n h =
    split (ltb n 128)
    (λ e. let l : n < 128 = ltb-true _ _ e in rw (shortest_one n l) (omega arith))
    (λ e.
    let l : 128 ≤ n = ltb-false _ _ e in
    let q : n / 128 < 128 ^ suc k = (div-lt_iff_lt-mul (lit< tt)).1 (rw (← pow-suc 128 (suc k)) h) in
    rw (shortest_length_more n l) (suc-le-suc (shortest_length k (n / 128) q)))

-- ---- one byte of `find`

pub find_low : (least most b : ℕ) (bs : List ℕ) → b < least → find least most (b ∷ bs) ≡ bad
unfolding find
find_low least most b bs h = rw (lt-ltb _ _ h)

pub find_high : (least most b : ℕ) (bs : List ℕ) → least ≤ b → most < b → find least most (b ∷ bs) ≡ bad
unfolding find
find_high least most b bs h g = rw (le-ltb _ _ h, lt-ltb _ _ g)

pub find_end : (least most b : ℕ) (bs : List ℕ) → least ≤ b → b ≤ most → b < 128 → find least most (b ∷ bs) ≡ ends b 1
unfolding find
find_end least most b bs h g l = rw (le-ltb _ _ h, le-ltb _ _ g, lt-ltb _ _ l)

pub find_more : (least most b : ℕ) (bs : List ℕ) → least ≤ b → b ≤ most → 128 ≤ b
    → find least most (b ∷ bs) ≡ go_on (b - 128) (find 1 ((most - (b - 128)) / 128) bs)
unfolding find
find_more least most b bs h g l = rw (le-ltb _ _ h, le-ltb _ _ g, le-ltb _ _ l)

-- ---- the loop that reads

-- what a number is, once `value` and `taken` bytes of it are read and what follows counts `scale` times
pub onward : ℕ → ℕ → ℕ → Found → Found
onward value scale taken (ends n size) = ends (value + n * scale) (taken + size)
onward value scale taken cut = cut
onward value scale taken bad = bad

onward_start : (f : Found) → onward 0 1 0 f ≡ f
unfolding onward
onward_start (ends n size) = ap₂ ends (omega arith) (omega arith)
onward_start cut = refl
onward_start bad = refl

onward_more : (v c t low : ℕ) (f : Found) → onward v c t (go_on low f) ≡ onward (v + low * c) (c * 128) (suc t) f
unfolding onward go_on
onward_more v c t low (ends n size) =
    let e : (low + 128 * n) * c ≡ low * c + n * (c * 128) =
    add-mul low (128 * n) c ∙ ap (λ (k : ℕ). low * c + k) (ap (λ (k : ℕ). k * c) (mul_comm 128 n) ∙ mul_assoc n 128 c ∙ ap (λ (k : ℕ). n * k) (mul_comm 128 c))
    in
    ap₂ ends (omega arith) (omega arith)
onward_more v c t low cut = refl
onward_more v c t low bad = refl

-- what is still allowed after seven more bits
most_more : (most v c low : ℕ) → 0 < c → v + low * c ≤ most → ((most - v) / c - low) / 128 ≡ (most - (v + low * c)) / (c * 128)
most_more most v c low p h =
    let y : ℕ = most - (v + low * c) in
    let e : most - v ≡ low * c + y = omega arith in
    let q : (low * c + y) / c - low ≡ y / c = omega (arith, mul-add-div_right p low y) in
    rw (e, q) (div-div-eq-div-mul y c 128)

-- the bytes of a part, one by one
pub slice_past : (s : List ℕ) (i end : ℕ) → end ≤ i → slice i end s ≡ []
slice_past s i end h = drop_of_length-le (take end s) {i = i} (simp length-take (omega arith))

pub slice_next : (s : List ℕ) (i end : ℕ) → i < end → end ≤ length s → slice i end s ≡ get_or s i 0 ∷ slice (i + 1) end s
slice_next s i end h g = rw add-one (slice-cons i end s 0 h g)

-- a part that goes past the slice's end ends there
take_within : (s : List ℕ) (end stop : ℕ) → stop ≡ min end (length s) → take stop s ≡ take end s
take_within s end stop e =
    split (ltb (length s) end)
    (λ t.
    let past : length s < end = ltb-true _ _ t in
    take_all stop s (omega arith) ∙ sym (take_all end s (omega arith)))
    (λ t.
    let inside : end ≤ length s = ltb-false _ _ t in
    let same : stop ≡ end = omega arith in
    ap (λ (k : ℕ). take k s) same)

pub number_within : (most : ℕ) (s : List ℕ) (at end stop : ℕ) → stop ≡ min end (length s) → number_at most s at stop ≡ number_at most s at end
unfolding number_at
number_within most s at end stop e = ap (λ (l : List ℕ). answer_at at (find 0 most (drop at l))) (take_within s end stop e)

-- what is being read, in the loop's state
pub reading : ℕ → List ℕ → ℕ → ℕ → ℕ → ℕ → ℕ → ℕ → Result (ℕ × ℕ) Refusal
reading most s at end i least value scale =
    answer_at at (onward value scale (i - at) (find least ((most - value) / scale) (slice i end s)))

pub reading_starts : (most : ℕ) (s : List ℕ) (at end : ℕ) → reading most s at end at 0 0 1 ≡ number_at most s at end
unfolding reading number_at
reading_starts most s at end =
    let e : (most - 0) / 1 ≡ most = omega arith in
    let d : at - at ≡ 0 = omega arith in
    rw (e, d, onward_start)

module _ (most : ℕ) (s : List ℕ) (at end i least value scale : ℕ) where
  pub reading_cut : end ≤ i → reading most s at end i least value scale ≡ Err (Cut at)
  unfolding reading answer_at onward find
  reading_cut h = rw (slice_past s i end h)

  module _ (here : i < end) (inside : end ≤ length s) where
    pub reading_low : get_or s i 0 < least → reading most s at end i least value scale ≡ Err (BadNumber at)
    unfolding reading answer_at onward
    reading_low l = rw (slice_next s i end here inside, find_low least ((most - value) / scale) (get_or s i 0) (slice (i + 1) end s) l)

    pub reading_high : least ≤ get_or s i 0 → (most - value) / scale < get_or s i 0
        → reading most s at end i least value scale ≡ Err (BadNumber at)
    unfolding reading answer_at onward
    reading_high l m =
        rw (slice_next s i end here inside, find_high least ((most - value) / scale) (get_or s i 0) (slice (i + 1) end s) l m)

    module _ (after : at ≤ i) (l : least ≤ get_or s i 0) (m : get_or s i 0 ≤ (most - value) / scale) where
      pub reading_ends : get_or s i 0 < 128 → reading most s at end i least value scale ≡ Ok (value + get_or s i 0 * scale, i + 1)
      unfolding reading answer_at onward
      reading_ends e =
          rw (
            slice_next s i end here inside,
            find_end least ((most - value) / scale) (get_or s i 0) (slice (i + 1) end s) l m e,
          )
          (ap (λ (e : ℕ). Ok (value + get_or s i 0 * scale, e)) (omega arith))

      pub reading_more : 0 < scale → value + (get_or s i 0 - 128) * scale ≤ most → 128 ≤ get_or s i 0
          → reading most s at end i least value scale
          ≡ reading most s at end (i + 1) 1 (value + (get_or s i 0 - 128) * scale) (scale * 128)
      unfolding reading
      reading_more p v e =
          let t : i + 1 - at ≡ suc (i - at) = omega arith in
          rw (
            slice_next s i end here inside,
            find_more least ((most - value) / scale) (get_or s i 0) (slice (i + 1) end s) l m e,
            onward_more value scale (i - at) (get_or s i 0 - 128)
                (find 1 (((most - value) / scale - (get_or s i 0 - 128)) / 128) (slice (i + 1) end s)),
            most_more most value scale (get_or s i 0 - 128) p v,
            t,
          )

-- that nothing in the loop overflows

pub room_for : (most value b scale shift : ℕ) → scale ≡ 2 ^ shift → value ≤ most → b ≤ (most - value) / 2 ^ shift
    → value + b * scale ≤ most
room_for most value b scale shift e v h =
    let g : b * 2 ^ shift ≤ most - value = (le-div_iff_mul-le (pow_pos shift)).0 h in
    rw e (omega arith)

pub high_bit_off : (b scale : ℕ) → 128 ≤ b → b * scale ≡ (b - 128) * scale + scale * 128
high_bit_off b scale h =
    let e : b ≡ (b - 128) + 128 = omega arith in
    ap (λ (k : ℕ). k * scale) e ∙ add-mul (b - 128) 128 scale ∙ ap (λ (k : ℕ). (b - 128) * scale + k) (mul_comm 128 scale)

pub next_power : (scale shift : ℕ) → scale ≡ 2 ^ shift → scale * 128 ≡ 2 ^ (shift + 7)
next_power scale shift e = ap (λ (k : ℕ). k * 128) e ∙ sym (pow-add 2 shift 7)

pub narrow : (scale shift : ℕ) → scale ≡ 2 ^ shift → scale < 2 ^ 64 → shift < 64
narrow scale shift e h =
    split (ltb shift 64)
    (λ t. ltb-true _ _ t)
    (λ t.
    let w : 2 ^ 64 ≤ 2 ^ shift = pow_mono (ltb-false _ _ t) in
    absurd (omega arith))

-- ---- the loop that writes

-- ten bytes hold 64 bits
pub shortest_ten : (n : ℕ) → n < 2 ^ 64 → length (shortest n) ≤ 10
shortest_ten n h = shortest_length 9 n (omega arith)

pub put_more : (out : List ℕ) (i rest : ℕ) → 128 ≤ rest
    → sets (set out i (rest % 128 + 128)) (i + 1) (shortest (rest / 128)) ≡ sets out i (shortest rest)
put_more out i rest h = rw (shortest_more rest h, add-one)

pub put_one : (out : List ℕ) (i rest : ℕ) → rest < 128 → set out i rest ≡ sets out i (shortest rest)
put_one out i rest h = rw (shortest_one rest h)

pub length_one : (n : ℕ) → n < 128 → length (shortest n) ≡ 1
length_one n h = rw (shortest_one n h)

-- what is put after bytes that were put
pub put_then : (before mid b : List ℕ) (at next : ℕ) (a : List ℕ) → Put before mid at a next → sets mid next b ≡ sets before at (a ++ b)
put_then before mid b at next a p = rw (p.content, p.place) (sets_append a b before at)

pub put_joined : (o₁ o₂ o₃ : List ℕ) (at i j : ℕ) (a b : List ℕ) → Put o₁ o₂ at a i → Put o₂ o₃ i b j → Put o₁ o₃ at (a ++ b) j
put_joined o₁ o₂ o₃ at i j a b x y =
    let e = x.place in
    let f = y.place in
    record {
      place = simp length-append (omega arith);
      content = y.content ∙ put_then o₁ o₂ b at i a x;
    }
