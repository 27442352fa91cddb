-- Counts, prefixed strings and hash lists: an accepted item ends inside its part, and reading and writing undo one another. Each of them is a number,
-- a test of it and a result that the number makes: `checks` says once how that is put together and taken apart, and the laws of numbers and of
-- slices do the rest.
use Prim.Native.Nat.{ℕ, ◌+◌, ◌-◌, ◌*◌, ◌/◌, ◌≤◌, ◌<◌, min}
use mathlib.Core.Bool.{cond}
use mathlib.Core.List.{List, ◌++◌, append_assoc}
use mathlib.Core.Path.{◌≡◌, refl, sym, ◌∙◌, ap}
use native.Mathlib.Omega.{arith}
use borrow.Author.Tests.{lt-ltb, le-ltb, ltb-false}
use lib.Dec.{ltb}
use lib.ListN.{length, length-append, length-take, length-drop}
use lib.Seq.{slice, length-slice}
use Rattle.rules.specs.Hash.{Bytes, AreHashes, hashes_at, hashes_bytes}
use Rattle.rules.specs.Sizes.{sizes}
use Rattle.rules.specs.declared.refusal.Refusal.{Refusal}
use Rattle.rules.specs.declared.refusal.Refusal.TheVariants.{Cut, PastSize}
use Rattle.rules.proofs.Cases.{split, read_same}
use Rattle.rules.proofs.Hash.{slice_append, slice_parts, length_hashes_at, length_hashes_bytes, hashes_at_bytes, hashes_there_and_back}
use Rattle.wire.specs.Item.{run, left_at, after_number, count_at, prefixed_at, hash_list_at, prefixed_bytes, hash_list_bytes}
use Rattle.leb128.specs.Number.{shortest, number_at, most64}
use Rattle.wire.specs.declared.parse.Run.{Run}
use Rattle.leb128.proofs.Meaning.{number_inside, number_written, written_number}
use Rattle.std.specs.Prelude.{Result, Ok, Err}

pub left_is : (s : List ℕ) (at end : ℕ) → left_at s at end ≡ min end (length s) - at
unfolding left_at
left_is s at end = simp (length-drop, length-take)

-- ---- a number, a test, a result

-- An item that is made of a number up to a limit: its three cases, and what stands behind one that isn't refused.
pub record Checks {A : Type 0} (x : Result (ℕ × ℕ) Refusal) (refused : Refusal → A) (limit : ℕ → ℕ) (why : ℕ → Refusal) (made : ℕ → ℕ → A) (item : A) : Type 0 where
  pub passed : (r : Refusal) → x ≡ Err r → item ≡ refused r
  pub past : (n next : ℕ) → x ≡ Ok (n, next) → limit next < n → item ≡ refused (why next)
  pub put : (n next : ℕ) → x ≡ Ok (n, next) → n ≤ limit next → item ≡ made n next
  pub apart : (y : A) → ((r : Refusal) → refused r ≡ y → ⊥) → item ≡ y
      → (n : ℕ) × (next : ℕ) × (x ≡ Ok (n, next)) × (n ≤ limit next) × (made n next ≡ y)

checks : {A : Type 0} (x : Result (ℕ × ℕ) Refusal) (refused : Refusal → A) (limit : ℕ → ℕ) (why : ℕ → Refusal) (made : ℕ → ℕ → A)
    → Checks x refused limit why made (after_number x refused (λ n next. cond (ltb (limit next) n) (refused (why next)) (made n next)))
unfolding after_number
checks {A} x refused limit why made =
    record {
      passed = λ r e. rw e;
      past = λ n next e h. rw (e, lt-ltb (limit next) n h);
      put = λ n next e h. rw (e, le-ltb (limit next) n h);
      apart = λ y other e. go y other x refl e;
    }
  where
    go : (y : A) → ((r : Refusal) → refused r ≡ y → ⊥) → (z : Result (ℕ × ℕ) Refusal) → x ≡ z
        → after_number z refused (λ n next. cond (ltb (limit next) n) (refused (why next)) (made n next)) ≡ y
        → (n : ℕ) × (next : ℕ) × (x ≡ Ok (n, next)) × (n ≤ limit next) × (made n next ≡ y)
    go y other (Ok (n, next)) d f =
        split (ltb (limit next) n)
        (λ t. absurd (other (why next) (rw t at f)))
        (λ t. (n, next, d, ltb-false _ _ t, rw t at f))
    go y other (Err r) d f = absurd (other r f)

pub count_checks : (limit : ℕ) (s : List ℕ) (at end : ℕ)
    → Checks (number_at most64 s at end) Err (λ next. limit) (λ next. PastSize at) (λ x y. Ok (x, y)) (count_at limit s at end)
unfolding count_at
count_checks limit s at end = checks _ _ _ _ _

pub prefixed_checks : (s : List ℕ) (at end : ℕ)
    → Checks
    (number_at most64 s at end)
    Err
    (λ start. left_at s start end)
    (λ start. Cut at)
    (λ n start. Ok (start, start + n))
    (prefixed_at s at end)
unfolding prefixed_at
prefixed_checks s at end = checks _ _ _ _ _

pub hash_list_checks : (s : List ℕ) (at end : ℕ)
    → Checks
    (count_at sizes.hashes s at end)
    Err
    (λ start. left_at s start end / sizes.hash)
    (λ start. Cut (start + sizes.hash * (left_at s start end / sizes.hash)))
    (λ count start. Ok (run start count, start + sizes.hash * count))
    (hash_list_at s at end)
unfolding hash_list_at
hash_list_checks s at end = checks _ _ _ _ _

-- ---- counts

pub record CountInside (limit : ℕ) (s : List ℕ) (at end n next : ℕ) : Type 0 where
  pub small : n ≤ limit
  pub after : at < next
  pub up_to : next ≤ end
  pub there : next ≤ length s

module _ (limit : ℕ) (s : List ℕ) (at end n next : ℕ) where
  pub count_number : count_at limit s at end ≡ Ok (n, next) → (number_at most64 s at end ≡ Ok (n, next)) × (n ≤ limit)
  count_number e =
      let p = (count_checks limit s at end).apart (Ok (n, next)) (λ r d. let z : ◌≡◌ {A = ℕ} 0 1 = cc in omega arith) e in
      let same = read_same p.4 in
      (rw (same.0, same.1) at p.2, omega (arith, same.0, p.3))

  pub count_inside : count_at limit s at end ≡ Ok (n, next) → CountInside limit s at end n next
  count_inside e =
      let p = count_number e in
      omega (arith, number_inside most64 s at end n next p.0)

-- ---- a number and what follows it

-- Of a number and a body that were written: the number is read, the body is as long as it was, and stands after the number.
after_written : (s body rest : List ℕ) (at end n : ℕ) → n ≤ most64 → slice at end s ≡ (shortest n ++ body) ++ rest
    → (number_at most64 s at end ≡ Ok (n, at + length (shortest n)))
    × (length body ≤ left_at s (at + length (shortest n)) end)
    × (slice (at + length (shortest n)) (at + length (shortest n) + length body) s ≡ body)
unfolding left_at
after_written s body rest at end n small same =
    let size : ℕ = length (shortest n) in
    let start : ℕ = at + size in
    let first : slice at end s ≡ shortest n ++ (body ++ rest) = same ∙ append_assoc (shortest n) body rest in
    let number = number_written most64 s at end n (body ++ rest) small first in
    let inside = number_inside most64 s at end n start number in
    let second : slice start end s ≡ body ++ rest = (slice_parts size at end s (shortest n) (body ++ rest) inside.up_to refl first).1 in
    let fits : length body ≤ left_at s start end = rw second (omega (arith, length-append body rest)) in
    let room : start + length body ≤ end = omega (arith, left_is s start end) in
    (number, fits, (slice_parts (length body) start end s body rest room refl second).0)

-- Of a number that was read: its shortest form stands there, before what follows.
after_read : (s : List ℕ) (at end n start next : ℕ) → Bytes s → number_at most64 s at end ≡ Ok (n, start) → start ≤ next
    → slice at next s ≡ shortest n ++ slice start next s
after_read s at end n start next all read h =
    let inside = number_inside most64 s at end n start read in
    let size : ℕ = start - at in
    let e : at + size ≡ start = omega arith in
    let parts : slice at start s ++ slice start next s ≡ slice at next s = rw e at (slice_append size at next s (omega arith)) in
    sym parts ∙ ap (λ (l : List ℕ). l ++ slice start next s) (written_number most64 s at end n start all read)

-- ---- prefixed strings

pub record PartInside (s : List ℕ) (at end start next : ℕ) : Type 0 where
  pub after : at < start
  pub upward : start ≤ next
  pub up_to : next ≤ end
  pub there : next ≤ length s

module _ (s : List ℕ) (at end start next : ℕ) where
  prefixed_number : prefixed_at s at end ≡ Ok (start, next)
      → (n : ℕ) × (number_at most64 s at end ≡ Ok (n, start)) × (n ≤ left_at s start end) × (start + n ≡ next)
  prefixed_number e =
      let p = (prefixed_checks s at end).apart (Ok (start, next)) (λ r d. let z : ◌≡◌ {A = ℕ} 0 1 = cc in omega arith) e in
      let same = read_same p.4 in
      (p.0, rw same.0 at p.2, rw same.0 at p.3, rw same.0 at same.1)

  pub prefixed_inside : prefixed_at s at end ≡ Ok (start, next) → PartInside s at end start next
  prefixed_inside e =
      let p = prefixed_number e in
      omega (arith, number_inside most64 s at end p.0 start p.1, left_is s start end)

  pub written_prefixed : Bytes s → prefixed_at s at end ≡ Ok (start, next) → slice at next s ≡ prefixed_bytes (slice start next s)
  unfolding prefixed_bytes
  written_prefixed all e =
      let p = prefixed_number e in
      let inside = prefixed_inside e in
      let size : length (slice start next s) ≡ p.0 = length-slice start next s inside.there ∙ omega arith in
      rw size (after_read s at end p.0 start next all p.1 inside.upward)

pub prefixed_written : (s t rest : List ℕ) (at end : ℕ) → length t ≤ most64 → slice at end s ≡ prefixed_bytes t ++ rest
    → (prefixed_at s at end ≡ Ok (at + length (shortest (length t)), at + length (prefixed_bytes t)))
    × (slice (at + length (shortest (length t))) (at + length (prefixed_bytes t)) s ≡ t)
unfolding prefixed_bytes
prefixed_written s t rest at end small same =
    let start : ℕ = at + length (shortest (length t)) in
    let w = after_written s t rest at end (length t) small same in
    let e : at + length (shortest (length t) ++ t) ≡ start + length t = omega (arith, length-append (shortest (length t)) t) in
    rw e ((prefixed_checks s at end).put (length t) start w.0 w.1, w.2)

-- ---- hash lists

pub record HashesInside (s : List ℕ) (at end : ℕ) (hashes : Run) (next : ℕ) : Type 0 where
  pub small : hashes.count ≤ sizes.hashes
  pub after : at < hashes.start
  pub whole : next ≡ hashes.start + sizes.hash * hashes.count
  pub up_to : next ≤ end
  pub there : next ≤ length s

module _ (s : List ℕ) (at end : ℕ) (hashes : Run) (next : ℕ) where
  hash_list_count : hash_list_at s at end ≡ Ok (hashes, next)
      → (count_at sizes.hashes s at end ≡ Ok (hashes.count, hashes.start))
      × (hashes.count ≤ left_at s hashes.start end / sizes.hash)
      × (next ≡ hashes.start + sizes.hash * hashes.count)
  hash_list_count e =
      let p = (hash_list_checks s at end).apart (Ok (hashes, next)) (λ r d. let z : ◌≡◌ {A = ℕ} 0 1 = cc in omega arith) e in
      let both = read_same p.4 in
      let same : run p.1 p.0 ≡ hashes = both.0 in
      let first : p.0 ≡ hashes.count = ap (λ (r : Run). r.count) same in
      let second : p.1 ≡ hashes.start = ap (λ (r : Run). r.start) same in
      let third : p.1 + sizes.hash * p.0 ≡ next = both.1 in
      (rw (first, second) at p.2, rw (first, second) at p.3, omega arith)

  pub hash_list_inside : hash_list_at s at end ≡ Ok (hashes, next) → HashesInside s at end hashes next
  hash_list_inside e =
      let p = hash_list_count e in
      omega (arith, count_inside sizes.hashes s at end hashes.count hashes.start p.0, left_is s hashes.start end)

  pub written_hash_list : Bytes s → hash_list_at s at end ≡ Ok (hashes, next)
      → slice at next s ≡ hash_list_bytes (hashes_at s hashes.start hashes.count)
  unfolding hash_list_bytes
  written_hash_list all e =
      let start : ℕ = hashes.start in
      let count : ℕ = hashes.count in
      let inside = hash_list_inside e in
      let number = (count_number sizes.hashes s at end count start (hash_list_count e).0).0 in
      let bytes = rw (← inside.whole) at (hashes_at_bytes s start count all (omega arith)) in
      rw (length_hashes_at s start count, bytes) (after_read s at end count start next all number (omega arith))

pub hash_list_written : (s hs rest : List ℕ) (at end : ℕ) → AreHashes hs → length hs ≤ sizes.hashes → slice at end s ≡ hash_list_bytes hs ++ rest
    → (hash_list_at s at end ≡ Ok (run (at + length (shortest (length hs))) (length hs), at + length (hash_list_bytes hs)))
    × (hashes_at s (at + length (shortest (length hs))) (length hs) ≡ hs)
unfolding hash_list_bytes
hash_list_written s hs rest at end are small same =
    let n : ℕ = length hs in
    let start : ℕ = at + length (shortest n) in
    let long = length_hashes_bytes hs in
    let w = after_written s (hashes_bytes hs) rest at end n (omega arith) same in
    let e : at + length (shortest n ++ hashes_bytes hs) ≡ start + sizes.hash * n = omega (arith, length-append (shortest n) (hashes_bytes hs)) in
    let count = (count_checks sizes.hashes s at end).put n start w.0 small in
    (rw e ((hash_list_checks s at end).put n start count (omega (arith, w.1))), hashes_there_and_back s start hs are (rw long at w.2))
