-- How long the parts of a message are, and that no sum of their lengths is large.
use Prim.Native.Nat.{ℕ, zero, suc, ◌+◌, ◌-◌, ◌*◌, ◌≤◌, ◌<◌, ◌^◌}
use mathlib.Core.Bool.{true}
use mathlib.Core.List.{List, [], ◌∷◌, ◌++◌}
use mathlib.Core.Path.{◌≡◌, refl, ap}
use native.Mathlib.Nat.{add-sub_cancel_left}
use native.Mathlib.Numerals.{add-one}
use native.Mathlib.Omega.{arith}
use borrow.Author.Tests.{leb-true, eqb-true, eqb-false}
use lib.Dec.{leb, eqb}
use lib.ListN.{length, get_or, take, drop, length-append}
use lib.Seq.{slice, length-slice, drop-cons}
use Rattle.rules.specs.Hash.{Bytes, hashes_at}
use Rattle.rules.specs.Sizes.{sizes}
use Rattle.rules.proofs.Cases.{split, both}
use Rattle.rules.proofs.Hash.{take_drop, hashes_at_bytes, length_hashes_at, length_hashes_bytes}
use Rattle.wire.specs.Item.{prefixed_bytes, hash_list_bytes}
use Rattle.leb128.specs.Number.{shortest, most_filter}
use Rattle.leb128.proofs.Number.{shortest_ten}
use Rattle.bloom.specs.Filter.{filter_bytes, filter_of4, filter_rules}
use Rattle.bloom.specs.Have.{have_count, have_in, haves_from, haves_of, sync_place, sync_count, numbers_in, filter_good, filter_with, GoodHaves}
use Rattle.bloom.specs.declared.have.FilterNumbers.{FilterNumbers}
use Rattle.bloom.proofs.Filters.{no_bytes, bytes_length}
use Rattle.bloom.proofs.HaveLaws.{passed_haves}
use Rattle.bloom.proofs.Rules.{ruled, capacity_none}
use Rattle.message.specs.Message.{joined, counted, total, have_bytes}
use Rattle.message.specs.Write.{chunks_from}

-- ---- how long the parts can be, where a number has at most ten bytes

abbrev pub most_list_lem : ℕ
most_list_lem = 10 + sizes.hash * sizes.hashes

abbrev pub most_filter_lem : ℕ
most_filter_lem = 30 + sizes.field

abbrev pub most_have_lem : ℕ
most_have_lem = most_list_lem + (10 + most_filter_lem)

abbrev pub most_haves : ℕ
most_haves = 10 + most_have_lem * sizes.haves

-- the bytes of chunks' lengths
unfoldable pub numbers_total : List ℕ → ℕ
numbers_total [] = 0
numbers_total (n ∷ ns) = length (shortest n) + numbers_total ns

-- ---- parts of a slice

pub part_is : (s : List ℕ) (a k : ℕ) → take (a + k - a) (drop a s) ≡ slice a (a + k) s
part_is s a k = rw add-sub_cancel_left (take_drop k a s)

pub part_long : (s : List ℕ) (a k : ℕ) → a + k ≤ length s → length (slice a (a + k) s) ≡ k
part_long s a k h = rw (length-slice a (a + k) s h) (omega arith)

-- ---- hash lists and prefixed strings

pub hash_list_is : (s : List ℕ) (place count : ℕ) → Bytes s → place + sizes.hash * count ≤ length s
    → hash_list_bytes (hashes_at s place count) ≡ shortest count ++ slice place (place + sizes.hash * count) s
unfolding hash_list_bytes
hash_list_is s place count all h = rw (length_hashes_at s place count, hashes_at_bytes s place count all h)

pub hash_list_long : (s : List ℕ) (place count : ℕ) → length (hash_list_bytes (hashes_at s place count)) ≡ length (shortest count) + sizes.hash * count
unfolding hash_list_bytes
hash_list_long s place count =
    rw (length-append, length_hashes_bytes, length_hashes_at s place count)

pub prefixed_long : (b : List ℕ) → length (prefixed_bytes b) ≡ length (shortest (length b)) + length b
unfolding prefixed_bytes
prefixed_long b = rw length-append

pub prefixed_sum : (x size : ℕ) (b : List ℕ) → size ≡ length b → x ≡ length (shortest size) → x + size ≡ length (prefixed_bytes b)
prefixed_sum x size b e d = omega (arith, prefixed_long b, d, ap (λ (k : ℕ). length (shortest k)) e)

-- there is room for both parts
pub prefixed_room : (at size room : ℕ) (b : List ℕ) → size ≡ length b → at + length (prefixed_bytes b) ≤ room → at + length (shortest size) + length b ≤ room
prefixed_room at size room b e h = omega (arith, prefixed_long b, ap (λ (k : ℕ). length (shortest k)) e)

-- ten bytes hold a count
pub ten : (n : ℕ) → n ≤ most_filter → length (shortest n) ≤ 10
ten n h = shortest_ten n (omega arith)

-- where the number of a list of hashes ends, its hashes have room
pub hash_list_room : (s : List ℕ) (place count at next room : ℕ) → place + sizes.hash * count ≤ length s
    → at + length (hash_list_bytes (hashes_at s place count)) ≤ room
    → next ≡ at + length (shortest count)
    → next + length (take (place + sizes.hash * count - place) (drop place s)) ≤ room
hash_list_room s place count at next room fits h e =
    rw (part_is s place (sizes.hash * count), part_long s place (sizes.hash * count) fits) (omega (arith, hash_list_long s place count))

pub list_small : (h x : ℕ) → h ≤ sizes.hashes → x ≡ length (shortest h) + sizes.hash * h → x ≤ most_list_lem
list_small h x few e = omega (arith, ten h (omega (arith, few)))

-- ---- filters and haves

pub filter_small : (n b p : ℕ) (field : List ℕ) → n < 2 ^ 64 → b < 2 ^ 64 → p < 2 ^ 64 → length field ≤ sizes.field
    → length (filter_bytes (filter_of4 n b p field)) ≤ most_filter_lem
filter_small n b p field fn fb fp h =
    split (eqb n 0)
    (λ t. rw (no_bytes n b p field (eqb-true _ _ t)) (omega arith))
    (λ t. omega (arith, bytes_length n b p field (eqb-false _ _ t), shortest_ten n fn, shortest_ten b fb, shortest_ten p fp))

-- a have by the numbers of its record
pub have_is : (s haves : List ℕ) (i : ℕ) (f : FilterNumbers) → f ≡ numbers_in haves i
    → have_bytes (have_in s haves i)
    ≡ hash_list_bytes (hashes_at s (sync_place haves i) (sync_count haves i))
    ++ prefixed_bytes (filter_bytes (filter_of4 f.entries f.bits f.probes (take (f.place + f.size - f.place) (drop f.place s))))
unfolding have_bytes have_in filter_with
have_is s haves i f e = rw (e, part_is)

-- what stands behind a good have
pub record BehindHave (s haves : List ℕ) (i : ℕ) (f : FilterNumbers) : Type 0 where
  pub sync : sync_place haves i + sizes.hash * sync_count haves i ≤ length s
  pub few : sync_count haves i ≤ sizes.hashes
  pub rules : filter_rules f.entries f.bits f.probes f.size ≡ true
  pub field : f.place + f.size ≤ length s
  pub small : f.size ≤ sizes.field
  pub entries : f.entries ≤ most_filter
  pub bits : f.bits ≤ most_filter
  pub probes : f.probes ≤ most_filter

have_fits_in : (s haves : List ℕ) (i : ℕ) → GoodHaves s haves → i < have_count haves → BehindHave s haves i (numbers_in haves i)
unfolding filter_good
have_fits_in s haves i g h =
    let f = numbers_in haves i in
    let a = passed_haves s haves g.good g.few in
    let p = a.each i h in
    let q = both (filter_rules f.entries f.bits f.probes f.size) (leb (f.place + f.size) (length s)) p.filter in
    let r = ruled f.entries f.bits f.probes f.size q.0 in
    record {
      sync = p.there;
      few = a.syncs i h;
      rules = q.0;
      field = leb-true _ _ q.1;
      small =
          split (eqb f.entries 0)
          (λ t.
          let e : f.entries ≡ 0 = eqb-true _ _ t in
          let n : f.size ≡ 0 = rw (e, capacity_none) at r.size in
          omega arith)
          (λ t.
          let e : f.entries ≡ 0 → ⊥ = eqb-false _ _ t in
          (r.full (omega arith)).small);
      entries = r.entries;
      bits = r.bits;
      probes = r.probes;
    }

pub have_fits : (s haves : List ℕ) (i : ℕ) (f : FilterNumbers) → f ≡ numbers_in haves i → GoodHaves s haves → i < have_count haves → BehindHave s haves i f
have_fits s haves i f e g h = rw e (have_fits_in s haves i g h)

pub have_long_lem : (s haves : List ℕ) (i x y : ℕ) (f : FilterNumbers) → f ≡ numbers_in haves i
    → x ≡ length (shortest (sync_count haves i)) + sizes.hash * sync_count haves i
    → y ≡ length (prefixed_bytes (filter_bytes (filter_of4 f.entries f.bits f.probes (take (f.place + f.size - f.place) (drop f.place s)))))
    → x + y ≡ length (have_bytes (have_in s haves i))
have_long_lem s haves i x y f e p q =
    rw (have_is s haves i f e, length-append) (omega (arith, p, q, hash_list_long s (sync_place haves i) (sync_count haves i)))

pub have_room_lem : (s haves : List ℕ) (i : ℕ) (f : FilterNumbers) → f ≡ numbers_in haves i → (at room : ℕ)
    → at + length (have_bytes (have_in s haves i)) ≤ room
    → at + length (hash_list_bytes (hashes_at s (sync_place haves i) (sync_count haves i)))
    + length (prefixed_bytes (filter_bytes (filter_of4 f.entries f.bits f.probes (take (f.place + f.size - f.place) (drop f.place s)))))
    ≤ room
have_room_lem s haves i f e at room h =
    let a : List ℕ = hash_list_bytes (hashes_at s (sync_place haves i) (sync_count haves i)) in
    let b : List ℕ = prefixed_bytes (filter_bytes (filter_of4 f.entries f.bits f.probes (take (f.place + f.size - f.place) (drop f.place s)))) in
    omega (arith, ap length (have_is s haves i f e), length-append a b)

-- a hash list and a filter with their numbers
pub have_small : (s haves : List ℕ) (i : ℕ) → GoodHaves s haves → i < have_count haves → length (have_bytes (have_in s haves i)) ≤ most_have_lem
have_small s haves i g h =
    let f = numbers_in haves i in
    let w = have_fits_in s haves i g h in
    let field : List ℕ = take (f.place + f.size - f.place) (drop f.place s) in
    let l : length field ≡ f.size = rw part_is (part_long s f.place f.size w.field) in
    let filter : List ℕ = filter_bytes (filter_of4 f.entries f.bits f.probes field) in
    let small : length filter ≤ most_filter_lem =
    filter_small f.entries f.bits f.probes field (omega (arith, w.entries)) (omega (arith, w.bits)) (omega (arith, w.probes)) (omega (arith, w.small))
    in
    rw (have_is s haves i f refl, length-append)
    (omega (
      arith,
      hash_list_long s (sync_place haves i) (sync_count haves i),
      prefixed_long filter,
      small,
      w.few,
      ten (sync_count haves i) (omega (arith, w.few)),
      ten (length filter) (omega (arith, small)),
    ))

-- ---- lists with their count

pub counted_is : {A : Type 0} (bytes : A → List ℕ) (xs : List A) (n : ℕ) → length xs ≡ n → counted bytes xs ≡ shortest n ++ joined bytes xs
unfolding counted
counted_is bytes xs n e = rw e

module _ (s haves : List ℕ) where
  pub haves_long : (count i : ℕ) → length (haves_from s haves i count) ≡ count
  unfolding haves_from
  haves_long zero i = refl
  haves_long (suc count) i = ap suc (haves_long count (suc i))

  pub haves_next : (total i : ℕ) → i < total
      → joined have_bytes (haves_from s haves i (total - i)) ≡ have_bytes (have_in s haves i) ++ joined have_bytes (haves_from s haves (i + 1) (total - (i + 1)))
  unfolding joined haves_from
  haves_next total i h =
      let d : total - i ≡ suc (total - (i + 1)) = omega arith in
      rw (d, add-one)

  pub haves_end : (total i : ℕ) → total ≤ i → joined have_bytes (haves_from s haves i (total - i)) ≡ []
  unfolding joined haves_from
  haves_end total i h =
      let d : total - i ≡ 0 = omega arith in
      rw d

  -- the bytes of the haves from record i on
  pub haves_size : ℕ → ℕ → ℕ
  haves_size total i = length (joined have_bytes (haves_from s haves i (total - i)))

  pub haves_sum : (total i : ℕ) → i < total → haves_size total i ≡ length (have_bytes (have_in s haves i)) + haves_size total (i + 1)
  unfolding haves_size
  haves_sum total i h = rw (haves_next total i h, length-append)

  pub haves_done : (total i : ℕ) → total ≤ i → haves_size total i ≡ 0
  unfolding haves_size
  haves_done total i h = rw (haves_end total i h)

  pub haves_again : (total i size x whole : ℕ) → i < total → x ≡ length (have_bytes (have_in s haves i)) → size + haves_size total i ≡ whole
      → size + x + haves_size total (i + 1) ≡ whole
  haves_again total i size x whole h e r = omega (arith, haves_sum total i h)

  pub haves_all : (total i size whole : ℕ) → total ≤ i → size + haves_size total i ≡ whole → size ≡ whole
  haves_all total i size whole h r = omega (arith, haves_done total i h)

  pub haves_counted_long : (total : ℕ) → total ≡ have_count haves
      → length (shortest total) + haves_size total 0 ≡ length (counted have_bytes (haves_of s haves))
  unfolding haves_size haves_of
  haves_counted_long total e =
      let d : total - 0 ≡ have_count haves = omega arith in
      rw (d, e, counted_is have_bytes (haves_from s haves 0 (have_count haves)) (have_count haves) (haves_long (have_count haves) 0), length-append)

  haves_small_from : GoodHaves s haves → (count i : ℕ) → i + count ≤ have_count haves → length (joined have_bytes (haves_from s haves i count)) ≤ most_have_lem * count
  unfolding joined haves_from
  haves_small_from g zero i h = omega arith
  haves_small_from g (suc count) i h =
      rw length-append (omega (arith, have_small s haves i g (omega arith), haves_small_from g count (suc i) (omega arith)))

  pub haves_few : GoodHaves s haves → have_count haves ≤ sizes.haves
  haves_few g = (passed_haves s haves g.good g.few).few

  pub haves_small : GoodHaves s haves → length (counted have_bytes (haves_of s haves)) ≤ most_haves
  unfolding haves_of
  haves_small g =
      let n : ℕ = have_count haves in
      let few : n ≤ sizes.haves = haves_few g in
      rw (counted_is have_bytes (haves_from s haves 0 n) n (haves_long n 0), length-append)
      (omega (arith, few, haves_small_from g n 0 (omega arith), ten n (omega arith)))

-- ---- chunks

module _ (s : List ℕ) where
  pub chunks_long : (ns : List ℕ) (at : ℕ) → length (chunks_from s at ns) ≡ length ns
  unfolding chunks_from
  chunks_long [] at = refl
  chunks_long (n ∷ ns) at = ap suc (chunks_long ns (at + n))

  pub chunks_bytes_lem : (ns : List ℕ) (at : ℕ) → at + total ns ≤ length s
      → length (joined prefixed_bytes (chunks_from s at ns)) ≡ numbers_total ns + total ns
  unfolding chunks_from joined total numbers_total
  chunks_bytes_lem [] at h = refl
  chunks_bytes_lem (n ∷ ns) at h =
      let l : length (slice at (at + n) s) ≡ n = part_long s at n (omega arith) in
      rw (length-append, prefixed_long, l) (omega (arith, chunks_bytes_lem ns (at + n) (omega arith)))

-- how many bytes chunks still have from the i-th on, and their lengths as numbers
module _ (lengths : List ℕ) (i : ℕ) (h : i < length lengths) where
  pub total_next : total (drop i lengths) ≡ get_or lengths i 0 + total (drop (i + 1) lengths)
  unfolding total
  total_next = rw (drop-cons lengths i 0 h, add-one)

  pub numbers_next : numbers_total (drop i lengths) ≡ length (shortest (get_or lengths i 0)) + numbers_total (drop (i + 1) lengths)
  unfolding numbers_total
  numbers_next = rw (drop-cons lengths i 0 h, add-one)
