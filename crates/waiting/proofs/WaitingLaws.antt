-- Waiting rows by their numbers; how a waiting table is checked; and what is accepted as one decodes to.
use Prim.Native.Nat.{ℕ, zero, suc, ◌+◌, ◌-◌, ◌*◌, ◌/◌, ◌%◌, ◌^◌, ◌≤◌, ◌<◌}
use mathlib.Core.Bool.{Bool, true, false, not, ◌&&◌}
use mathlib.Core.List.{List, [], ◌∷◌}
use mathlib.Core.Path.{◌≡◌, refl, sym, ◌∙◌, ap, ap₂}
use native.Mathlib.Nat.{add-zero, zero-add, one-le-pow, le-mul_of_pos_right, not-suc-le-zero}
use native.Mathlib.Numerals.{add-one}
use native.Mathlib.Omega.{arith}
use borrow.Author.Tests.{ltb-true, ltb-false, leb-true, eqb-true, eqb-false, not-true, le-leb, lt-leb, eq-eqb, ne_eqb}
use lib.Dec.{ltb, leb, eqb}
use lib.ListN.{length, get_or, length-map}
use lib.Seq.{slice, slice_empty, slice-cons}
use Rattle.hash_order.proofs.KeepLaws.{index_once}
use Rattle.hash_order.specs.Order.{member, Once}
use Rattle.rules.proofs.Cases.{split, both}
use Rattle.rules.proofs.ZeroLaws.{zeros_parts}
use Rattle.rules.proofs.Hash.{length_hashes_at, hash_is_hash, hashes_are_hashes}
use Rattle.rules.specs.Hash.{Bytes, AreHashes, big_endian, hash_at, hashes_at}
use Rattle.rules.specs.Sizes.{sizes}
use Rattle.rules.specs.Zeros.{bytes_at, zeros}
use Rattle.rules.specs.declared.refusal.Refusal.TheVariants.{BadWaitingRow}
use Rattle.table.proofs.CheckLaws.{fewer, accepted, good_is_accepted}
use Rattle.table.proofs.TableLaws.{length_rows, index_tells, index_of_entry, member_is, index_of_member, entry_at_index}
use Rattle.table.specs.TableBytes.{records_checked, checked_with, first_bad}
use Rattle.table.specs.Table.{Row, rows, index_in, held}
use Rattle.waiting.specs.WaitingBytes.{waiting_size_of, asks_count_of, asks_place_of, waiting_row_of, waiting_rows_of, whole_waiting_of, fill_of, unasked_of, waiting_good_of, waiting_checked_of, waiting_size, asks_count, waitings_at, waiting_of, waiting_checked}
use Rattle.waiting.specs.Waiting.{Waiting, no_waiting, waiting, asks_of}
use Rattle.waiting.proofs.Today.{asks_place, waiting_good}
use Rattle.std.specs.Prelude.{Ok, Err}

-- ---- waiting rows by their numbers

pub length_waiting : (w : List Waiting) → length (waiting w) ≡ length w
unfolding waiting
length_waiting w = length-map w _

-- rows with room for d dependencies
module _ (d : ℕ) (s : List ℕ) where
  pub length_waiting_of : (i n : ℕ) → length (waiting_rows_of d s i n) ≡ n
  unfolding waiting_rows_of
  length_waiting_of i zero = refl
  length_waiting_of i (suc n) = ap suc (length_waiting_of (suc i) n)

  pub waiting_of_index : (i n k : ℕ) → k < n → get_or (waiting_rows_of d s i n) k no_waiting ≡ waiting_row_of d s (i + k)
  unfolding waiting_rows_of
  waiting_of_index i zero k b = absurd (not-suc-le-zero b)
  waiting_of_index i (suc n) zero b = rw add-zero
  waiting_of_index i (suc n) (suc k) b =
      let e : i + suc k ≡ suc i + k = omega arith in
      rw e (waiting_of_index (suc i) n k (omega arith))

  pub waiting_asks_of : (n i : ℕ) → i < n → asks_of (waiting_rows_of d s 0 n) i ≡ hashes_at s (asks_place_of d i) (asks_count_of d s i)
  unfolding asks_of waiting_row_of
  waiting_asks_of n i b = ap (λ (r : Waiting). r.asks) (waiting_of_index 0 n i b) ∙ rw zero-add

  waiting_hashes_index : (i n k : ℕ) → k < n → get_or (waiting (waiting_rows_of d s i n)) k 0 ≡ hash_at s ((i + k) * waiting_size_of d)
  unfolding waiting waiting_rows_of waiting_row_of
  waiting_hashes_index i zero k b = absurd (not-suc-le-zero b)
  waiting_hashes_index i (suc n) zero b = rw add-zero
  waiting_hashes_index i (suc n) (suc k) b =
      let e : i + suc k ≡ suc i + k = omega arith in
      rw e (waiting_hashes_index (suc i) n k (omega arith))

  pub waiting_hash_of : (n i : ℕ) → i < n → get_or (waiting (waiting_rows_of d s 0 n)) i 0 ≡ hash_at s (i * waiting_size_of d)
  waiting_hash_of n i b = waiting_hashes_index 0 n i b ∙ rw zero-add

  -- what rows ask for are hashes, if the bytes are bytes, and so are the hashes that wait
  pub asks_hashes_of : Bytes s → (n i : ℕ) → i < n → AreHashes (asks_of (waiting_rows_of d s 0 n) i)
  asks_hashes_of b n i h = rw (waiting_asks_of n i h) (hashes_are_hashes s (asks_place_of d i) (asks_count_of d s i) b)

  pub waiting_hashes_of : Bytes s → (i n : ℕ) → AreHashes (waiting (waiting_rows_of d s i n))
  unfolding AreHashes waiting waiting_rows_of waiting_row_of
  waiting_hashes_of b i zero = tt
  waiting_hashes_of b i (suc n) = (hash_is_hash s (i * waiting_size_of d) b, waiting_hashes_of b (suc i) n)

-- today's rows
module _ (s : List ℕ) where
  pub length_waitings_at : (i n : ℕ) → length (waitings_at s i n) ≡ n
  length_waitings_at = length_waiting_of sizes.dependencies s

  pub asks_of_waiting : (n i : ℕ) → i < n → asks_of (waitings_at s 0 n) i ≡ hashes_at s (asks_place i) (asks_count s i)
  asks_of_waiting = waiting_asks_of sizes.dependencies s

  pub hash_of_waiting : (n i : ℕ) → i < n → get_or (waiting (waitings_at s 0 n)) i 0 ≡ hash_at s (i * waiting_size)
  hash_of_waiting = waiting_hash_of sizes.dependencies s

  -- the same of all whole rows
  pub asks_hashes : Bytes s → (i : ℕ) → i < length (waiting_of s) → AreHashes (asks_of (waiting_of s) i)
  unfolding whole_waiting_of
  asks_hashes b i h = asks_hashes_of sizes.dependencies s b (length s / waiting_size) i (rw length_waiting_of at h)

  pub waiting_hashes : Bytes s → AreHashes (waiting (waiting_of s))
  unfolding whole_waiting_of
  waiting_hashes b = waiting_hashes_of sizes.dependencies s b 0 (length s / waiting_size)

-- ---- zeros

-- a number is 0 if its digits are
digits_zero : (b c r : ℕ) → 1 ≤ c → eqb (b * c + r) 0 ≡ (eqb b 0 && eqb r 0)
digits_zero b c r h =
    split (eqb b 0)
    (λ e.
    let z : b ≡ 0 = eqb-true b 0 e in
    let s : b * c + r ≡ r = rw z (omega arith) in
    rw (e, s))
    (λ e.
    let z : b ≡ 0 → ⊥ = eqb-false b 0 e in
    let l : b ≤ b * c = le-mul_of_pos_right b h in
    rw (e, ne_eqb (b * c + r) 0 (λ q. omega arith)))

big_endian_zero : (l : List ℕ) → eqb (big_endian l) 0 ≡ zeros l
unfolding big_endian zeros
big_endian_zero [] = refl
big_endian_zero (b ∷ bs) =
    digits_zero b (256 ^ length bs) (big_endian bs) (one-le-pow (length bs) 256 (omega arith)) ∙ ap (λ (x : Bool). eqb b 0 && x) (big_endian_zero bs)

bytes_at_slice : (s : List ℕ) (at k : ℕ) → at + k ≤ length s → bytes_at s at k ≡ slice at (at + k) s
unfolding bytes_at
bytes_at_slice s at zero h = rw (add-zero, slice_empty)
bytes_at_slice s at (suc k) h =
    let e : at + 1 + k ≡ at + suc k = omega arith in
    let next : slice (at + 1) (at + 1 + k) s ≡ slice (suc at) (at + suc k) s = ap₂ (λ (a : ℕ) (z : ℕ). slice a z s) (add-one at) e in
    ap (λ (l : List ℕ). get_or s at 0 ∷ l) (bytes_at_slice s (at + 1) k (omega arith) ∙ next) ∙ sym (slice-cons at (at + suc k) s 0 (omega arith) h)

-- a hash is 0 if its bytes are, and so are hashes
zero_hash : (s : List ℕ) (at : ℕ) → at + sizes.hash ≤ length s → eqb (hash_at s at) 0 ≡ zeros (bytes_at s at sizes.hash)
unfolding hash_at
zero_hash s at h = big_endian_zero (slice at (at + sizes.hash) s) ∙ sym (ap zeros (bytes_at_slice s at sizes.hash h))

pub zero_hashes : (s : List ℕ) (at count : ℕ) → at + sizes.hash * count ≤ length s → zeros (hashes_at s at count) ≡ zeros (bytes_at s at (sizes.hash * count))
unfolding zeros hashes_at bytes_at
zero_hashes s at zero h = refl
zero_hashes s at (suc count) h =
    let e : sizes.hash * suc count ≡ sizes.hash + sizes.hash * count = omega arith in
    rw (e, zeros_parts s at sizes.hash (sizes.hash * count), ← zero_hashes s (at + sizes.hash) count (omega arith))
    (ap (λ (x : Bool). x && zeros (hashes_at s (at + sizes.hash) count)) (zero_hash s at (omega arith)))

-- ---- a waiting row's tests

module _ (t : List Row) (s : List ℕ) (i count : ℕ) (is : count ≡ asks_count s i) where
  pub waiting_many : sizes.dependencies < count → waiting_good t s i ≡ false
  unfolding waiting_good_of
  waiting_many h = rw (← is, lt-leb count sizes.dependencies h)

  module _ (few : count ≤ sizes.dependencies) where
    pub waiting_fill : zeros (bytes_at s (i * waiting_size + sizes.hash + 1) (sizes.hash - 1)) ≡ false → waiting_good t s i ≡ false
    unfolding waiting_good_of fill_of
    waiting_fill e = rw (← is, le-leb count sizes.dependencies few, e)

    module _ (fill : zeros (bytes_at s (i * waiting_size + sizes.hash + 1) (sizes.hash - 1)) ≡ true) (inside : (i + 1) * waiting_size ≤ length s) where
      unasked_bytes : zeros (unasked_of sizes.dependencies s i) ≡ zeros (bytes_at s (asks_place i + sizes.hash * count) (sizes.hash * (sizes.dependencies - count)))
      unfolding unasked_of
      unasked_bytes = rw (← is) (zero_hashes s (asks_place i + sizes.hash * count) (sizes.dependencies - count) (omega arith))

      pub waiting_unasked : zeros (bytes_at s (asks_place i + sizes.hash * count) (sizes.hash * (sizes.dependencies - count))) ≡ false
          → waiting_good t s i ≡ false
      unfolding waiting_good_of fill_of
      waiting_unasked e = rw (← is, le-leb count sizes.dependencies few, fill, unasked_bytes, e)

      module _ (unasked : zeros (bytes_at s (asks_place i + sizes.hash * count) (sizes.hash * (sizes.dependencies - count))) ≡ true) (r : ℕ) (found : r ≡ index_in (waiting (waitings_at s 0 i)) (hash_at s (i * waiting_size))) where
        found_tells : not (member (hash_at s (i * waiting_size)) (waiting (waitings_at s 0 i))) ≡ eqb r i
        found_tells =
            let n : length (waiting (waitings_at s 0 i)) ≡ i = length_waiting (waitings_at s 0 i) ∙ length_waitings_at s 0 i in
            rw (index_tells, ← found, n)

        pub waiting_twice : (r ≡ i → ⊥) → waiting_good t s i ≡ false
        unfolding waiting_good_of fill_of
        waiting_twice h = rw (← is, le-leb count sizes.dependencies few, fill, unasked_bytes, unasked, found_tells, ne_eqb r i h)

        pub waiting_held : r ≡ i → (n q : ℕ) → length t ≡ n → q ≡ index_in (rows t) (hash_at s (i * waiting_size)) → waiting_good t s i ≡ eqb q n
        unfolding waiting_good_of fill_of held
        waiting_held h n q long e =
            let l : length (rows t) ≡ n = length_rows t ∙ long in
            rw (← is, le-leb count sizes.dependencies few, fill, unasked_bytes, unasked, found_tells, eq-eqb r i h, index_tells, ← e, l)

-- ---- good waiting rows

-- what a good waiting row has
pub record RowWaitsOf (d : ℕ) (t : List Row) (s : List ℕ) (i : ℕ) : Type 0 where
  pub count : asks_count_of d s i ≤ d
  pub fill : zeros (fill_of d s i) ≡ true
  pub unasked : zeros (unasked_of d s i) ≡ true
  pub new : member (hash_at s (i * waiting_size_of d)) (waiting (waiting_rows_of d s 0 i)) ≡ false
  pub unheld : held t (hash_at s (i * waiting_size_of d)) ≡ false

pub row_waits_of : (d : ℕ) (t : List Row) (s : List ℕ) (i : ℕ) → waiting_good_of d t s i ≡ true → RowWaitsOf d t s i
unfolding waiting_good_of
row_waits_of d t s i g =
    let count : Bool = leb (asks_count_of d s i) d in
    let fill : Bool = zeros (fill_of d s i) in
    let unasked : Bool = zeros (unasked_of d s i) in
    let new : Bool = not (member (hash_at s (i * waiting_size_of d)) (waiting (waiting_rows_of d s 0 i))) in
    let p = both (count && fill && unasked && new) (not (held t (hash_at s (i * waiting_size_of d)))) g in
    let q = both (count && fill && unasked) new p.0 in
    let r = both (count && fill) unasked q.0 in
    let z = both count fill r.0 in
    record { count = leb-true _ _ z.0; fill = z.1; unasked = r.1; new = not-true _ q.1; unheld = not-true _ p.1 }

-- what a list of waiting rows has beside a table: no row asks for more than d, no hash waits twice, and none that waits is held
pub record GoodWaitingOf (d : ℕ) (t : List Row) (w : List Waiting) : Type 0 where
  pub asks : (i : ℕ) → i < length w → length (asks_of w i) ≤ d
  pub once : Once (waiting w)
  pub unheld : (h : ℕ) → member h (waiting w) ≡ true → held t h ≡ false

module _ (d : ℕ) (t : List Row) (s : List ℕ) (n : ℕ) (each : (i : ℕ) → i < n → waiting_good_of d t s i ≡ true) where
  earlier_waits : (i j : ℕ) → i < j → j < n → hash_at s (i * waiting_size_of d) ≡ hash_at s (j * waiting_size_of d) → ⊥
  earlier_waits i j l b e =
      let h : ℕ = hash_at s (j * waiting_size_of d) in
      let before : List ℕ = waiting (waiting_rows_of d s 0 j) in
      let long : length before ≡ j = length_waiting (waiting_rows_of d s 0 j) ∙ length_waiting_of d s 0 j in
      let there : member h before ≡ true = member_is before h i (omega arith) (waiting_hash_of d s j i l ∙ e) in
      let new : member h before ≡ false = (row_waits_of d t s j (each j b)).new in
      let z : ◌≡◌ {A = ℕ} 0 1 = cc in
      omega arith

  -- rows that are each good make a good waiting list
  pub good_waiting_of : GoodWaitingOf d t (waiting_rows_of d s 0 n)
  good_waiting_of =
      let long : length (waiting_rows_of d s 0 n) ≡ n = length_waiting_of d s 0 n in
      record {
        asks =
            λ i b.
            let c : i < n = omega arith in
            rw (waiting_asks_of d s n i c, length_hashes_at) (row_waits_of d t s i (each i c)).count;
        once =
            index_once (waiting (waiting_rows_of d s 0 n))
            (λ i j bi bj e.
            let ci : i < n = rw (length_waiting, length_waiting_of) at bi in
            let cj : j < n = rw (length_waiting, length_waiting_of) at bj in
            let same : hash_at s (i * waiting_size_of d) ≡ hash_at s (j * waiting_size_of d) = sym (waiting_hash_of d s n i ci) ∙ e ∙ waiting_hash_of d s n j cj in
            split (ltb i j)
            (λ l. absurd (earlier_waits i j (ltb-true i j l) cj same))
            (λ l.
            split (ltb j i)
            (λ k. absurd (earlier_waits j i (ltb-true j i k) ci (sym same)))
            (λ k. omega (arith, ltb-false i j l, ltb-false j i k))));
        unheld =
            λ h m.
            let w : List ℕ = waiting (waiting_rows_of d s 0 n) in
            let i : ℕ = index_in w h in
            let inside : i < length w = index_of_member w h m in
            let c : i < n = rw (length_waiting, length_waiting_of) at inside in
            let there : h ≡ hash_at s (i * waiting_size_of d) = sym (entry_at_index w h inside) ∙ waiting_hash_of d s n i c in
            ap (held t) there ∙ (row_waits_of d t s i (each i c)).unheld;
      }

-- ---- accepted waiting tables

-- what is accepted as a waiting table of n rows beside a table
pub record WaitingDecodedOf (d : ℕ) (t : List Row) (s : List ℕ) (n : ℕ) : Type 0 where
  pub whole : length s ≡ n * waiting_size_of d
  pub few : n ≤ sizes.waiting_rows
  pub count : n ≡ length s / waiting_size_of d
  pub is : whole_waiting_of d s ≡ waiting_rows_of d s 0 n
  pub long : length (whole_waiting_of d s) ≡ n
  pub each : (i : ℕ) → i < n → waiting_good_of d t s i ≡ true
  pub good : GoodWaitingOf d t (whole_waiting_of d s)

pub waiting_table_of : (d : ℕ) (t : List Row) (s : List ℕ) (n : ℕ) → waiting_checked_of d t s ≡ Ok n → WaitingDecodedOf d t s n
unfolding waiting_checked_of whole_waiting_of
waiting_table_of d t s n e =
    let a = accepted (λ i. Err (BadWaitingRow i)) (waiting_good_of d t s) (waiting_size_of d) sizes.waiting_rows (length s) (λ i m q. let z : ◌≡◌ {A = ℕ} 0 1 = cc in omega arith) n e in
    let is : waiting_rows_of d s 0 (length s / waiting_size_of d) ≡ waiting_rows_of d s 0 n = ap (waiting_rows_of d s 0) (sym a.count) in
    record {
      whole = a.whole;
      few = fewer n sizes.waiting_rows (waiting_size_of d) (omega arith) (rw a.whole at a.few);
      count = a.count;
      is = is;
      long = ap length is ∙ length_waiting_of d s 0 n;
      each = a.each;
      good = rw is (good_waiting_of d t s n a.each);
    }

-- a whole waiting table that isn't too long and whose rows are good is accepted
pub waiting_accepted_of : (d : ℕ) (t : List Row) (s : List ℕ)
    → length s % waiting_size_of d ≡ 0
    → length s ≤ sizes.waiting_rows * waiting_size_of d
    → ((i : ℕ) → i < length s / waiting_size_of d → waiting_good_of d t s i ≡ true)
    → waiting_checked_of d t s ≡ Ok (length s / waiting_size_of d)
unfolding waiting_checked_of
waiting_accepted_of d t s rest few each =
    good_is_accepted (λ i. Err (BadWaitingRow i)) (waiting_good_of d t s) (waiting_size_of d) sizes.waiting_rows (length s) few rest each

-- the same of today's tables
abbrev pub RowWaits : List Row → List ℕ → ℕ → Type 0
RowWaits t s i = RowWaitsOf sizes.dependencies t s i

abbrev pub GoodWaiting : List Row → List Waiting → Type 0
GoodWaiting t w = GoodWaitingOf sizes.dependencies t w

abbrev pub WaitingDecoded : List Row → List ℕ → ℕ → Type 0
WaitingDecoded t s n = WaitingDecodedOf sizes.dependencies t s n

pub row_waits : (t : List Row) (s : List ℕ) (i : ℕ) → waiting_good t s i ≡ true → RowWaits t s i
row_waits = row_waits_of sizes.dependencies

pub waitings_good : (t : List Row) (s : List ℕ) (n : ℕ) → ((i : ℕ) → i < n → waiting_good t s i ≡ true) → GoodWaiting t (waitings_at s 0 n)
waitings_good = good_waiting_of sizes.dependencies

pub waiting_good_lem : (t : List Row) (s : List ℕ) (n : ℕ) → waiting_checked t s ≡ Ok n → WaitingDecoded t s n
waiting_good_lem = waiting_table_of sizes.dependencies

pub good_waiting_accepted : (t : List Row) (s : List ℕ)
    → length s % waiting_size ≡ 0
    → length s ≤ sizes.waiting_rows * waiting_size
    → ((i : ℕ) → i < length s / waiting_size → waiting_good t s i ≡ true)
    → waiting_checked t s ≡ Ok (length s / waiting_size)
good_waiting_accepted = waiting_accepted_of sizes.dependencies

pub index_of_waiting : (t : List Row) (w : List Waiting) → GoodWaiting t w → (i : ℕ) → i < length w → index_in (waiting w) (get_or (waiting w) i 0) ≡ i
index_of_waiting t w g i b =
    index_of_entry (waiting w) g.once i (rw length_waiting b)

-- the bytes of an accepted waiting table and its rows
module _ (t : List Row) (s : List ℕ) (n : ℕ) (d : WaitingDecoded t s n) where
  pub decoded_asks : (i : ℕ) → i < n → asks_of (waiting_of s) i ≡ hashes_at s (asks_place i) (asks_count s i)
  decoded_asks i b = rw d.is (asks_of_waiting s n i b)

  pub decoded_waiting : (i : ℕ) → i < n → get_or (waiting (waiting_of s)) i 0 ≡ hash_at s (i * waiting_size)
  decoded_waiting i b = rw d.is (hash_of_waiting s n i b)

  pub decoded_asks_count : (i : ℕ) → i < n → asks_count s i ≤ sizes.dependencies
  decoded_asks_count i b = (row_waits t s i (d.each i b)).count

-- a table of no bytes is good
pub none_waits : (t : List Row) (w : List ℕ) → length w ≡ 0 → Ok 0 ≡ waiting_checked t w
unfolding waiting_checked_of checked_with records_checked first_bad
none_waits t w e = rw e
