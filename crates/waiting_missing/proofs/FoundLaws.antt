-- What is missing found by numbers: the numbers of the list's hashes, then those of the hashes that the marked rows ask for, are taken in turn. A number is
-- that of a hash of the list, or of one of the waiting rows' bytes.
use Prim.Native.Nat.{ℕ, zero, suc, ◌+◌, ◌-◌, ◌*◌, ◌/◌, ◌≤◌, ◌<◌}
use mathlib.Core.Bool.{Bool, true, false, cond, not}
use mathlib.Core.List.{List, [], ◌∷◌, ◌++◌, append-nil, append_assoc}
use mathlib.Core.Path.{◌≡◌, refl, sym, ap, ◌∙◌}
use native.Mathlib.Nat.{add-zero, zero-add}
use native.Mathlib.Omega.{arith}
use lib.ListN.{length, get_or, replicate, length-replicate}
use Rattle.hash_order.proofs.OrderLaws.{member_none}
use Rattle.hash_order.specs.Order.{ascends, ascend, keep}
use Rattle.hash_refs.proofs.RefLaws.{of_list, of_further, long_found}
use Rattle.hash_refs.specs.Internal.Refs.{ref_hash, ref_end, found_by, FoundRefs, Added}
use Rattle.rules.proofs.Cases.{split, and_false}
use Rattle.rules.specs.Hash.{hashes_at}
use Rattle.rules.specs.Sizes.{sizes}
use Rattle.table_index.specs.Index.{hashes_from}
use Rattle.table.proofs.TableLaws.{length_rows, length_rows_at, index_at_most, member_of_index, unknown_of_index}
use Rattle.table.specs.TableBytes.{rows_at}
use Rattle.table.specs.Table.{Row, rows, held, index_in}
use Rattle.waiting.proofs.Today.{asks_place}
use Rattle.waiting.proofs.WaitingLaws.{length_waiting, length_waitings_at, GoodWaiting, WaitingDecoded, decoded_asks_count}
use Rattle.waiting.specs.WaitingBytes.{waiting_size, waiting_row_of, waiting_rows_of, waitings_at, waiting_of, asks_count, asks_place_of, asks_count_of, Sorted}
use Rattle.waiting.specs.Waiting.{Waiting, waiting}
use Rattle.waiting_asked.specs.Asking.{Request, Asks, Askable}
use Rattle.waiting_missing.specs.Internal.Take.{take_one, taking, UpTo, Took, RefsFound}
use Rattle.waiting_missing.specs.Missing.{unknown, asks_from, missing}
use Rattle.waiting_missing.specs.declared.missing.FoundCount.{FoundCount}
use Rattle.waiting_missing.proofs.AskedLaws.{blank, marks_missing}
use Rattle.waiting_missing.proofs.TakeLaws.{taking_append, taken_up_to, taken_own}

-- ---- taken in turn

module _ {list : List ℕ} {place entries : ℕ} {further : List ℕ} {p : ℕ → Bool} where
  pub took_none : {refs : List ℕ} {count : ℕ} → FoundRefs list place entries further refs count → Took list place entries further p [] refs count refs count
  unfolding taking
  took_none f = record { found = f; is = refl }

  pub took_then : {a b refs refs' refs'' : List ℕ} {count count' count'' : ℕ} → length refs' ≡ length refs
      → Took list place entries further p a refs count refs' count'
      → Took list place entries further p b refs' count' refs'' count''
      → Took list place entries further p (a ++ b) refs count refs'' count''
  took_then {a} {b} {refs} {refs'} {refs''} {count} long x y =
      record {
        found = y.found;
        is =
            y.is
            ∙ rw (long, x.is) refl
            ∙ sym (taking_append (length refs) p a b (found_by list place entries further refs count));
      }

  module _ {refs : List ℕ} {count : ℕ} (i : ℕ) where
    pub took_not : FoundRefs list place entries further refs count → p (ref_hash list place entries further i) ≡ false
        → Took list place entries further p (ref_hash list place entries further i ∷ []) refs count refs count
    unfolding taking take_one
    took_not f e = record { found = f; is = rw e }

    pub took_one : {refs' : List ℕ} {count' : ℕ} → p (ref_hash list place entries further i) ≡ true
        → Added list place entries further refs count refs' count' i
        → Took list place entries further p (ref_hash list place entries further i ∷ []) refs count refs' count'
    unfolding taking take_one
    took_one e x = record { found = x.found; is = rw e x.is }

-- ---- what look-ups say

module _ (table : List ℕ) (n : ℕ) (waitings : List ℕ) (m g h r : ℕ) (e : r ≡ index_in (rows (rows_at table 0 n)) g) (same : g ≡ h) where
  long_rows : length (rows (rows_at table 0 n)) ≡ n
  long_rows = length_rows (rows_at table 0 n) ∙ length_rows_at table 0 n

  long_waiting : length (waiting (waitings_at waitings 0 m)) ≡ m
  long_waiting = length_waiting (waitings_at waitings 0 m) ∙ length_waitings_at waitings 0 m

  pub held_known : r < n → unknown (rows_at table 0 n) (waitings_at waitings 0 m) h ≡ false
  unfolding unknown held
  held_known b = rw (rw same at (member_of_index (rows (rows_at table 0 n)) g (omega (arith, long_rows, e))))

  module _ (k : ℕ) (q : k ≡ index_in (waiting (waitings_at waitings 0 m)) g) where
    pub waiting_known : k < m → unknown (rows_at table 0 n) (waitings_at waitings 0 m) h ≡ false
    unfolding unknown
    waiting_known b =
        rw (rw same at (member_of_index (waiting (waitings_at waitings 0 m)) g (omega (arith, long_waiting, q)))) (and_false (not (held (rows_at table 0 n) h)))

    pub neither_unknown : n ≤ r → m ≤ k → unknown (rows_at table 0 n) (waitings_at waitings 0 m) h ≡ true
    unfolding unknown held
    neither_unknown b c =
        rw (
          rw same at (unknown_of_index (rows (rows_at table 0 n)) g (omega (arith, long_rows, e, index_at_most (rows (rows_at table 0 n)) g))),
          rw same at (unknown_of_index (waiting (waitings_at waitings 0 m)) g (omega (arith, long_waiting, q, index_at_most (waiting (waitings_at waitings 0 m)) g))),
        )

-- ---- numbers and their hashes

from_more : (f : ℕ → ℕ) (first n : ℕ) → hashes_from f first (suc n) ≡ hashes_from f first n ++ (f (first + n) ∷ [])
unfolding hashes_from
from_more f first zero = rw add-zero
from_more f first (suc n) =
    let e : first + suc n ≡ suc first + n = omega arith in
    rw (e, from_more f (suc first) n)

pub from_next : (f : ℕ → ℕ) (first i : ℕ) → first ≤ i → hashes_from f first (i + 1 - first) ≡ hashes_from f first (i - first) ++ (f i ∷ [])
from_next f first i b =
    let e : i + 1 - first ≡ suc (i - first) = omega arith in
    let s : first + (i - first) ≡ i = omega arith in
    rw e (rw s at (from_more f first (i - first)))

-- numbers taken in turn, from the first up to i
module _ {list : List ℕ} {place entries : ℕ} {further : List ℕ} {p : ℕ → Bool} {refs : List ℕ} {count : ℕ} (first i : ℕ) where
  pub took_start : FoundRefs list place entries further refs count → first ≡ i
      → Took list place entries further p (hashes_from (ref_hash list place entries further) first (i - first)) refs count refs count
  unfolding hashes_from
  took_start f e =
      let none : i - first ≡ 0 = omega arith in
      rw none (took_none f)

  pub took_next : {refs' refs'' : List ℕ} {count' count'' : ℕ} → first ≤ i → length refs' ≡ length refs
      → Took list place entries further p (hashes_from (ref_hash list place entries further) first (i - first)) refs count refs' count'
      → Took list place entries further p (ref_hash list place entries further i ∷ []) refs' count' refs'' count''
      → Took list place entries further p (hashes_from (ref_hash list place entries further) first (i + 1 - first)) refs count refs'' count''
  took_next b long x y = rw (from_next (ref_hash list place entries further) first i b) (took_then long x y)

  pub took_end : {refs' : List ℕ} {count' : ℕ} (end : ℕ) → i ≤ end → end ≤ i
      → Took list place entries further p (hashes_from (ref_hash list place entries further) first (i - first)) refs count refs' count'
      → Took list place entries further p (hashes_from (ref_hash list place entries further) first (end - first)) refs count refs' count'
  took_end end b c x =
      let same : i ≡ end = omega arith in
      rw same at x

module _ (list : List ℕ) (place entries : ℕ) (further : List ℕ) where
  list_numbers : (i count : ℕ) → i + count ≤ entries
      → hashes_from (ref_hash list place entries further) i count ≡ hashes_at list (place + sizes.hash * i) count
  unfolding hashes_from hashes_at
  list_numbers i zero b = refl
  list_numbers i (suc count) b =
      let e : place + sizes.hash * i + sizes.hash ≡ place + sizes.hash * suc i = omega arith in
      rw (of_list list place entries further i (omega arith), e, list_numbers (suc i) count (omega arith))

  -- The first numbers are of the list's hashes.
  pub numbers_of_list : hashes_from (ref_hash list place entries further) 0 (entries - 0) ≡ hashes_at list place entries
  numbers_of_list =
      let s : entries - 0 ≡ entries = omega arith in
      let e : place + sizes.hash * 0 ≡ place = omega arith in
      rw s (rw e at (list_numbers 0 entries (omega arith)))

  -- Those behind are of the hashes of the further bytes.
  pub further_numbers : (i count : ℕ) → hashes_from (ref_hash list place entries further) (entries + i) count ≡ hashes_at further (sizes.hash * i) count
  unfolding hashes_from hashes_at
  further_numbers i zero = refl
  further_numbers i (suc count) =
      let e : sizes.hash * i + sizes.hash ≡ sizes.hash * suc i = omega arith in
      let d : entries + i - entries ≡ i = omega arith in
      let n : suc (entries + i) ≡ entries + suc i = omega arith in
      rw (of_further list place entries further (entries + i) (omega arith), d, e, n, further_numbers (suc i) count)

-- ---- what the marked rows ask for

asks_more : (d : ℕ) (s : List ℕ) (p : ℕ → Bool) (i n : ℕ)
    → asks_from i (waiting_rows_of d s i (suc n)) p
    ≡ asks_from i (waiting_rows_of d s i n) p ++ cond (p (i + n)) (hashes_at s (asks_place_of d (i + n)) (asks_count_of d s (i + n))) []
unfolding asks_from waiting_rows_of waiting_row_of
asks_more d s p i zero = rw add-zero (split (p i) (λ e. rw (e, append-nil)) (λ e. rw e))
asks_more d s p i (suc n) =
    let e : i + suc n ≡ suc i + n = omega arith in
    let next = asks_more d s p (suc i) n in
    split (p i) (λ q. rw (q, e, next, append_assoc)) (λ q. rw (q, e, next))

-- those of one row more: its numbers follow
pub asks_next : (list : List ℕ) (place entries : ℕ) (s : List ℕ) (marks : List Bool) (i first end count : ℕ)
    → first ≡ entries + asks_place i / sizes.hash
    → end ≡ first + count
    → count ≡ cond (get_or marks i false) (asks_count s i) 0
    → asks_from 0 (waitings_at s 0 (i + 1)) (λ k. get_or marks k false)
    ≡ asks_from 0 (waitings_at s 0 i) (λ k. get_or marks k false) ++ hashes_from (ref_hash list place entries s) first (end - first)
unfolding hashes_at
asks_next list place entries s marks i first end count f e c =
    let up : i + 1 ≡ suc i = omega arith in
    let long : end - first ≡ count = omega arith in
    let at : sizes.hash * (asks_place i / sizes.hash) ≡ asks_place i = omega arith in
    let zero_more = asks_more sizes.dependencies s (λ k. get_or marks k false) 0 i in
    let own : hashes_from (ref_hash list place entries s) first (end - first) ≡ hashes_at s (asks_place i) count =
    rw (long, f) (rw at at (further_numbers list place entries s (asks_place i / sizes.hash) count))
    in
    let chosen : hashes_at s (asks_place i) count ≡ cond (get_or marks i false) (hashes_at s (asks_place i) (asks_count s i)) [] =
    rw c (split (get_or marks i false) (λ q. rw q) (λ q. rw q))
    in
    rw (up, own, chosen) (rw zero-add at zero_more)

-- its numbers are below the end
pub row_inside : (s : List ℕ) (marks : List Bool) (entries i count : ℕ) {m : ℕ} → i < m → m * waiting_size ≤ length s
    → asks_count s i ≤ sizes.dependencies
    → count ≡ cond (get_or marks i false) (asks_count s i) 0
    → entries + asks_place i / sizes.hash + count ≤ ref_end entries s
row_inside s marks entries i count b inside few c =
    let low : count ≤ sizes.dependencies = rw c (split (get_or marks i false) (λ q. rw q few) (λ q. rw q (omega arith))) in
    omega (arith, low, inside, b)

-- what the marked ones of the first rows ask for, taken in turn
module _ {list : List ℕ} {place entries : ℕ} {p : ℕ → Bool} {refs : List ℕ} {count : ℕ} (s : List ℕ) (marks : List Bool) where
  pub asked_start : FoundRefs list place entries s refs count
      → Took list place entries s p (asks_from 0 (waitings_at s 0 0) (λ k. get_or marks k false)) refs count refs count
  unfolding asks_from waiting_rows_of
  asked_start f = took_none f

  pub asked_next : (i first asks : ℕ) {end : ℕ} {refs' refs'' : List ℕ} {count' count'' : ℕ} → first ≡ entries + asks_place i / sizes.hash
      → end ≡ first + asks
      → asks ≡ cond (get_or marks i false) (asks_count s i) 0
      → length refs' ≡ length refs
      → Took list place entries s p (asks_from 0 (waitings_at s 0 i) (λ k. get_or marks k false)) refs count refs' count'
      → Took list place entries s p (hashes_from (ref_hash list place entries s) first (end - first)) refs' count' refs'' count''
      → Took list place entries s p (asks_from 0 (waitings_at s 0 (i + 1)) (λ k. get_or marks k false)) refs count refs'' count''
  asked_next i first asks {end} f e c long x y = rw (asks_next list place entries s marks i first end asks f e c) (took_then long x y)

  pub asked_end : (i : ℕ) {m : ℕ} {refs' : List ℕ} {count' : ℕ} → i ≤ m → m ≤ i
      → Took list place entries s p (asks_from 0 (waitings_at s 0 i) (λ k. get_or marks k false)) refs count refs' count'
      → Took list place entries s p (asks_from 0 (waitings_at s 0 m) (λ k. get_or marks k false)) refs count refs' count'
  asked_end i {m} b c x =
      let same : i ≡ m = omega arith in
      rw same at x

-- ---- from the start

module _ (table : List ℕ) (n : ℕ) (waitings : List ℕ) (m : ℕ) (d : WaitingDecoded (rows_at table 0 n) waitings m) where
  pub askable_first : (order : List ℕ) → Sorted waitings order m → Askable waitings order m (replicate sizes.waiting_rows false)
  askable_first order o =
      record {
        sorted = o;
        few = λ i h. decoded_asks_count (rows_at table 0 n) waitings m d i h;
        rows = d.few;
        marked = rw (length-replicate sizes.waiting_rows false) d.few;
      }

  pub found_first : (list : List ℕ) (place entries : ℕ) (refs : List ℕ) → place + sizes.hash * entries ≤ length list → entries ≤ sizes.hashes
      → FoundRefs list place entries waitings refs 0
  unfolding ascends
  found_first list place entries refs b c =
      record {
        there = b;
        few = omega (arith, d.whole, d.few);
        room = omega arith;
        inside = λ i e. absurd (member_none i e);
        order = refl;
      }

  -- The unknown hashes of the list, and then of all that the asked rows ask for, are what is missing.
  pub refs_found : (list : List ℕ) (place entries : ℕ) {refs refs' refs'' : List ℕ} {count count' : ℕ} {marks : List Bool}
      → Asks (waitings_at waitings 0 m) (Request.list (hashes_at list place entries)) (replicate sizes.waiting_rows false) marks
      → length refs' ≡ length refs
      → Took list place entries waitings (unknown (rows_at table 0 n) (waitings_at waitings 0 m))
      (hashes_from (ref_hash list place entries waitings) 0 (entries - 0)) refs 0 refs' count
      → length refs'' ≡ length refs'
      → Took list place entries waitings (unknown (rows_at table 0 n) (waitings_at waitings 0 m))
      (asks_from 0 (waitings_at waitings 0 m) (λ k. get_or marks k false)) refs' count refs'' count'
      → RefsFound list place entries waitings (missing (rows_at table 0 n) (waiting_of waitings) (hashes_at list place entries)) refs''
      (record { listed = count; all = count' })
  refs_found list place entries {refs} {refs'} {refs''} {count} {count'} {marks} asked long x same y =
      let t : List Row = rows_at table 0 n in
      let w : List Waiting = waitings_at waitings 0 m in
      let hs : List ℕ = hashes_at list place entries in
      let all : List ℕ = hs ++ asks_from 0 w (λ k. get_or marks k false) in
      let both : Took list place entries waitings (unknown t w) all refs 0 refs'' count' =
      took_then long (rw (numbers_of_list list place entries waitings) at x) y
      in
      let is : found_by list place entries waitings refs'' count' ≡ taking (length refs) (unknown t w) all [] = both.is in
      let good : GoodWaiting t w = rw d.is at d.good in
      let up_to : UpTo (length refs) (ascend (keep (unknown t w) all)) (taking (length refs) (unknown t w) all []) = taken_up_to (length refs) (unknown t w) all in
      let whole : length refs'' ≡ length refs = same ∙ long in
      let up : UpTo (length refs'') (missing t (waiting_of waitings) hs) (found_by list place entries waitings refs'' count') =
      rw (d.is, whole, is) (rw (marks_missing t w good hs asked (blank sizes.waiting_rows)) at up_to)
      in
      record {
        found = y.found;
        up_to = up;
        own =
            λ b.
            let more : List ℕ = asks_from 0 w (λ k. get_or marks k false) in
            let few : length (found_by list place entries waitings refs' count) ≡ count = long_found (ref_hash list place entries waitings) refs' count x.found.room in
            let many : length (found_by list place entries waitings refs'' count') ≡ count' = long_found (ref_hash list place entries waitings) refs'' count' y.found.room in
            let first : found_by list place entries waitings refs' count ≡ taking (length refs) (unknown t w) hs [] =
            rw (numbers_of_list list place entries waitings) at x.is
            in
            let both : found_by list place entries waitings refs'' count' ≡ taking (length refs) (unknown t w) more (taking (length refs) (unknown t w) hs []) =
            is ∙ taking_append (length refs) (unknown t w) hs more []
            in
            let some : length (taking (length refs) (unknown t w) more (taking (length refs) (unknown t w) hs [])) < length refs =
            omega (arith, ap length both, many, whole)
            in
            let own = taken_own (length refs) (unknown t w) hs more some in
            rw (← (up.all (omega (arith, many)))) (rw (← both, ← first, few, many) at own);
      }

-- ---- all of it, or as much as there is room for

module _ {list : List ℕ} {place entries : ℕ} {further l refs : List ℕ} {found : FoundCount} (f : RefsFound list place entries further l refs found) where
  pub found_many : length (found_by list place entries further refs found.all) ≡ found.all
  found_many = long_found (ref_hash list place entries further) refs found.all f.found.room

  pub refs_many : found.all ≡ length refs → length refs ≤ length l
  refs_many e = f.up_to.full (omega (arith, found_many))

  pub refs_all : found.all < length refs → found_by list place entries further refs found.all ≡ l
  refs_all b = f.up_to.all (omega (arith, found_many))
