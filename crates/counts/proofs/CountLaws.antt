-- A capture's counts: tables that were put in order have an index each, a filter that was read is good and stands alone in a have's words, and what is
-- counted of the listener's rows by both is what the definition counts.
use Prim.Native.Nat.{ℕ, ◌+◌, ◌-◌, ◌*◌, ◌≤◌}
use mathlib.Core.Bool.{Bool, true, false, not, ◌||◌}
use mathlib.Core.List.{List, [], ◌∷◌}
use mathlib.Core.Path.{◌≡◌, refl, ap, ◌∙◌}
use native.Mathlib.Omega.{arith}
use borrow.Author.Tests.{ltb-true, ltb-false, leb-true, le-leb}
use lib.Dec.{ltb, leb}
use lib.ListN.{length, take, drop}
use lib.Seq.{slice, length-slice}
use Rattle.bloom.proofs.Filters.{filter_inside, filter_ruled}
use Rattle.bloom.proofs.Rules.{ruled, capacity_none}
use Rattle.bloom.specs.Filter.{filter_rules, field_size}
use Rattle.bloom.specs.FilterRead.{filter_at, after_filter}
use Rattle.bloom.specs.Have.{filters_from, filters_of, filter_good, filter_with, GoodFilters}
use Rattle.bloom.specs.declared.have.FilterNumbers.{FilterNumbers}
use Rattle.bloom_probe.specs.Contains.{contains, any_contains}
use Rattle.hash_order.proofs.KeepLaws.{keep_same}
use Rattle.hash_order.specs.Order.{keep}
use Rattle.rules.proofs.Cases.{split, both}
use Rattle.rules.proofs.Hash.{take_drop}
use Rattle.rules.specs.Hash.{Bytes}
use Rattle.rules.specs.Sizes.{sizes}
use Rattle.rules.specs.declared.refusal.Refusal.{Refusal}
use Rattle.table.proofs.GoodLaws.{accepted_rows}
use Rattle.table.proofs.TableLaws.{length_rows, length_rows_at, hash_of_row, table_good}
use Rattle.table.specs.Table.{Row, rows, held, hash_of}
use Rattle.table.specs.TableBytes.{rows_at, table_checked}
use Rattle.table_check.specs.Internal.Repeats.{RowOrder}
use Rattle.table_graph.specs.Internal.Marks.{Marks}
use Rattle.table_index.proofs.IndexLaws.{index_same}
use Rattle.table_index.proofs.LookLaws.{good_fits}
use Rattle.table_index.specs.Index.{Indexed, indexed, index_of, record_hash}
use Rattle.counts.specs.Captures.{bits_set, outside, capture_counts, with_table, capture_counted}
use Rattle.counts.specs.Internal.Walked.{tested_of, TestedBy, alone_words}
use Rattle.counts.specs.declared.tested.Tested.{Tested}
use Rattle.std.specs.Prelude.{Result, Ok, Err}
use Rattle.counts.specs.declared.totals.Counts.{Counts}

-- ---- tables

-- the order that a good table was checked by is its index
pub order_indexed : (s x : List ℕ) (n : ℕ) → table_checked s ≡ Ok n → RowOrder sizes.dependencies s x n → Indexed s x n
unfolding index_of
order_indexed s x n e o =
    let good = accepted_rows s n e in
    let same : index_of (rows_at s 0 n) ≡ indexed (record_hash s _) n =
    ap (indexed (hash_of (rows_at s 0 n))) (length_rows_at s 0 n)
    ∙ index_same (hash_of (rows_at s 0 n)) (record_hash s _) n (λ i b. hash_of_row s n i b)
    in
    record { rows = good; entries = o.entries; fit = rw (o.order, ← same) (good_fits (rows_at s 0 n) good.good) }

module _ (s : List ℕ) (k : List Row → Result Counts Refusal) where
  pub table_refused : (r : Refusal) → table_checked s ≡ Err r → Err r ≡ with_table s k
  unfolding with_table
  table_refused r e = rw e

  pub table_accepted : (n : ℕ) → table_checked s ≡ Ok n → k (rows_at s 0 n) ≡ with_table s k
  unfolding with_table
  table_accepted n e = rw (e, (table_good s n e).is)

-- ---- the filter

module _ (s : List ℕ) (f : FilterNumbers) where
  pub read_good : (next : ℕ) → Bytes s → filter_at s 0 (length s) ≡ Ok (f, next) → filter_good s f ≡ true
  unfolding filter_good
  read_good next all e =
      let k = filter_inside s 0 (length s) f next e in
      let r = filter_ruled s 0 (length s) f next e all in
      let there : f.place + f.size ≤ length s = omega (arith, k.there (omega arith), k.whole) in
      rw (r, le-leb _ _ there)

  module _ (good : filter_good s f ≡ true) where
    parts : (filter_rules f.entries f.bits f.probes f.size ≡ true) × (leb (f.place + f.size) (length s) ≡ true)
    unfolding filter_good
    parts = both _ _ good

    pub field_inside : f.place + f.size ≤ length s
    field_inside = leb-true _ _ parts.1

    pub field_few : f.size ≤ sizes.field
    field_few =
        let r = ruled f.entries f.bits f.probes f.size parts.0 in
        split (ltb 0 f.entries)
        (λ t. (r.full (ltb-true _ _ t)).small)
        (λ t.
        let none : f.entries ≡ 0 = omega (arith, ltb-false 0 f.entries t) in
        let empty : f.size ≡ 0 = r.size ∙ ap (λ (n : ℕ). field_size n f.bits) none ∙ capacity_none f.bits in
        omega arith)

    -- a field as the code takes it out of the bytes
    pub part_few : length (take (f.place + f.size - f.place) (drop f.place s)) ≤ sizes.field
    part_few =
        let e : f.place + f.size - f.place ≡ f.size = omega arith in
        rw (e, take_drop f.size f.place s, length-slice f.place (f.place + f.size) s field_inside) (omega (arith, field_few))

    -- its words are those of one good have
    pub words_good : GoodFilters s (alone_words f)
    words_good = record { each = λ i h. let first : i ≡ 0 = omega arith in rw first good }

  words_filter : filters_of s (alone_words f) ≡ filter_with s f ∷ []
  unfolding filters_of filters_from
  words_filter = refl

  pub words_contain : (h : ℕ) → any_contains (filters_of s (alone_words f)) h ≡ contains (filter_with s f) h
  unfolding any_contains
  words_contain h = rw words_filter (or_none (contains (filter_with s f) h))
    where
      or_none : (b : Bool) → (b || false) ≡ b
      or_none true = refl
      or_none false = refl

pub filter_refused : (s : List ℕ) (k : FilterNumbers → ℕ → Result Counts Refusal) (r : Refusal) → filter_at s 0 (length s) ≡ Err r
    → Err r ≡ after_filter (filter_at s 0 (length s)) Err k
unfolding after_filter
filter_refused s k r e = rw e

pub filter_accepted : (s : List ℕ) (k : FilterNumbers → ℕ → Result Counts Refusal) (f : FilterNumbers) (next : ℕ) → filter_at s 0 (length s) ≡ Ok (f, next)
    → k f next ≡ after_filter (filter_at s 0 (length s)) Err k
unfolding after_filter
filter_accepted s k f next e = rw e

-- ---- a capture

module _ (s l f : List ℕ) where
  pub capture_refused : (r : Refusal) → table_checked s ≡ Err r → Err r ≡ capture_counted s l f
  unfolding capture_counted
  capture_refused r e = table_refused s _ r e

  pub capture_accepted : (n : ℕ) → table_checked s ≡ Ok n
      → with_table l (λ b. after_filter (filter_at f 0 (length f)) Err (λ g next. Ok (capture_counts (rows_at s 0 n) b (filter_with f g))))
      ≡ capture_counted s l f
  unfolding capture_counted
  capture_accepted n e = table_accepted s (λ a. with_table l (λ b. after_filter (filter_at f 0 (length f)) Err (λ g next. Ok (capture_counts a b (filter_with f g))))) n e

-- ---- the counts

same_tested : (p q q' : ℕ → Bool) (hs : List ℕ) → ((h : ℕ) → q h ≡ q' h) → tested_of p q hs ≡ tested_of p q' hs
same_tested p q q' hs e =
    ap (λ (l : List ℕ). record { rows = length (keep (λ h. not (p h)) hs); contained = length l }) (keep_same q q' (keep (λ h. not (p h)) hs) (λ h m. e h))

-- rows tested by marks and a filter alone
pub tested_rows : (p : ℕ → Bool) (l : List ℕ) (n : ℕ) (s : List ℕ) (f : FilterNumbers) (marks : List Bool) (r : Tested)
    → Marks n marks (λ i. p (hash_of (rows_at l 0 n) i))
    → TestedBy marks (any_contains (filters_of s (alone_words f))) (rows (rows_at l 0 n)) r
    → r ≡ tested_of p (contains (filter_with s f)) (rows (rows_at l 0 n))
unfolding hash_of
tested_rows p l n s f marks r m t =
    let long : length (rows (rows_at l 0 n)) ≡ n = length_rows (rows_at l 0 n) ∙ length_rows_at l 0 n in
    t.counted p (rw long m)
    ∙ same_tested p (any_contains (filters_of s (alone_words f))) (contains (filter_with s f)) (rows (rows_at l 0 n)) (words_contain s f)

pub counts_made : (a b : List Row) (s : List ℕ) (f : FilterNumbers) (t : Tested) (set : ℕ) → filter_good s f ≡ true
    → t ≡ tested_of (held a) (contains (filter_with s f)) (rows b)
    → set ≡ bits_set (take (f.place + f.size - f.place) (drop f.place s))
    → record { entries = f.entries; field_bits = 8 * f.size; set_bits = set; tested = t.rows; contained = t.contained }
    ≡ capture_counts a b (filter_with s f)
unfolding capture_counts outside filter_with
counts_made a b s f t set good is sum =
    let e : f.place + f.size - f.place ≡ f.size = omega arith in
    let long : length (slice f.place (f.place + f.size) s) ≡ f.size = length-slice f.place (f.place + f.size) s (field_inside s f good) ∙ e in
    rw (is, sum, e, take_drop f.size f.place s, long)
