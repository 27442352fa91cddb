-- How a search goes on: from one probe to the next in a filter, and from one filter to the next. Each law is one turn of a loop, with its test
-- as a hypothesis.
use Prim.Native.Nat.{ℕ, zero, suc, ◌+◌, ◌-◌, ◌*◌, ◌%◌, ◌≤◌, ◌<◌, max}
use mathlib.Core.Bool.{Bool, true, false}
use mathlib.Core.List.{List}
use mathlib.Core.Path.{◌≡◌, ◌∙◌, ap}
use native.Mathlib.Numerals.{add-one}
use native.Mathlib.Omega.{arith}
use borrow.Author.Tests.{eq-eqb, ne_eqb, leb-true}
use lib.Dec.{leb}
use lib.ListN.{length, take, drop}
use lib.Seq.{slice}
use Rattle.rules.proofs.Cases.{both}
use Rattle.rules.proofs.Hash.{take_drop, length_slice_of}
use Rattle.rules.specs.Hash.{Bytes, hash_at}
use Rattle.rules.specs.LittleEndian.{u32_at}
use Rattle.rules.specs.Sizes.{sizes}
use Rattle.bloom_probe.specs.Contains.{clear_at, none_clear, contains, any_contains}
use Rattle.bloom_probe.specs.Probes.{probes_from, probes_of}
use Rattle.bloom.specs.Filter.{Filter, filter_rules}
use Rattle.bloom.specs.Have.{have_count, numbers_in, filter_with, filters_from, filters_of, filter_good}
use Rattle.bloom.specs.declared.have.FilterNumbers.{FilterNumbers}
use Rattle.bloom_probe.proofs.ProbeLaws.{probes_at}
use Rattle.bloom.proofs.Rules.{ruled}

-- ---- probes

module _ (field : List ℕ) (m x y z : ℕ) where
  -- the probe is clear: the filter misses
  pub probe_clear : (left : ℕ) → 0 < left → clear_at field x ≡ true → none_clear field (probes_from left m x y z) ≡ false
  unfolding none_clear probes_from
  probe_clear zero h e = absurd (omega arith)
  probe_clear (suc left) h e = rw e

  -- the probe isn't clear: the rest decides
  pub probe_on : (left rest : ℕ) → left ≡ suc rest → clear_at field x ≡ false
      → none_clear field (probes_from left m x y z) ≡ none_clear field (probes_from rest m ((x + y) % m) ((y + z) % m) z)
  unfolding none_clear probes_from
  probe_on left rest l e = rw (l, e)

  pub probes_done : (left : ℕ) → left ≡ 0 → none_clear field (probes_from left m x y z) ≡ true
  unfolding none_clear probes_from
  probes_done left l = rw l

-- ---- filters

pub no_entries : (s : List ℕ) (f : FilterNumbers) (h : ℕ) → f.entries ≡ 0 → contains (filter_with s f) h ≡ false
unfolding contains filter_with
no_entries s f h e = rw (eq-eqb _ _ e)

pub with_entries : (f : Filter) (h : ℕ) → (f.entries ≡ 0 → ⊥)
    → contains f h ≡ none_clear f.field (probes_of (8 * length f.field) f.probes h)
unfolding contains
with_entries f h e = rw (ne_eqb _ _ e)

module _ (s haves : List ℕ) (h : ℕ) where
  -- what the filters from record i on say
  pub searching : ℕ → ℕ → Bool
  searching total i = any_contains (filters_from s haves i (total - i)) h

  pub search_starts : searching (have_count haves) 0 ≡ any_contains (filters_of s haves) h
  unfolding searching filters_of
  search_starts =
      let e : have_count haves - 0 ≡ have_count haves = omega arith in
      rw e

  pub search_found : (total i : ℕ) (f : FilterNumbers) → i < total → f ≡ numbers_in haves i → contains (filter_with s f) h ≡ true
      → searching total i ≡ true
  unfolding searching filters_from any_contains
  search_found total i f l same e =
      let d : total - i ≡ suc (total - (i + 1)) = omega arith in
      rw (d, ← same, e)

  pub search_on : (total i : ℕ) (f : FilterNumbers) → i < total → f ≡ numbers_in haves i → contains (filter_with s f) h ≡ false
      → searching total i ≡ searching total (i + 1)
  unfolding searching filters_from any_contains
  search_on total i f l same e =
      let d : total - i ≡ suc (total - (i + 1)) = omega arith in
      rw (d, ← same, e, add-one)

  pub search_done : (total i : ℕ) → total ≤ i → searching total i ≡ false
  unfolding searching filters_from any_contains
  search_done total i l =
      let d : total - i ≡ 0 = omega arith in
      rw d

-- ---- a record's filter

-- what a good filter with entries has: a field that isn't empty, has its size and stands inside the lent bytes
pub record Probed (s : List ℕ) (f : FilterNumbers) : Type 0 where
  pub some : 0 < f.size
  pub small : f.size ≤ sizes.field
  pub inside : f.place + f.size ≤ length s

pub probed : (s : List ℕ) (f : FilterNumbers) → filter_good s f ≡ true → (f.entries ≡ 0 → ⊥) → Probed s f
unfolding filter_good
probed s f e some =
    let parts = both (filter_rules f.entries f.bits f.probes f.size) (leb (f.place + f.size) (length s)) e in
    let full = (ruled _ _ _ _ parts.0).full (omega arith) in
    record { some = full.some; small = full.small; inside = leb-true _ _ parts.1 }

-- the part that is lent as the field has its size
pub field_long : (s : List ℕ) (f : FilterNumbers) → Probed s f → length (take (f.place + f.size - f.place) (drop f.place s)) ≡ f.size
field_long s f good =
    let same : f.place + f.size - f.place ≡ f.size = omega arith in
    rw (same, take_drop f.size f.place s) (length_slice_of f.size s f.place good.inside)

-- a record's filter contains a hash if none of the probes that the hash's words give is clear in the part that is the field
pub probes_decide : (s hashes : List ℕ) (f : FilterNumbers) (at : ℕ) → Probed s f → (f.entries ≡ 0 → ⊥) → Bytes hashes
    → at + sizes.hash ≤ length hashes
    → contains (filter_with s f) (hash_at hashes at)
    ≡ none_clear
    (take (f.place + f.size - f.place) (drop f.place s))
    (probes_from (max 1 f.probes) (8 * f.size) (u32_at hashes at % (8 * f.size)) (u32_at hashes (at + 4) % (8 * f.size)) (u32_at hashes (at + 8) % (8 * f.size)))
unfolding filter_with
probes_decide s hashes f at good some b h =
    let long : length (slice f.place (f.place + f.size) s) ≡ f.size = length_slice_of f.size s f.place good.inside in
    let same : f.place + f.size - f.place ≡ f.size = omega arith in
    with_entries _ _ some ∙ rw (long, same, ← take_drop f.size f.place s) (ap (none_clear _) (probes_at (8 * f.size) f.probes hashes at b h))
