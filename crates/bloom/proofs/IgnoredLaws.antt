-- Bytes that are ignored behind a filter's field: what stands there, and nothing after writing. Reading with the number forgotten is the reading of 01,
-- so that every law of filters that are read holds of this one too.
use Prim.Native.Nat.{ℕ, ◌+◌, ◌-◌, ◌≤◌, ◌<◌}
use mathlib.Core.Bool.{true}
use mathlib.Core.List.{List, [], append-nil}
use mathlib.Core.Path.{◌≡◌, refl, sym, ◌∙◌, ap}
use native.Mathlib.Omega.{arith}
use lib.ListN.{length}
use lib.Seq.{slice, length-slice}
use Rattle.rules.specs.declared.refusal.Refusal.{Refusal}
use Rattle.wire.specs.Item.{left_at}
use Rattle.wire.proofs.Item.{left_is}
use Rattle.bloom.specs.Filter.{Filter, filter_rules, filter_bytes}
use Rattle.bloom.specs.FilterIgnored.{ignored_at, counted_at, as_parsed}
use Rattle.bloom.specs.FilterRead.{filter_at, after_filter}
use Rattle.bloom.specs.declared.have.FilterNumbers.{FilterNumbers}
use Rattle.bloom.proofs.Filters.{filter_default, filter_inside, filter_written, bytes_length}
use Rattle.std.specs.Prelude.{Result, Ok, Err}

-- ---- one law for each case

module _ (s : List ℕ) (at end : ℕ) where
  pub ignored_left : (f : FilterNumbers) (next : ℕ) → filter_at s at end ≡ Ok (f, next) → ignored_at s at end ≡ left_at s next end
  unfolding ignored_at after_filter
  ignored_left f next e = rw e

  pub counted_read : (f : FilterNumbers) (next ignored : ℕ) → filter_at s at end ≡ Ok (f, next) → ignored ≡ left_at s next end
      → Ok (f, next, ignored) ≡ counted_at s at end
  unfolding counted_at after_filter
  counted_read f next ignored e q = rw (e, q, ignored_left f next e)

  pub counted_refused : (r : Refusal) → filter_at s at end ≡ Err r → Err r ≡ counted_at s at end
  unfolding counted_at after_filter
  counted_refused r e = rw e

  -- ---- the number forgotten

  pub filter_forgotten : as_parsed (counted_at s at end) ≡ filter_at s at end
  unfolding counted_at as_parsed after_filter
  filter_forgotten = go (filter_at s at end) refl
    where
      go : (x : Result (FilterNumbers × ℕ) Refusal) → filter_at s at end ≡ x → as_parsed (counted_at s at end) ≡ filter_at s at end
      go (Ok (f, next)) e = rw e
      go (Err r) e = rw e

  -- ---- what stands there

  -- A filter of no bytes ignores none.
  pub ignored_none : left_at s at end ≡ 0 → ignored_at s at end ≡ 0
  ignored_none e = ignored_left _ _ (filter_default s at end e) ∙ e

  -- The field and what is ignored behind it go up to the part's end.
  pub ignored_stands : (f : FilterNumbers) (next : ℕ) → filter_at s at end ≡ Ok (f, next) → at ≤ end → end ≤ length s
      → f.place + f.size + ignored_at s at end ≡ end
  ignored_stands f next e h l =
      let w = filter_inside s at end f next e in
      omega (arith, w.whole, w.up_to h, ignored_left f next e, left_is s next end)

-- ---- after writing

-- Nothing is ignored behind a filter that was written.
pub ignored_written : (s : List ℕ) (at end : ℕ) (f : Filter) → filter_rules f.entries f.bits f.probes (length f.field) ≡ true → 0 < f.entries
    → at ≤ end
    → end ≤ length s
    → slice at end s ≡ filter_bytes f
    → ignored_at s at end ≡ 0
ignored_written s at end f rules some h l same =
    let w = filter_written s [] at end f rules some (same ∙ sym (append-nil (filter_bytes f))) in
    let long : end - at ≡ length (filter_bytes f) = sym (length-slice at end s l) ∙ ap length same in
    let parts = bytes_length f.entries f.bits f.probes f.field (omega arith) in
    let stands = ignored_stands s at end _ _ w.0 h l in
    omega arith
