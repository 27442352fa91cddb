-- What building writes, a law for each test that it makes; and what the filter rules say of a filter that keeps them: with entries it has
-- bits, so its field has a bit for each entry at least.
use Prim.Native.Nat.{ℕ, ◌+◌, ◌*◌, ◌/◌, ◌≤◌}
use mathlib.Core.Bool.{Bool, true, false}
use mathlib.Core.List.{List, ◌++◌}
use mathlib.Core.Path.{◌≡◌, sym, ◌∙◌}
use native.Mathlib.Nat.{zero-add}
use native.Mathlib.Omega.{arith}
use borrow.Author.Tests.{ltb-true, ltb-false}
use lib.Dec.{ltb}
use lib.ListN.{length, take, drop, replicate, length-replicate}
use lib.Seq.{sets, sets-eq, length-take-le}
use Rattle.rules.proofs.Cases.{split}
use Rattle.rules.proofs.Hash.{length_hashes_at}
use Rattle.rules.proofs.Outputs.{written_bytes}
use Rattle.rules.proofs.PassedLaws.{passed_is, after_refused, after_hashes}
use Rattle.rules.specs.Hash.{hashes_at}
use Rattle.rules.specs.Output.{bytes, refuse, Written}
use Rattle.rules.specs.Passed.{passed_hashes}
use Rattle.rules.specs.Sizes.{sizes}
use Rattle.rules.specs.declared.refusal.Refusal.{Refusal}
use Rattle.rules.specs.declared.refusal.Refusal.TheVariants.{BadNumbers}
use Rattle.leb128.specs.Number.{most_filter}
use Rattle.bloom_probe.specs.Build.{add_hashes, filter_of, build_output}
use Rattle.bloom.specs.Filter.{field_size, filter_rules}
use Rattle.bloom_probe.proofs.FieldLaws.{length_add_hashes}
use Rattle.bloom.proofs.Rules.{capacity_covers, capacity_none, ruled}
use Rattle.std.specs.Prelude.{Ok, Err}

-- ---- the filter rules

-- The number of entries, and the bits of each, are filter numbers.
pub rules_numbers : (n b p size : ℕ) → filter_rules n b p size ≡ true → (n ≤ most_filter) × (b ≤ most_filter)
rules_numbers n b p size e = let r = ruled n b p size e in (r.entries, r.bits)

-- The field has a bit for each entry, and no more than its size.
pub rules_field : (n b p : ℕ) → filter_rules n b p (field_size n b) ≡ true → (n ≤ 8 * field_size n b) × (field_size n b ≤ sizes.field)
rules_field n b p e =
    split (ltb 0 n)
    (λ t.
    let full = (ruled n b p (field_size n b) e).full (ltb-true _ _ t) in
    (capacity_covers n b full.some_bits, full.small))
    (λ t.
    let none : n ≡ 0 = omega (arith, ltb-false 0 n t) in
    rw none (omega (arith, capacity_none b)))

-- ---- what is written

module _ (b p : ℕ) (s : List ℕ) where
  abbrev entries : ℕ
  entries = length s / sizes.hash

  abbrev rules : Bool
  rules = filter_rules entries b p (field_size entries b)

  pub bad_numbers : rules ≡ false → build_output b p s ≡ refuse BadNumbers
  unfolding build_output
  bad_numbers e = rw e

  pub no_list_lem : (r : Refusal) → rules ≡ true → passed_hashes s ≡ Err r → build_output b p s ≡ refuse r
  unfolding build_output
  no_list_lem r e q = rw e (after_refused _ _ _ r q)

  -- the hashes of a list that is accepted are as many as the whole hashes that the rules were asked for
  entries_are : (n : ℕ) → passed_hashes s ≡ Ok n → entries ≡ n
  entries_are n q = omega (arith, (passed_is s n q).whole)

  pub list_rules : (n : ℕ) → rules ≡ true → passed_hashes s ≡ Ok n → filter_rules n b p (field_size n b) ≡ true
  list_rules n e q = rw (entries_are n q) at e

  pub whole_list : (n : ℕ) → rules ≡ true → passed_hashes s ≡ Ok n → build_output b p s ≡ bytes (filter_of b p (hashes_at s 0 n)).field
  unfolding build_output
  whole_list n e q = rw e (after_hashes _ _ _ n q)

module _ (b p : ℕ) (s : List ℕ) (n : ℕ) where
  pub length_built : length (filter_of b p (hashes_at s 0 n)).field ≡ field_size n b
  unfolding filter_of
  length_built = rw (length_add_hashes, length-replicate, length_hashes_at)

  -- A field filled at the start of the buffer is the filter's, and the rest of the buffer stays.
  pub built : (field out : List ℕ) (size : ℕ) → size ≡ field_size n b → size ≤ length field
      → out ≡ add_hashes p (replicate (length (take size field)) 0) (hashes_at s 0 n)
      → Written (bytes (filter_of b p (hashes_at s 0 n)).field) field (out ++ drop size field) (Ok size)
  unfolding filter_of
  built field out size e h q =
      let l : List ℕ = (filter_of b p (hashes_at s 0 n)).field in
      let long : length l ≡ size = length_built ∙ sym e in
      let same : out ≡ l = q ∙ rw (length-take-le size field h, length_hashes_at s 0 n, e) in
      let fits : 0 + length l ≤ length field = omega arith in
      let put : l ++ drop size field ≡ sets field 0 l = sym (sets-eq l field 0 fits ∙ rw (zero-add, long)) in
      written_bytes l field (out ++ drop size field) size (sym long) h (rw same put)
