-- M-105: of a filter that 01 accepts each probe lies inside the field, whichever hash is asked for or added. With entries it has bits, so its field has a
-- byte, and a probe is a remainder by the field's bits. Assumes nothing.
use Prim.Native.Nat.{ℕ, ◌*◌, ◌<◌}
use mathlib.Core.Bool.{true}
use mathlib.Core.List.{List}
use mathlib.Core.Path.{◌≡◌}
use native.Mathlib.Omega.{arith}
use lib.ListN.{length, length-replicate}
use Rattle.rules.specs.Hash.{Bytes}
use Rattle.rules.proofs.Hash.{length_slice_of}
use Rattle.bloom.specs.Filter.{Filter, field_size, filter_rules}
use Rattle.bloom.specs.Have.{have_count, numbers_in, filter_with, GoodFilters}
use Rattle.bloom.specs.FilterRead.{filter_at}
use Rattle.bloom.specs.declared.have.FilterNumbers.{FilterNumbers}
use Rattle.bloom.proofs.Filters.{filter_inside, filter_ruled}
use Rattle.bloom.proofs.Rules.{ruled}
use Rattle.bloom_probe.specs.Build.{filter_of}
use Rattle.bloom_probe.specs.Inside.{Inside}
use Rattle.bloom_probe.proofs.FieldLaws.{length_add_hashes}
use Rattle.bloom_probe.proofs.ProbeLaws.{probes_below}
use Rattle.bloom_probe.proofs.Search.{Probed, probed}
use Rattle.std.specs.Prelude.{Ok}

-- A field that isn't empty.
field_inside : (f : Filter) → 0 < length f.field → Inside f
field_inside f some h k e =
    let below : k < 8 * length f.field = probes_below (8 * length f.field) f.probes h k (omega arith) e in
    omega arith

-- A filter that keeps the rules.
pub probes_inside : (f : Filter) → filter_rules f.entries f.bits f.probes (length f.field) ≡ true → 0 < f.entries → Inside f
probes_inside f rules some = field_inside f ((ruled f.entries f.bits f.probes (length f.field) rules).full some).some

-- A filter that was built.
pub built_inside : (b p : ℕ) (hs : List ℕ) → filter_rules (length hs) b p (field_size (length hs) b) ≡ true → 0 < length hs → Inside (filter_of b p hs)
unfolding filter_of
built_inside b p hs rules some = probes_inside (filter_of b p hs) (rw (length_add_hashes, length-replicate) rules) some

-- A filter of numbers whose field stands in the lent bytes.
numbers_inside : (s : List ℕ) (f : FilterNumbers) → Probed s f → Inside (filter_with s f)
unfolding filter_with
numbers_inside s f p =
    let long = length_slice_of f.size s f.place p.inside in
    field_inside (filter_with s f) (rw long p.some)

-- Each filter of haves that are passed, or kept: both are tested alike.
pub passed_inside : (s haves : List ℕ) → GoodFilters s haves → (i : ℕ) → i < have_count haves → 0 < (numbers_in haves i).entries
    → Inside (filter_with s (numbers_in haves i))
passed_inside s haves good i h some = numbers_inside s (numbers_in haves i) (probed s (numbers_in haves i) (good.each i h) (λ e. omega arith))

-- A filter that was read.
pub read_inside : (s : List ℕ) (at end : ℕ) (f : FilterNumbers) (next : ℕ) → Bytes s → filter_at s at end ≡ Ok (f, next) → 0 < f.entries
    → Inside (filter_with s f)
read_inside s at end f next bytes e some =
    let full = (ruled f.entries f.bits f.probes f.size (filter_ruled s at end f next e bytes)).full some in
    let there = filter_inside s at end f next e in
    let within = there.filled full.some in
    numbers_inside s f (record { some = full.some; small = full.small; inside = omega (arith, there.whole, within.there) })
