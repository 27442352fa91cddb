-- Hashes added from their starts: the numbers of a start are remainders, and the bits of the probes from it are what adding the hash sets.
use Prim.Native.Nat.{ℕ, ◌+◌, ◌*◌, ◌≤◌, ◌<◌, max}
use mathlib.Core.List.{List}
use mathlib.Core.Path.{◌≡◌, sym, ap, ◌∙◌}
use native.Mathlib.Nat.{mod-lt}
use lib.ListN.{length}
use Rattle.rules.specs.Hash.{Bytes, hash_at}
use Rattle.rules.specs.Sizes.{sizes}
use Rattle.bloom_probe.specs.Build.{set_bits, add_hash, add_hashes}
use Rattle.bloom_probe.specs.Probes.{probes_from}
use Rattle.bloom_probe.specs.Internal.Start.{start_at}
use Rattle.bloom_probe.specs.declared.build.Start.{Start}
use Rattle.bloom_probe.proofs.ProbeLaws.{probes_at}

pub starts_below : (s : List ℕ) (at m : ℕ) (start : Start) → 0 < m → start ≡ start_at s at m → (start.x < m) × (start.y < m) × (start.z < m)
starts_below s at m start h e = rw e (mod-lt _ h, mod-lt _ h, mod-lt _ h)

pub of_start : (field next : List ℕ) (p : ℕ) (s : List ℕ) (at m rounds : ℕ) (start : Start) → Bytes s → at + sizes.hash ≤ length s
    → m ≡ 8 * length field → rounds ≡ max 1 p → start ≡ start_at s at m
    → next ≡ set_bits field (probes_from rounds m start.x start.y start.z) → next ≡ add_hash p field (hash_at s at)
unfolding add_hash
of_start field next p s at m rounds start bytes h em er es e =
    e ∙ rw (es, er, em) (sym (ap (set_bits field) (probes_at (8 * length field) p s at bytes h)))

-- added to a field that is another one
pub added_to_lem : (p : ℕ) (out field clear hs : List ℕ) → out ≡ add_hashes p field hs → field ≡ clear → out ≡ add_hashes p clear hs
added_to_lem p out field clear hs e q = e ∙ ap (λ (f : List ℕ). add_hashes p f hs) q
