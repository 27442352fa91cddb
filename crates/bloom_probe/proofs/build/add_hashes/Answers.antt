-- `bloom_probe::build::add_hashes` meets its contract: adding the hashes that are left to the field as it is gives what adding all of them to the
-- field as it was gives, and the start that is held is that of the first of them. Assumes nothing.
use Prim.Native.Nat.{ℕ, suc, ◌+◌, ◌-◌, ◌*◌, ◌≤◌, ◌<◌}
use mathlib.Core.List.{List}
use mathlib.Core.Path.{◌≡◌, sym, ap, ◌∙◌}
use native.Mathlib.Omega.{arith}
use lib.ListN.{length}
use Rattle.rules.specs.Hash.{hash_at, hashes_at}
use Rattle.rules.specs.Sizes.{sizes}
use Rattle.bloom_probe.specs.Build.{set_bits, add_hash, add_hashes}
use Rattle.bloom_probe.specs.Probes.{probes_from}
use Rattle.bloom_probe.proofs.FieldLaws.{length_add_hash}
use Rattle.bloom_probe.proofs.StartLaws.{of_start}
use Rattle.bloom_probe.proofs.build.add_hashes.Goals as goal

-- one hash more
added_more : (p : ℕ) (field next s : List ℕ) (n i : ℕ) → i < n
    → next ≡ add_hash p field (hash_at s (sizes.hash * i))
    → add_hashes p next (hashes_at s (sizes.hash * (i + 1)) (n - (i + 1))) ≡ add_hashes p field (hashes_at s (sizes.hash * i) (n - i))
unfolding add_hashes hashes_at
added_more p field next s n i h e =
    let left : n - i ≡ suc (n - (i + 1)) = omega arith in
    let place : sizes.hash * (i + 1) ≡ sizes.hash * i + sizes.hash = omega arith in
    rw (left, place, e)

-- all of them
added-all : (p : ℕ) (field s : List ℕ) (n i : ℕ) → n ≤ i → field ≡ add_hashes p field (hashes_at s (sizes.hash * i) (n - i))
unfolding add_hashes hashes_at
added-all p field s n i h = let left : n - i ≡ 0 = omega arith in rw left

pub loop-i-preserved : goal.loop-i-preserved
loop-i-preserved c =
    let added = (let it : (next : List ℕ)
    → let a = c.args in
    let start = c.loop-i.next in
    next ≡ set_bits c.loop-i.field (probes_from c.count-rounds.result (8 * length a.field.now) start.x start.y start.z)
    → next ≡ add_hash a.probes c.loop-i.field (hash_at a.hashes.now (sizes.hash * c.loop-i.i)) = λ next e. of_start _ _ _ _ _ _ _ _
    (λ i. (c.type_inv.hashes i).fits)
    (omega (arith, c.requires.2, c.loop-i-test.true))
    (ap (λ (n : ℕ). 8 * n) (sym c.loop-i.invariant.long))
    c.count-rounds.ensures
    (c.loop-i.invariant.starts c.loop-i-test.true)
    e in it) _ c.set_probes.ensures in
    record {
      long = ap length added ∙ length_add_hash _ _ _ ∙ c.loop-i.invariant.long;
      starts = c.start_in-next-in-loop-i.ensures;
      rest = added_more _ _ _ _ _ _ c.loop-i-test.true added ∙ c.loop-i.invariant.rest;
    }

pub returns : goal.returns
returns c = added-all _ _ _ _ _ c.loop-i-test.false ∙ c.loop-i.invariant.rest
