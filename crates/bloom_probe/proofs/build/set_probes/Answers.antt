-- `bloom_probe::build::set_probes` meets its contract: setting the bits of the probes that are left, in the field as it is, gives what setting all of
-- them in the field as it was gives. Assumes nothing.
use Prim.Native.Nat.{ℕ, ◌+◌, ◌-◌, ◌%◌, ◌≤◌, ◌<◌, suc}
use mathlib.Core.List.{List}
use mathlib.Core.Path.{◌≡◌, ap, ◌∙◌}
use native.Mathlib.Nat.{mod-lt}
use native.Mathlib.Omega.{arith}
use lib.ListN.{length}
use Rattle.bloom_probe.specs.Build.{set_bit, set_bits}
use Rattle.bloom_probe.specs.Probes.{probes_from}
use Rattle.bloom_probe.specs.declared.probes.Probe.{Probe}
use Rattle.bloom_probe.proofs.FieldLaws.{length_set_bit}
use Rattle.bloom_probe.proofs.build.set_probes.Goals as goal

-- one probe more
added_more : (field next : List ℕ) (rounds k m x y z u v : ℕ) → k < rounds
    → next ≡ set_bit field x → u ≡ (x + y) % m → v ≡ (y + z) % m
    → set_bits next (probes_from (rounds - (k + 1)) m u v z) ≡ set_bits field (probes_from (rounds - k) m x y z)
unfolding set_bits probes_from
added_more field next rounds k m x y z u v h n p q = let e : rounds - k ≡ suc (rounds - (k + 1)) = omega arith in rw (e, n, p, q)

step-below : (r a m : ℕ) → 0 < m → r ≡ a % m → r < m
step-below r a m h e = rw e (mod-lt a h)

-- all of them
added-all : (field : List ℕ) (rounds k m x y z : ℕ) → rounds ≤ k → field ≡ set_bits field (probes_from (rounds - k) m x y z)
unfolding set_bits probes_from
added-all field rounds k m x y z h = let e : rounds - k ≡ 0 = omega arith in rw e

pub loop-preserved : goal.loop-preserved
loop-preserved c =
    let l = c.loop in
    let set = c.set_bit.ensures in
    let on = c.next-probe.ensures in
    let some : 0 < c.args.m = omega (arith, l.invariant.first) in
    record {
      long = ap length set ∙ length_set_bit _ _ ∙ l.invariant.long;
      first = step-below _ _ _ some (ap (λ (p : Probe). p.x) on);
      second = step-below _ _ _ some (ap (λ (p : Probe). p.y) on);
      third = l.invariant.third;
      most = l.invariant.most;
      rest = added_more _ _ _ _ _ _ _ _ _ _ c.loop-test.true set (ap (λ (p : Probe). p.x) on) (ap (λ (p : Probe). p.y) on) ∙ l.invariant.rest;
    }

pub returns : goal.returns
returns c = added-all _ _ _ _ _ _ _ c.loop-test.false ∙ c.loop.invariant.rest
