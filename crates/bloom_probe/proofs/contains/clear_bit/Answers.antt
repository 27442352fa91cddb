-- `bloom_probe::contains::clear_bit` meets its contract: the bit of the byte that the probe is in decides. Assumes nothing.
use Prim.Native.Nat.{ℕ, ◌/◌, ◌%◌, ◌^◌}
use mathlib.Core.List.{List}
use mathlib.Core.Path.{◌≡◌, refl}
use native.Mathlib.Omega.{arith}
use lib.Dec.{eqb}
use lib.ListN.{get_or}
use Rattle.bloom_probe.specs.Contains.{clear_at}
use Rattle.bloom_probe.specs.Probes.{bit_at}
use Rattle.bloom_probe.proofs.contains.clear_bit.Goals as goal

bit : (field : List ℕ) (k : ℕ) → eqb (get_or field (k / 8) 0 / 2 ^ (k % 8) % 2) 0 ≡ clear_at field k
unfolding clear_at bit_at
bit field k = refl

pub bounds-field-probe : goal.bounds-field-probe
bounds-field-probe c = omega (arith, c.requires)

pub returns : goal.returns
returns c = bit _ _
