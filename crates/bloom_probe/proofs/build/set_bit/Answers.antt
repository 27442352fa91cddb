-- `bloom_probe::build::set_bit` meets its contract: 1 shifted by less than 8 is a byte. Assumes nothing.
use Prim.Native.Nat.{ℕ, ◌*◌, ◌/◌, ◌%◌, ◌^◌, ◌<◌}
use mathlib.Core.List.{List}
use mathlib.Core.Path.{◌≡◌}
use native.Mathlib.Nat.{mod-lt}
use native.Mathlib.Omega.{arith}
use lib.Bits.{bit_or}
use lib.ListN.{get_or, set}
use lib.Pow.{pow-lt}
use Rattle.bloom_probe.specs.Build.{set_bit}
use Rattle.bloom_probe.proofs.build.set_bit.Goals as goal

bit : (field : List ℕ) (k : ℕ) → set field (k / 8) (bit_or (get_or field (k / 8) 0) (1 * 2 ^ (k % 8) % 256)) ≡ set_bit field k
unfolding set_bit
bit field k =
    let small : 2 ^ (k % 8) < 256 = pow-lt (mod-lt k (omega arith)) in
    let e : 1 * 2 ^ (k % 8) % 256 ≡ 2 ^ (k % 8) = omega arith in
    rw e

pub bounds-field-at : goal.bounds-field-at
bounds-field-at c = omega (arith, c.requires)

pub returns : goal.returns
returns c = bit _ _
