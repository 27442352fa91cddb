-- `bloom_probe::probes::step` meets its contract: a sum below m is its own remainder, and one that isn't is still below twice m, so m taken off once
-- leaves the remainder. Assumes nothing.
use Prim.Native.Nat.{ℕ, ◌-◌, ◌%◌, ◌≤◌, ◌<◌}
use mathlib.Core.Path.{◌≡◌, sym, ◌∙◌}
use native.Mathlib.Nat.{mod-eq_of_lt, mod-eq-sub-mod}
use native.Mathlib.Omega.{arith}
use Rattle.bloom_probe.proofs.probes.step.Goals as goal

-- the sum is below m
as-it-is : (n m : ℕ) → n < m → n ≡ n % m
as-it-is n m h = sym (mod-eq_of_lt h)

-- the sum isn't
taken-off : (n m : ℕ) → m ≤ n → n - m < m → n - m ≡ n % m
taken-off n m l h = sym (mod-eq-sub-mod l ∙ mod-eq_of_lt h)

pub returns-then-sum-m : goal.returns-then-sum-m
returns-then-sum-m c = (as-it-is _ _ c.if-sum-m.true, c.if-sum-m.true)

pub returns-else-sum-m : goal.returns-else-sum-m
returns-else-sum-m c = (taken-off _ _ c.if-sum-m.false (omega arith), omega arith)
