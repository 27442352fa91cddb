-- `table_index::look::place_by` meets its contract: the place lies between low and high, and the entry in the middle tells on which side (HalveLaws).
-- Assumes nothing.
use Prim.Native.Nat.{◌+◌, ◌-◌, ◌*◌, ◌/◌, ◌≤◌, ◌<◌}
use mathlib.Core.Path.{sym, ◌∙◌}
use lib.ListN.{length}
use Rattle.rules.specs.Sizes.{sizes}
use Rattle.table_index.proofs.HalveLaws.{record-inside, halve_most, entry_below, halve_up, halve_down}
use native.Mathlib.Omega.{arith}
use Rattle.table_index.proofs.look.place_by.Goals as goal

pub loop-low-init : goal.loop-low-init
loop-low-init c = record { least = omega arith; most = halve_most _ _ _ _; upto = omega arith }

pub overflow_mul-r : goal.overflow_mul-r
overflow_mul-r c = omega (arith, (let it : c.u16_at-r.result * c.args.size + sizes.hash ≤ length c.args.records.now = record-inside _ _ _ _ ((let it : c.u16_at-r.result < c.args.n = entry_below _ _ _ c.requires.4 _ _ ((let it : c.loop-low.low + (c.loop-low.high - c.loop-low.low) / 2 < c.args.n = omega (arith, c.loop-low-test.true, c.loop-low.invariant.upto) in it)) c.u16_at-r.ensures in it)) c.requires.0 c.requires.1 in it))

pub hash_before-requires : goal.hash_before-requires
hash_before-requires c = ((let it : c.u16_at-r.result * c.args.size + sizes.hash ≤ length c.args.records.now = record-inside _ _ _ _ ((let it : c.u16_at-r.result < c.args.n = entry_below _ _ _ c.requires.4 _ _ ((let it : c.loop-low.low + (c.loop-low.high - c.loop-low.low) / 2 < c.args.n = omega (arith, c.loop-low-test.true, c.loop-low.invariant.upto) in it)) c.u16_at-r.ensures in it)) c.requires.0 c.requires.1 in it), c.requires.3)

pub loop-low-preserved-then-hash_before : goal.loop-low-preserved-then-hash_before
loop-low-preserved-then-hash_before c =
    let v = c.loop-low.invariant in
    record {
      least = halve_up _ _ _ c.requires.4 _ _ ((let it : c.loop-low.low + (c.loop-low.high - c.loop-low.low) / 2 < c.args.n = omega (arith, c.loop-low-test.true, c.loop-low.invariant.upto) in it)) c.u16_at-r.ensures _ (sym c.hash_before.ensures ∙ c.if-hash_before.true);
      most = v.most;
      upto = v.upto;
    }

pub loop-low-preserved : goal.loop-low-preserved
loop-low-preserved c =
    let v = c.loop-low.invariant in
    record {
      least = v.least;
      most = halve_down _ _ _ c.requires.4 _ _ ((let it : c.loop-low.low + (c.loop-low.high - c.loop-low.low) / 2 < c.args.n = omega (arith, c.loop-low-test.true, c.loop-low.invariant.upto) in it)) c.u16_at-r.ensures _ (sym c.hash_before.ensures ∙ c.if-hash_before.false);
      upto = omega (arith, (let it : c.loop-low.low + (c.loop-low.high - c.loop-low.low) / 2 < c.args.n = omega (arith, c.loop-low-test.true, c.loop-low.invariant.upto) in it));
    }

pub returns : goal.returns
returns c = let v = c.loop-low.invariant in omega (arith, v.least, v.most, c.loop-low-test.false)
