-- `salvage::put::put_numbers` meets its contract: putting the numbers that are left at their place gives the buffer that putting all of them gives
-- (PutLaws). Assumes nothing.
use Prim.Native.Nat.{◌<◌}
use mathlib.Core.Path.{refl, ◌∙◌}
use native.Mathlib.Omega.{arith}
use Rattle.salvage_rules.proofs.DecideLaws.{number_low}
use Rattle.salvage.proofs.PutLaws.{numbers_start, numbers_more, numbers_all}
use Rattle.salvage.proofs.put.put_numbers.Goals as goal

pub loop-j-init : goal.loop-j-init
loop-j-init c = numbers_start _ _ _ _ _ _ _ c.count_of-count.ensures

pub offset_bounds-places-k : goal.offset_bounds-places-k
offset_bounds-places-k c = omega (arith, (let it : c.dep_of-k.result < c.args.i = number_low _ _ _ _ _ _ c.requires.2 c.count_of-count.ensures c.loop-j-test.true c.dep_of-k.ensures in it), c.requires.4)

pub bounds-places-k : goal.bounds-places-k
bounds-places-k c = omega (arith, (let it : c.dep_of-k.result < c.args.i = number_low _ _ _ _ _ _ c.requires.2 c.count_of-count.ensures c.loop-j-test.true c.dep_of-k.ensures in it), c.requires.3)

pub loop-j-preserved : goal.loop-j-preserved
loop-j-preserved c =
    numbers_more _ _ _ _ _ _ _ _ _ _ c.loop-j-test.true c.dep_of-k.ensures refl ∙ c.loop-j.invariant

pub returns : goal.returns
returns c = numbers_all _ _ _ _ _ _ _ _ c.loop-j-test.false ∙ c.loop-j.invariant
