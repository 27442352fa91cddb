-- `leb128::leb128::put_unsigned` meets its contract: putting the shortest form of what is left at `i` gives the buffer that putting all of it
-- at `at` gives. Assumes nothing.
use mathlib.Core.Path.{refl, ◌∙◌}
use native.Mathlib.Omega.{arith}
use lib.ListN.{length-set}
use Rattle.leb128.proofs.Number.{shortest_length_more, length_one, put_more, put_one}
use Rattle.leb128.proofs.leb128.put_unsigned.Goals as goal

pub loop-rest-init : goal.loop-rest-init
loop-rest-init c = record { fits = omega arith; long = refl; room = refl; same = refl }

pub overflow_add-out : goal.overflow_add-out
overflow_add-out c = omega arith

pub overflow_cast-out : goal.overflow_cast-out
overflow_cast-out c = omega arith

pub bounds-out-i : goal.bounds-out-i
bounds-out-i c = omega (arith, shortest_length_more c.loop-rest.rest c.loop-rest-test.true)

pub overflow_add-i : goal.overflow_add-i
overflow_add-i c = omega (arith, shortest_length_more c.loop-rest.rest c.loop-rest-test.true)

pub loop-rest-smaller : goal.loop-rest-smaller
loop-rest-smaller c = omega arith

pub loop-rest-preserved : goal.loop-rest-preserved
loop-rest-preserved c =
    record {
      fits = omega arith;
      long = simp length-set c.loop-rest.invariant.long;
      room = omega (arith, shortest_length_more c.loop-rest.rest c.loop-rest-test.true);
      same = put_more _ _ _ c.loop-rest-test.true ∙ c.loop-rest.invariant.same;
    }

pub overflow_cast-out-2 : goal.overflow_cast-out-2
overflow_cast-out-2 c = omega arith

pub bounds-out-i-2 : goal.bounds-out-i-2
bounds-out-i-2 c = omega (arith, length_one c.loop-rest.rest c.loop-rest-test.false)

pub overflow_add-result : goal.overflow_add-result
overflow_add-result c = omega (arith, length_one c.loop-rest.rest c.loop-rest-test.false)

pub shape_of-out : goal.shape_of-out
shape_of-out c = simp length-set c.loop-rest.invariant.long

pub returns : goal.returns
returns c =
    record {
      place = omega (arith, length_one c.loop-rest.rest c.loop-rest-test.false);
      content = put_one _ _ _ c.loop-rest-test.false ∙ c.loop-rest.invariant.same;
    }
