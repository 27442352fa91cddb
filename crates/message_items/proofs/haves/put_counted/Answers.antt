-- `message_items::haves::put_counted` meets its contract: the words and the numbers that were put, and those of the items still to come, make the lists that
-- all of them make. The items were read before, so none of them is refused. Assumes nothing.
use Prim.Native.Nat.{◌+◌, ◌*◌, ◌≤◌}
use mathlib.Core.Path.{◌≡◌, refl, sym, ◌∙◌}
use native.Mathlib.Omega.{arith}
use lib.ListN.{length}
use Rattle.bloom.specs.Have.{have_words}
use Rattle.message_items.specs.Items.{have_at}
use Rattle.message_items.proofs.IgnoredLaws.{counting_ends, number_fits, ends_there, sum_fits, counting_on}
use Rattle.message_items.proofs.ItemLaws.{have_stopped, have_item_lem, putting_ends, putting_refused, putting_fits, putting_on}
use Rattle.message_items.proofs.haves.put_counted.Goals as goal
use Rattle.std.specs.Prelude.{Ok}

pub overflow_add-behind : goal.overflow_add-behind
overflow_add-behind c =
    let n = number_fits _ _ _ _ _ _ _ _ c.loop-k.invariant.counted c.loop-k-test.true _ _ _ ((let it : have_at c.args.bytes.now c.loop-k.next ≡ Ok (c.in-Ok.sync, c.in-Ok.filter, c.in-Ok.after) = sym c.parse_have-have.ensures ∙ c.in-Ok.is in it)) in
    let e = ends_there _ _ _ _ _ _ _ _ c.loop-k.invariant.counted c.loop-k-test.true _ _ _ ((let it : have_at c.args.bytes.now c.loop-k.next ≡ Ok (c.in-Ok.sync, c.in-Ok.filter, c.in-Ok.after) = sym c.parse_have-have.ensures ∙ c.in-Ok.is in it)) in
    omega (arith, n, e, c.well_formed)

pub overflow_sub-behind : goal.overflow_sub-behind
overflow_sub-behind c =
    number_fits _ _ _ _ _ _ _ _ c.loop-k.invariant.counted c.loop-k-test.true _ _ _ ((let it : have_at c.args.bytes.now c.loop-k.next ≡ Ok (c.in-Ok.sync, c.in-Ok.filter, c.in-Ok.after) = sym c.parse_have-have.ensures ∙ c.in-Ok.is in it))

pub put_have-requires : goal.put_have-requires
put_have-requires c = (let it : have_words * c.loop-k.k + have_words ≤ length c.loop-k.out = putting_fits _ _ _ _ _ _ _ _ c.loop-k.invariant.put c.loop-k-test.true _ _ (have_item_lem _ _ _ _ _ ((let it : have_at c.args.bytes.now c.loop-k.next ≡ Ok (c.in-Ok.sync, c.in-Ok.filter, c.in-Ok.after) = sym c.parse_have-have.ensures ∙ c.in-Ok.is in it))) refl (omega arith) in it)

pub overflow_add-sum : goal.overflow_add-sum
overflow_add-sum c =
    let n = sum_fits _ _ _ _ _ _ _ _ c.loop-k.invariant.counted c.loop-k-test.true _ _ _ ((let it : have_at c.args.bytes.now c.loop-k.next ≡ Ok (c.in-Ok.sync, c.in-Ok.filter, c.in-Ok.after) = sym c.parse_have-have.ensures ∙ c.in-Ok.is in it)) in
    let e = ends_there _ _ _ _ _ _ _ _ c.loop-k.invariant.counted c.loop-k-test.true _ _ _ ((let it : have_at c.args.bytes.now c.loop-k.next ≡ Ok (c.in-Ok.sync, c.in-Ok.filter, c.in-Ok.after) = sym c.parse_have-have.ensures ∙ c.in-Ok.is in it)) in
    omega (arith, n, e, c.well_formed)

pub returns-in-Err : goal.returns-in-Err
returns-in-Err c =
    absurd (putting_refused _ _ _ _ _ _ _ _ c.loop-k.invariant.put c.loop-k-test.true _ (have_stopped _ _ _ (sym c.parse_have-have.ensures ∙ c.in-Err.is)))

pub loop-k-preserved : goal.loop-k-preserved
loop-k-preserved c =
    record {
      put =
          putting_on _ _ _ _ _ _ _ _ c.loop-k.invariant.put c.loop-k-test.true _ _ (have_item_lem _ _ _ _ _ ((let it : have_at c.args.bytes.now c.loop-k.next ≡ Ok (c.in-Ok.sync, c.in-Ok.filter, c.in-Ok.after) = sym c.parse_have-have.ensures ∙ c.in-Ok.is in it))) refl _ c.put_have.ensures;
      counted = counting_on _ _ _ _ _ _ _ _ c.loop-k.invariant.counted c.loop-k-test.true _ _ _ ((let it : have_at c.args.bytes.now c.loop-k.next ≡ Ok (c.in-Ok.sync, c.in-Ok.filter, c.in-Ok.after) = sym c.parse_have-have.ensures ∙ c.in-Ok.is in it));
    }

pub returns : goal.returns
returns c =
    let n = counting_ends _ _ _ _ _ _ _ _ c.loop-k.invariant.counted c.loop-k-test.false in
    record { words = putting_ends _ _ _ _ _ _ _ _ c.loop-k.invariant.put c.loop-k-test.false; numbers = n.0; sum = n.1 }
