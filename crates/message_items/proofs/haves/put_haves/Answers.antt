-- `message_items::haves::put_haves` meets its contract: the words that were put and those of the items still to come make the list that all the words make.
-- The items were read before, so none of them is refused. Assumes nothing.
use Prim.Native.Nat.{◌+◌, ◌*◌, ◌≤◌}
use mathlib.Core.Path.{refl, sym, ◌∙◌}
use native.Mathlib.Omega.{arith}
use lib.ListN.{length}
use Rattle.bloom.specs.Have.{have_words}
use Rattle.message_items.proofs.ItemLaws.{have_stopped, have_item_lem, putting_ends, putting_refused, putting_fits, putting_on}
use Rattle.message_items.proofs.haves.put_haves.Goals as goal

pub overflow_mul-k : goal.overflow_mul-k
overflow_mul-k c = omega (
  arith,
  (let it : have_words * c.loop-k.k + have_words ≤ length c.loop-k.out = putting_fits _ _ _ _ _ _ _ _ c.loop-k.invariant c.loop-k-test.true _ _
      (have_item_lem _ _ _ _ _ (sym c.parse_have-have.ensures ∙ c.in-Ok.is))
      refl
      (omega arith) in it),
  c.loop-k.invariant.long,
)

pub put_have-requires : goal.put_have-requires
put_have-requires c = (let it : have_words * c.loop-k.k + have_words ≤ length c.loop-k.out = putting_fits _ _ _ _ _ _ _ _ c.loop-k.invariant c.loop-k-test.true _ _
    (have_item_lem _ _ _ _ _ (sym c.parse_have-have.ensures ∙ c.in-Ok.is))
    refl
    (omega arith) in it)

pub returns-in-Err : goal.returns-in-Err
returns-in-Err c =
    absurd (putting_refused _ _ _ _ _ _ _ _ c.loop-k.invariant c.loop-k-test.true _ (have_stopped _ _ _ (sym c.parse_have-have.ensures ∙ c.in-Err.is)))

pub loop-k-preserved : goal.loop-k-preserved
loop-k-preserved c =
    putting_on _ _ _ _ _ _ _ _ c.loop-k.invariant c.loop-k-test.true _ _
    (have_item_lem _ _ _ _ _ (sym c.parse_have-have.ensures ∙ c.in-Ok.is))
    refl
    _
    c.put_have.ensures

pub returns : goal.returns
returns c = putting_ends _ _ _ _ _ _ _ _ c.loop-k.invariant c.loop-k-test.false
