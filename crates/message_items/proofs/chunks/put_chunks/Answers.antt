-- `message_items::chunks::put_chunks` meets its contract: the words that were put and those of the items still to come make the list that all the words make.
-- The items were read before, so none of them is refused. Assumes nothing.
use Prim.Native.Nat.{ℕ, suc, ◌+◌, ◌-◌, ◌*◌, ◌≤◌}
use mathlib.Core.List.{List, [], ◌∷◌}
use mathlib.Core.Path.{◌≡◌, refl, sym, ◌∙◌}
use native.Mathlib.Omega.{arith}
use lib.ListN.{length, set, length-set}
use lib.Seq.{sets}
use Rattle.wire.proofs.Item.{prefixed_inside}
use Rattle.message_items.proofs.ItemLaws.{chunk_stopped, chunk-item, putting_ends, putting_refused, putting_fits, putting_on}
use Rattle.message_items.proofs.chunks.put_chunks.Goals as goal

-- two words one after the other
two-put : (out : List ℕ) (i a b : ℕ) → set (set out i a) (i + 1) b ≡ sets out i (a ∷ b ∷ [])
two-put out i a b = let e : i + 1 ≡ suc i = omega arith in rw e

pub overflow_mul-at : goal.overflow_mul-at
overflow_mul-at c = omega (
  arith,
  (let it : 2 * c.loop-k.k + 2 ≤ length c.loop-k.out = putting_fits _ _ _ _ _ _ _ _ c.loop-k.invariant c.loop-k-test.true _ _
      (chunk-item _ _ _ _ (sym c.length_prefixed_bytes-chunk.ensures ∙ c.in-Ok.is))
      refl
      (omega arith) in it),
  c.loop-k.invariant.long,
)

pub offset_bounds-out-at : goal.offset_bounds-out-at
offset_bounds-out-at c = omega (
  arith,
  (let it : 2 * c.loop-k.k + 2 ≤ length c.loop-k.out = putting_fits _ _ _ _ _ _ _ _ c.loop-k.invariant c.loop-k-test.true _ _
      (chunk-item _ _ _ _ (sym c.length_prefixed_bytes-chunk.ensures ∙ c.in-Ok.is))
      refl
      (omega arith) in it),
  c.loop-k.invariant.long,
)

pub bounds-out-at : goal.bounds-out-at
bounds-out-at c = omega (
  arith,
  (let it : 2 * c.loop-k.k + 2 ≤ length c.loop-k.out = putting_fits _ _ _ _ _ _ _ _ c.loop-k.invariant c.loop-k-test.true _ _
      (chunk-item _ _ _ _ (sym c.length_prefixed_bytes-chunk.ensures ∙ c.in-Ok.is))
      refl
      (omega arith) in it),
)

pub overflow_sub-out : goal.overflow_sub-out
overflow_sub-out c =
    (prefixed_inside _ _ _ _ _ (sym c.length_prefixed_bytes-chunk.ensures ∙ c.in-Ok.is)).upward

pub overflow_add-out : goal.overflow_add-out
overflow_add-out c = omega (
  arith,
  (let it : 2 * c.loop-k.k + 2 ≤ length c.loop-k.out = putting_fits _ _ _ _ _ _ _ _ c.loop-k.invariant c.loop-k-test.true _ _
      (chunk-item _ _ _ _ (sym c.length_prefixed_bytes-chunk.ensures ∙ c.in-Ok.is))
      refl
      (omega arith) in it),
  c.loop-k.invariant.long,
)

pub offset_bounds-out-at-in-Ok : goal.offset_bounds-out-at-in-Ok
offset_bounds-out-at-in-Ok c = omega (
  arith,
  (let it : 2 * c.loop-k.k + 2 ≤ length c.loop-k.out = putting_fits _ _ _ _ _ _ _ _ c.loop-k.invariant c.loop-k-test.true _ _
      (chunk-item _ _ _ _ (sym c.length_prefixed_bytes-chunk.ensures ∙ c.in-Ok.is))
      refl
      (omega arith) in it),
  c.loop-k.invariant.long,
)

pub bounds-out-at-in-Ok : goal.bounds-out-at-in-Ok
bounds-out-at-in-Ok c = simp length-set (omega (
  arith,
  (let it : 2 * c.loop-k.k + 2 ≤ length c.loop-k.out = putting_fits _ _ _ _ _ _ _ _ c.loop-k.invariant c.loop-k-test.true _ _
      (chunk-item _ _ _ _ (sym c.length_prefixed_bytes-chunk.ensures ∙ c.in-Ok.is))
      refl
      (omega arith) in it),
))

pub returns-in-Err : goal.returns-in-Err
returns-in-Err c =
    absurd (putting_refused _ _ _ _ _ _ _ _ c.loop-k.invariant c.loop-k-test.true _ (chunk_stopped _ _ _ (sym c.length_prefixed_bytes-chunk.ensures ∙ c.in-Err.is)))

pub loop-k-preserved : goal.loop-k-preserved
loop-k-preserved c =
    putting_on _ _ _ _ _ _ _ _ c.loop-k.invariant c.loop-k-test.true _ _
    (chunk-item _ _ _ _ (sym c.length_prefixed_bytes-chunk.ensures ∙ c.in-Ok.is))
    refl
    _
    (two-put c.loop-k.out (2 * c.loop-k.k) c.in-Ok.place (c.in-Ok.end - c.in-Ok.place))

pub returns : goal.returns
returns c = putting_ends _ _ _ _ _ _ _ _ c.loop-k.invariant c.loop-k-test.false
