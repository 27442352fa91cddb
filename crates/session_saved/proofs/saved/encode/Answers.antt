-- `session_saved::saved::encode` meets its contract: the count is tested first, then the room, and then type byte, count and hashes are put one after
-- the other, which puts them at once. Assumes nothing.
use Prim.Native.Nat.{◌≤◌}
use mathlib.Core.Bool.{true}
use mathlib.Core.Path.{◌≡◌, sym, ◌∙◌}
use native.Mathlib.Omega.{arith}
use lib.ListN.{length-set}
use Rattle.rules.specs.Hash.{Bytes}
use Rattle.rules.proofs.Outputs.{refused}
use Rattle.leb128.proofs.Number.{shortest_ten}
use Rattle.session_check.specs.SessionGood.{list_good}
use Rattle.session_check.proofs.GoodSessions.{list_parts}
use Rattle.session_saved.proofs.SavedLaws.{prefix_long, state_bad, state_no_room, state_written}
use Rattle.session_saved.proofs.saved.encode.Goals as goal

pub returns-then-not-list_good : goal.returns-then-not-list_good
returns-then-not-list_good c = rw (state_bad _ _ (sym c.list_good.ensures ∙ c.if-not-list_good.true)) (refused _ _)

pub overflow_add-size : goal.overflow_add-size
overflow_add-size c = omega (arith, (let it : c.unsigned_size.result ≤ 10 = rw c.unsigned_size.ensures (shortest_ten c.args.count c.ranges.count.fits) in it))

pub overflow_mul-size : goal.overflow_mul-size
overflow_mul-size c = omega (arith, (list_parts _ _ ((let it : list_good c.args.shared.now c.args.count ≡ true = sym c.list_good.ensures ∙ c.if-not-list_good.false in it))).few)

pub overflow_add-size-2 : goal.overflow_add-size-2
overflow_add-size-2 c = omega (arith, (let it : c.unsigned_size.result ≤ 10 = rw c.unsigned_size.ensures (shortest_ten c.args.count c.ranges.count.fits) in it), (list_parts _ _ ((let it : list_good c.args.shared.now c.args.count ≡ true = sym c.list_good.ensures ∙ c.if-not-list_good.false in it))).few)

pub returns-then-out-size : goal.returns-then-out-size
returns-then-out-size c =
    state_no_room _ _ ((let it : Bytes c.args.shared.now = λ i. (c.type_inv.shared i).fits in it)) ((let it : list_good c.args.shared.now c.args.count ≡ true = sym c.list_good.ensures ∙ c.if-not-list_good.false in it)) _ c.unsigned_size.ensures _ c.if-out-size.true

pub put_unsigned-at-requires : goal.put_unsigned-at-requires
put_unsigned-at-requires c = rw length-set (omega (arith, c.if-out-size.false, c.unsigned_size.ensures))

pub slice_bounds-copy_into-end : goal.slice_bounds-copy_into-end
slice_bounds-copy_into-end c =
    prefix_long _ _ ((let it : list_good c.args.shared.now c.args.count ≡ true = sym c.list_good.ensures ∙ c.if-not-list_good.false in it))

pub copy_into-requires : goal.copy_into-requires
copy_into-requires c =
    let long = prefix_long _ _ ((let it : list_good c.args.shared.now c.args.count ≡ true = sym c.list_good.ensures ∙ c.if-not-list_good.false in it)) in
    omega (arith, long, c.put_unsigned-at.ensures.place, c.if-out-size.false, c.unsigned_size.ensures, length-set c.args.out.now 0 67)

pub shape_of-out : goal.shape_of-out
shape_of-out c =
    c.copy_into.auto.out ∙ c.put_unsigned-at.auto.out ∙ length-set c.args.out.now 0 67

pub returns : goal.returns
returns c =
    state_written _ _ ((let it : Bytes c.args.shared.now = λ i. (c.type_inv.shared i).fits in it)) ((let it : list_good c.args.shared.now c.args.count ≡ true = sym c.list_good.ensures ∙ c.if-not-list_good.false in it)) _ c.unsigned_size.ensures _ _ _ _ c.if-out-size.false c.put_unsigned-at.ensures c.copy_into.ensures
