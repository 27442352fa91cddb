-- `message_write::put::put_haves` meets its contract: what is put and the haves from record i on are together all of them. Assumes nothing.
use Prim.Native.Nat.{◌+◌, ◌≤◌}
use mathlib.Core.Path.{refl}
use native.Mathlib.Omega.{arith}
use lib.ListN.{length}
use Rattle.bloom.specs.Have.{have_count}
use Rattle.message_write.proofs.PutLaws.{next_on, counted_long, counted_put, haves_left, haves_left_lem, haves_room, haves_none, haves_counted}
use Rattle.message_write.proofs.put.put_haves.Goals as goal

pub put_unsigned-place-requires : goal.put_unsigned-place-requires
put_unsigned-place-requires c =
    omega (arith, c.requires.1, counted_long _ _ _ (haves_counted c.args.bytes.now c.args.haves.now (have_count c.args.haves.now) refl))

pub put_have-place-requires : goal.put_have-place-requires
put_have-place-requires c = (
  (c.requires.0, c.loop-i-test.true),
  haves_room _ _ _ _ _ _ _ _ _ c.loop-i-test.true c.loop-i.invariant (omega (
    arith,
    (let it : c.put_unsigned-place.result + length (haves_left c.args.bytes.now c.args.haves.now (have_count c.args.haves.now) 0) ≤ length c.args.out.now = omega (
      arith,
      c.requires.1,
      counted_long _ _ _ (haves_counted c.args.bytes.now c.args.haves.now (have_count c.args.haves.now) refl),
      c.put_unsigned-place.ensures.place,
    ) in it),
    c.put_unsigned-place.auto.out,
  )),
)

pub loop-i-preserved : goal.loop-i-preserved
loop-i-preserved c =
    next_on _ _ _ _ _ _ _ _ (haves_left_lem _ _ _ _ c.loop-i-test.true) c.loop-i.invariant _ _ c.put_have-place.ensures

pub returns : goal.returns
returns c =
    counted_put _ _ _ _ _ _ _ _ _ _ (haves_counted _ _ _ refl) c.put_unsigned-place.ensures (haves_none _ _ _ _ c.loop-i-test.false) c.loop-i.invariant
