-- `message_write::put::put_chunks` meets its contract: what is put and the chunks still to come are together all of them. Assumes nothing.
use Prim.Native.Nat.{◌+◌, ◌≤◌}
use mathlib.Core.Path.{◌≡◌}
use native.Mathlib.Omega.{arith}
use lib.ListN.{length, get_or, drop}
use Rattle.message.specs.Message.{total}
use Rattle.message_size.proofs.SizeLaws.{total_next}
use Rattle.message_write.proofs.PutLaws.{next_on, counted_long, counted_put, chunks_left, chunks_left_lem, chunks_room, chunks_none, chunks_counted}
use Rattle.message_write.proofs.put.put_chunks.Goals as goal

pub put_unsigned-place-requires : goal.put_unsigned-place-requires
put_unsigned-place-requires c =
    omega (arith, c.requires.1, counted_long _ _ _ (chunks_counted c.args.chunks.now c.args.lengths.now))

pub overflow_add-end : goal.overflow_add-end
overflow_add-end c = omega (arith, (let it : c.loop-n.start + get_or c.args.lengths.now c.loop-n.n-index 0 + total (drop (c.loop-n.n-index + 1) c.args.lengths.now) ≤ length c.args.chunks.now = omega (arith, c.loop-n.invariant.inside, total_next c.args.lengths.now c.loop-n.n-index c.loop-n-test.true) in it))

pub slice_bounds-put_chunk-end : goal.slice_bounds-put_chunk-end
slice_bounds-put_chunk-end c = omega (arith, (let it : c.loop-n.start + get_or c.args.lengths.now c.loop-n.n-index 0 + total (drop (c.loop-n.n-index + 1) c.args.lengths.now) ≤ length c.args.chunks.now = omega (arith, c.loop-n.invariant.inside, total_next c.args.lengths.now c.loop-n.n-index c.loop-n-test.true) in it))

pub put_chunk-place-requires : goal.put_chunk-place-requires
put_chunk-place-requires c =
    chunks_room _ _ _ _ _ _ _ _ _ c.loop-n-test.true c.loop-n.invariant.rest (omega (
      arith,
      (let it : c.put_unsigned-place.result + length (chunks_left c.args.chunks.now c.args.lengths.now 0 0) ≤ length c.args.out.now = omega (
        arith,
        c.requires.1,
        counted_long _ _ _ (chunks_counted c.args.chunks.now c.args.lengths.now),
        c.put_unsigned-place.ensures.place,
      ) in it),
      c.put_unsigned-place.auto.out,
    ))

pub loop-n-preserved : goal.loop-n-preserved
loop-n-preserved c =
    record {
      inside = omega (arith, (let it : c.loop-n.start + get_or c.args.lengths.now c.loop-n.n-index 0 + total (drop (c.loop-n.n-index + 1) c.args.lengths.now) ≤ length c.args.chunks.now = omega (arith, c.loop-n.invariant.inside, total_next c.args.lengths.now c.loop-n.n-index c.loop-n-test.true) in it));
      rest = next_on _ _ _ _ _ _ _ _ (chunks_left_lem _ _ _ _ c.loop-n-test.true) c.loop-n.invariant.rest _ _ c.put_chunk-place.ensures;
    }

pub returns : goal.returns
returns c =
    let all : c.loop-n.n-index ≡ length c.args.lengths.now = omega (arith, c.loop-n.auto.n-index-end, c.loop-n-test.false) in
    counted_put _ _ _ _ _ _ _ _ _ _ (chunks_counted _ _) c.put_unsigned-place.ensures (chunks_none _ _ _ _ all) c.loop-n.invariant.rest
