-- `message_write::put::put_chunks` meets its contract: what is put and the chunks still to come are together all of them. Assumes nothing.
use Prim.Native.Nat.{◌+◌, ◌≤◌}
use lib.ListN.{length, drop}
use Rattle.message.specs.Message.{total}
use Rattle.message_write.proofs.PutLaws.{Putting, chunks_left}
use Rattle.message_write.proofs.put.put_chunks.Given as goal

abbrev pub invariant-loop-n : goal.invariant-loop-n
invariant-loop-n l =
    record {
      inside : l.start + total (drop l.n-index l.lengths) ≤ length l.chunks;
      rest : Putting l.initial.out l.out l.initial.place l.place (chunks_left l.chunks l.lengths 0 0) (chunks_left l.chunks l.lengths l.start l.n-index);
    }
