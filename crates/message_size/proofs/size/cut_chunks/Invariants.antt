-- `message_size::size::cut_chunks` meets its contract: cutting the rest from where the last chunk ended is cutting all of them. Assumes nothing.
use Rattle.message_size.proofs.WriteLaws.{Cutting}
use Rattle.message_size.proofs.size.cut_chunks.Given as goal

abbrev pub invariant-loop-n : goal.invariant-loop-n
invariant-loop-n l = Cutting l.chunks l.lengths l.end l.numbers l.n-index
