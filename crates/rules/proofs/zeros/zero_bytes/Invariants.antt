-- `rules::zeros::zero_bytes` meets its contract: the bytes that were joined are all 0 if what they are joined in is. Assumes nothing.
use mathlib.Core.Path.{◌≡◌}
use lib.Dec.{eqb}
use Rattle.rules.specs.Zeros.{bytes_at, zeros}
use Rattle.rules.proofs.zeros.zero_bytes.Given as goal

abbrev pub invariant-loop-byte : goal.invariant-loop-byte
invariant-loop-byte l = eqb l.any 0 ≡ zeros (bytes_at l.bytes l.at l.byte-index)
