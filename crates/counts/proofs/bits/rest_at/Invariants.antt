-- `counts::bits::rest_at` meets its contract: a byte more is the number times 256 and that byte, and fewer than eight bytes fit. Assumes nothing.
use mathlib.Core.Path.{◌≡◌}
use lib.ListN.{take}
use Rattle.rules.specs.Hash.{big_endian}
use Rattle.counts.proofs.bits.rest_at.Given as goal

abbrev pub invariant-loop-byte : goal.invariant-loop-byte
invariant-loop-byte l = l.word ≡ big_endian (take l.byte-index l.byte-items)
