-- `waiting::check::asks_count` meets its contract: the count is the byte behind the hash. Assumes nothing.
use Prim.Native.Nat.{◌+◌, ◌*◌}
use native.Mathlib.Omega.{arith}
use borrow.Author.Rules.{rules}
use Rattle.rules.specs.Sizes.{sizes}
use Rattle.waiting.specs.WaitingBytes.{waiting_size, asks_count_of}
use Rattle.waiting.proofs.check.asks_count.Goals as goal

pub overflow_cast-result : goal.overflow_cast-result
overflow_cast-result c = omega (arith, (c.type_inv.waiting (c.args.i * waiting_size + sizes.hash)).fits)

pub returns : goal.returns
unfolding asks_count_of
returns c = search rules
