-- `message_size::size::hashes_size` meets its contract: a count has at most ten bytes. Assumes nothing.
use native.Mathlib.Omega.{arith}
use Rattle.message_size.proofs.SizeLaws.{ten}
use Rattle.message_size.proofs.size.hashes_size.Goals as goal

pub overflow_add-result : goal.overflow_add-result
overflow_add-result c = omega (arith, c.unsigned_size.ensures, ten c.args.count (omega (arith, c.requires)))
