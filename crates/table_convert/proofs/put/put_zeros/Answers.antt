-- `table_convert::put::put_zeros` meets its contract: a part of the buffer that is filled, between what is before it and what is after it, is the
-- zeros put one after the other. Assumes nothing.
use native.Mathlib.Omega.{arith}
use lib.Seq.{sets-eq}
use Rattle.std.proofs.lemmas.Grind.{common_steps}
use Rattle.table_convert.proofs.put.put_zeros.Goals as goal

pub returns : goal.returns
returns c = grind (arith, common_steps, sets-eq)
