-- `salvage::salvage::salvage_table` meets its contract: 4 goes first; then what was decided is written (AnswerLaws). Assumes nothing.
use mathlib.Core.Path.{refl}
use native.Mathlib.Omega.{arith}
use Rattle.rules.specs.Sizes.{sizes}
use Rattle.salvage.proofs.AnswerLaws.{called_long, decided_ready}
use Rattle.salvage.proofs.salvage.salvage_table.Goals as goal

pub returns-then-table : goal.returns-then-table
returns-then-table c = called_long _ _ _ _ _ c.if-table.true

pub write_salvaged-requires : goal.write_salvaged-requires
write_salvaged-requires c =
    (decided_ready sizes.dependencies sizes.rows _ _ _ _ (omega arith) c.if-table.false (omega arith) (omega arith) c.decide-kept.ensures, refl, omega (arith, c.if-table.false), omega arith, c.if-table.false)
