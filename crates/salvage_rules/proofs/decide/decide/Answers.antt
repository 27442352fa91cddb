-- `salvage_rules::decide::decide` meets its contract: the order of all rows gives the classes, and with no class taken rows are decided from the first
-- on. Assumes nothing.
use native.Mathlib.Omega.{arith}
use Rattle.salvage_rules.proofs.ClassLaws.{ordered}
use Rattle.salvage_rules.proofs.DecideLaws.{taken_start}
use Rattle.salvage_rules.proofs.decide.decide.Goals as goal

pub build_by_rows-requires : goal.build_by_rows-requires
build_by_rows-requires c =
    (rw c.row_size.ensures c.requires.0, omega (arith, c.row_size.ensures), omega (arith, c.requires.1), c.requires.1)

pub put_classes-requires : goal.put_classes-requires
put_classes-requires c =
    (ordered _ _ _ _ _ c.row_size.ensures c.requires.0 (omega (arith, c.requires.1)) c.build_by_rows.ensures, omega (arith, c.requires.1), c.requires.1)

pub decide_rows-requires : goal.decide_rows-requires
decide_rows-requires c =
    (c.requires.0, c.requires.1, omega (arith, c.requires.1), omega (arith, c.requires.1), c.requires.2, c.requires.3, c.put_classes.ensures, taken_start _ _ _ _ c.put_classes.ensures _ c.requires.1)
