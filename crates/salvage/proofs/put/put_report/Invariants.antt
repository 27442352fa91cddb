-- `salvage::put::put_report` meets its contract: the buffer has the entries of the rows that were passed (PutLaws). Assumes nothing.
use mathlib.Core.Path.{◌≡◌}
use lib.ListN.{length}
use lib.Seq.{sets}
use Rattle.salvage.specs.Internal.Putting.{told_words}
use Rattle.salvage.proofs.put.put_report.Given as goal

abbrev pub invariant-loop-i : goal.invariant-loop-i
invariant-loop-i l =
    record {
      place : l.at ≡ length (told_words l.rules l.i);
      done : l.report ≡ sets l.initial.report 0 (told_words l.rules l.i);
    }
