-- `bloom::have::passed_good` meets its contract: the haves from record i on decide what all of them do. Assumes nothing.
use mathlib.Core.Path.{◌≡◌}
use Rattle.bloom.specs.Have.{passed_good}
use Rattle.bloom.proofs.HaveLaws.{testing}
use Rattle.bloom.proofs.have.passed_good.Given as goal

abbrev pub invariant-loop-i : goal.invariant-loop-i
invariant-loop-i l = testing l.bytes l.haves l.total l.i ≡ passed_good l.bytes l.haves
