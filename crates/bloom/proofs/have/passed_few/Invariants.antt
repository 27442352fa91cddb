-- `bloom::have::passed_few` meets its contract: the haves from record i on decide what all of them do. Assumes nothing.
use mathlib.Core.Path.{◌≡◌}
use Rattle.bloom.specs.Have.{passed_few}
use Rattle.bloom.proofs.HaveLaws.{counting}
use Rattle.bloom.proofs.have.passed_few.Given as goal

abbrev pub invariant-loop-i : goal.invariant-loop-i
invariant-loop-i l = counting l.haves l.total l.i ≡ passed_few l.haves
