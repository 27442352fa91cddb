-- `pick::check::some_goes` meets its contract: at each row none before it goes, whatever list the marks are of (AloneLaws). Assumes nothing.
use Rattle.pick.proofs.AloneLaws.{NoneGoes}
use Rattle.pick.proofs.check.some_goes.Given as goal

abbrev pub invariant-loop-i : goal.invariant-loop-i
invariant-loop-i l =
    NoneGoes l.table l.n l.row_sizes l.budget l.listed l.i
