-- `settings::check::first_bad` meets its contract: the first bad one of the records from i on is that of all, until record i is one or no record is left.
-- Assumes nothing.
use mathlib.Core.Path.{◌≡◌}
use Rattle.settings.specs.Settings.{version_before, setting_good}
use Rattle.table.proofs.CheckLaws.{testing}
use Rattle.table.specs.TableBytes.{first_bad}
use Rattle.settings.proofs.check.first_bad.Given as goal

abbrev pub invariant-loop-i : goal.invariant-loop-i
invariant-loop-i l =
    record {
      last : l.before ≡ version_before l.settings l.i;
      rest : testing (setting_good l.settings) l.n l.i ≡ first_bad (setting_good l.settings) 0 l.n;
    }
