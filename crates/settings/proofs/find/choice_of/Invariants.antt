-- `settings::find::choice_of` meets its contract: what the records from i on leave of the choice is what all leave of the first. Assumes nothing.
use mathlib.Core.Path.{◌≡◌}
use Rattle.settings.specs.Settings.{settings_at, choice_of}
use Rattle.settings.proofs.SettingLaws.{asking}
use Rattle.settings.proofs.find.choice_of.Given as goal

abbrev pub invariant-loop-i : goal.invariant-loop-i
invariant-loop-i l = asking l.settings l.station l.version l.n l.choice l.i ≡ choice_of (settings_at l.settings 0 l.n) l.station l.version
