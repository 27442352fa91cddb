-- `settings::find::asked_next` meets its contract: one law for each test that decides. Assumes nothing.
use mathlib.Core.Path.{◌∙◌}
use Rattle.settings.proofs.SettingLaws.{not_station, not_yet, counted_one}
use Rattle.settings.proofs.find.asked_next.Goals as goal

pub returns-then-station_at-station : goal.returns-then-station_at-station
returns-then-station_at-station c = not_station _ _ _ _ _ _ c.station_at.ensures c.if-station_at-station.true

pub returns-then-version-version_at : goal.returns-then-version-version_at
returns-then-version-version_at c = not_yet _ _ _ _ _ _ _ c.station_at.ensures c.version_at.ensures c.if-station_at-station.false c.if-version-version_at.true

pub returns : goal.returns
returns c =
    c.choice_at.ensures ∙ counted_one _ _ _ _ _ _ _ c.station_at.ensures c.version_at.ensures c.if-station_at-station.false c.if-version-version_at.false
