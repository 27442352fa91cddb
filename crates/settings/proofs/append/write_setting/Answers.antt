-- `settings::append::write_setting` meets its contract: 7 goes first, before anything is put. Assumes nothing.
use mathlib.Core.Path.{sym, ap, ◌∙◌}
use Rattle.rules.proofs.Outputs.{written_bytes, no_room}
use Rattle.settings.proofs.HistoryLaws.{record-long}
use lib.Seq.{sets}
use Rattle.settings.proofs.append.write_setting.Goals as goal

pub returns-then-out-lt-SETTING_SIZE : goal.returns-then-out-lt-SETTING_SIZE
returns-then-out-lt-SETTING_SIZE c = no_room _ _ _ (sym (record-long _)) c.if-out-lt-SETTING_SIZE.true

pub returns : goal.returns
returns c =
    written_bytes _ _ _ _ (sym (record-long _)) c.if-out-lt-SETTING_SIZE.false (c.copy_into.ensures ∙ ap (sets _ 0) c.setting_bytes-bytes.ensures)
