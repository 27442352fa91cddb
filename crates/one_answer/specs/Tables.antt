-- Calls over tables, the hashes to send, settings, counts, tables that are salvaged, and picks. 01, How tightly the statements bind.
use Rattle.one_answer.specs.Binds.{Binds}
use Rattle.table_check.specs.contracts.check.check_alone as of-check-alone
use Rattle.table_check.proofs.check.check_alone.Reads as reads-check-alone
use Rattle.table_check.specs.contracts.check.check_indexed as of-check-indexed
use Rattle.table_check.proofs.check.check_indexed.Reads as reads-check-indexed
use Rattle.table_index_build.specs.contracts.build.build_index as of-build-index
use Rattle.table_index_build.proofs.build.build_index.Reads as reads-build-index
use Rattle.table_index_build.specs.contracts.build.extend_index as of-extend-index
use Rattle.table_index_build.proofs.build.extend_index.Reads as reads-extend-index
use Rattle.table_convert.specs.contracts.convert.widen_rows as of-widen-rows
use Rattle.table_convert.proofs.convert.widen_rows.Reads as reads-widen-rows
use Rattle.table_convert.specs.contracts.convert.narrow_rows as of-narrow-rows
use Rattle.table_convert.proofs.convert.narrow_rows.Reads as reads-narrow-rows
use Rattle.counts.specs.contracts.count.count_capture as of-count-capture
use Rattle.counts.proofs.count.count_capture.Reads as reads-count-capture
use Rattle.counts.specs.contracts.totals.add_counts as of-add-counts
use Rattle.counts.proofs.totals.add_counts.Reads as reads-add-counts
use Rattle.salvage.specs.contracts.salvage.salvage_table as of-salvage-table
use Rattle.salvage.proofs.salvage.salvage_table.Reads as reads-salvage-table
use Rattle.pick.specs.contracts.check.check_pick as of-check-pick
use Rattle.pick.proofs.check.check_pick.Reads as reads-check-pick
use Rattle.pick.specs.contracts.pick.pick as of-pick
use Rattle.pick.proofs.pick.pick.Reads as reads-pick
use Rattle.settings.specs.contracts.append.append_setting as of-append-setting
use Rattle.settings.proofs.append.append_setting.Reads as reads-append-setting
use Rattle.settings.specs.contracts.check.check_settings as of-check-settings
use Rattle.settings.proofs.check.check_settings.Reads as reads-check-settings
use Rattle.settings.specs.contracts.choice.allowed as of-allowed
use Rattle.settings.proofs.choice.allowed.Reads as reads-allowed
use Rattle.settings.specs.contracts.choice.crate_choice as of-crate-choice
use Rattle.settings.proofs.choice.crate_choice.Reads as reads-crate-choice
use Rattle.settings.specs.contracts.find.setting_at as of-setting-at
use Rattle.settings.proofs.find.setting_at.Reads as reads-setting-at
use Rattle.waiting.specs.contracts.check.check_tables as of-check-tables
use Rattle.waiting.proofs.check.check_tables.Reads as reads-check-tables
use Rattle.table_graph.specs.contracts.beyond.beyond as of-beyond
use Rattle.table_graph.proofs.beyond.beyond.Reads as reads-beyond
use Rattle.table_graph.specs.contracts.heads.heads as of-heads
use Rattle.table_graph.proofs.heads.heads.Reads as reads-heads
use Rattle.waiting_missing.specs.contracts.missing.missing as of-missing
use Rattle.waiting_missing.proofs.missing.missing.Reads as reads-missing
use Rattle.send.specs.contracts.to_send.get_hashes_to_send as of-get-hashes-to-send
use Rattle.send.proofs.to_send.get_hashes_to_send.Reads as reads-get-hashes-to-send
use Rattle.send_records.specs.contracts.summary.summary_in as of-summary-in
use Rattle.send_records.proofs.summary.summary_in.Reads as reads-summary-in

-- Tables, their index, what waits, what is computed over them, settings, counts, tables that are salvaged, and picks.
pub record TablesBind : Type 0 where
  -- the crate table_check
  pub check_alone : Binds of-check-alone.ended reads-check-alone.Post
  pub check_indexed : Binds of-check-indexed.ended reads-check-indexed.Post
  -- the crate table_index_build
  pub build_index : Binds of-build-index.ended reads-build-index.Post
  pub extend_index : Binds of-extend-index.ended reads-extend-index.Post
  -- the crate table_convert
  pub widen_rows : Binds of-widen-rows.ended reads-widen-rows.Post
  pub narrow_rows : Binds of-narrow-rows.ended reads-narrow-rows.Post
  -- the crate waiting
  pub check_tables : Binds of-check-tables.ended reads-check-tables.Post
  -- the crate table_graph
  pub beyond : Binds of-beyond.ended reads-beyond.Post
  pub heads : Binds of-heads.ended reads-heads.Post
  -- the crate waiting_missing
  pub missing : Binds of-missing.ended reads-missing.Post
  -- the crate send
  pub get_hashes_to_send : Binds of-get-hashes-to-send.ended reads-get-hashes-to-send.Post
  -- the crate send_records
  pub summary_in : Binds of-summary-in.ended reads-summary-in.Post
  -- the crate settings
  pub crate_choice : Binds of-crate-choice.ended reads-crate-choice.Post
  pub allowed : Binds of-allowed.ended reads-allowed.Post
  pub check_settings : Binds of-check-settings.ended reads-check-settings.Post
  pub setting_at : Binds of-setting-at.ended reads-setting-at.Post
  pub append_setting : Binds of-append-setting.ended reads-append-setting.Post
  -- the crate counts
  pub count_capture : Binds of-count-capture.ended reads-count-capture.Post
  pub add_counts : Binds of-add-counts.ended reads-add-counts.Post
  -- the crate salvage
  pub salvage_table : Binds of-salvage-table.ended reads-salvage-table.Post
  -- the crate pick
  pub check_pick : Binds of-check-pick.ended reads-check-pick.Post
  pub pick : Binds of-pick.ended reads-pick.Post
