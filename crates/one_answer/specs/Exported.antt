-- The exported calls, and what makes their words. 01, How tightly the statements bind.
use Rattle.one_answer.specs.Binds.{Binds}
use Rattle.call_words.specs.contracts.answer.refusal_words as of-refusal-words
use Rattle.call_words.proofs.answer.refusal_words.Reads as reads-refusal-words
use Rattle.call_words.specs.contracts.answer.write_words as of-write-words
use Rattle.call_words.proofs.answer.write_words.Reads as reads-write-words
use Rattle.call_words.specs.contracts.words.session_words as of-session-words
use Rattle.call_words.proofs.words.session_words.Reads as reads-session-words
use Rattle.call_words.specs.contracts.words.session_of as of-session-of
use Rattle.call_words.proofs.words.session_of.Reads as reads-session-of
use Rattle.wire_calls.specs.contracts.calls.bt_read_number as of-bt-read-number
use Rattle.wire_calls.proofs.calls.bt_read_number.Reads as reads-bt-read-number
use Rattle.wire_calls.specs.contracts.calls.bt_read_filter_number as of-bt-read-filter-number
use Rattle.wire_calls.proofs.calls.bt_read_filter_number.Reads as reads-bt-read-filter-number
use Rattle.wire_calls.specs.contracts.calls.bt_read_prefixed as of-bt-read-prefixed
use Rattle.wire_calls.proofs.calls.bt_read_prefixed.Reads as reads-bt-read-prefixed
use Rattle.wire_calls.specs.contracts.calls.bt_read_hashes as of-bt-read-hashes
use Rattle.wire_calls.proofs.calls.bt_read_hashes.Reads as reads-bt-read-hashes
use Rattle.wire_calls.specs.contracts.calls.bt_write_number as of-bt-write-number
use Rattle.wire_calls.proofs.calls.bt_write_number.Reads as reads-bt-write-number
use Rattle.wire_calls.specs.contracts.calls.bt_write_prefixed as of-bt-write-prefixed
use Rattle.wire_calls.proofs.calls.bt_write_prefixed.Reads as reads-bt-write-prefixed
use Rattle.wire_calls.specs.contracts.calls.bt_write_hashes as of-bt-write-hashes
use Rattle.wire_calls.proofs.calls.bt_write_hashes.Reads as reads-bt-write-hashes
use Rattle.wire_calls.specs.contracts.limits.bt_limits as of-bt-limits
use Rattle.wire_calls.proofs.limits.bt_limits.Reads as reads-bt-limits
use Rattle.wire_calls.specs.contracts.answer.number_words as of-number-words
use Rattle.wire_calls.proofs.answer.number_words.Reads as reads-number-words
use Rattle.wire_calls.specs.contracts.answer.prefixed_words as of-prefixed-words
use Rattle.wire_calls.proofs.answer.prefixed_words.Reads as reads-prefixed-words
use Rattle.wire_calls.specs.contracts.answer.hash_list_words as of-hash-list-words
use Rattle.wire_calls.proofs.answer.hash_list_words.Reads as reads-hash-list-words
use Rattle.bloom_calls.specs.contracts.calls.bt_read_filter as of-bt-read-filter
use Rattle.bloom_calls.proofs.calls.bt_read_filter.Reads as reads-bt-read-filter
use Rattle.bloom_calls.specs.contracts.calls.bt_write_filter as of-bt-write-filter
use Rattle.bloom_calls.proofs.calls.bt_write_filter.Reads as reads-bt-write-filter
use Rattle.bloom_calls.specs.contracts.calls.bt_build_filter as of-bt-build-filter
use Rattle.bloom_calls.proofs.calls.bt_build_filter.Reads as reads-bt-build-filter
use Rattle.bloom_calls.specs.contracts.calls.bt_filters_contain as of-bt-filters-contain
use Rattle.bloom_calls.proofs.calls.bt_filters_contain.Reads as reads-bt-filters-contain
use Rattle.bloom_calls.specs.contracts.answer.filter_words as of-filter-words
use Rattle.bloom_calls.proofs.answer.filter_words.Reads as reads-filter-words
use Rattle.bloom_calls.specs.contracts.answer.contained_words as of-contained-words
use Rattle.bloom_calls.proofs.answer.contained_words.Reads as reads-contained-words
use Rattle.table_calls.specs.contracts.calls.bt_check_table as of-bt-check-table
use Rattle.table_calls.proofs.calls.bt_check_table.Reads as reads-bt-check-table
use Rattle.table_calls.specs.contracts.calls.bt_check_tables as of-bt-check-tables
use Rattle.table_calls.proofs.calls.bt_check_tables.Reads as reads-bt-check-tables
use Rattle.table_calls.specs.contracts.calls.bt_build_index as of-bt-build-index
use Rattle.table_calls.proofs.calls.bt_build_index.Reads as reads-bt-build-index
use Rattle.table_calls.specs.contracts.calls.bt_extend_index as of-bt-extend-index
use Rattle.table_calls.proofs.calls.bt_extend_index.Reads as reads-bt-extend-index
use Rattle.table_calls.specs.contracts.calls.bt_widen_rows as of-bt-widen-rows
use Rattle.table_calls.proofs.calls.bt_widen_rows.Reads as reads-bt-widen-rows
use Rattle.table_calls.specs.contracts.calls.bt_narrow_rows as of-bt-narrow-rows
use Rattle.table_calls.proofs.calls.bt_narrow_rows.Reads as reads-bt-narrow-rows
use Rattle.table_calls.specs.contracts.calls.bt_heads as of-bt-heads
use Rattle.table_calls.proofs.calls.bt_heads.Reads as reads-bt-heads
use Rattle.table_calls.specs.contracts.calls.bt_beyond as of-bt-beyond
use Rattle.table_calls.proofs.calls.bt_beyond.Reads as reads-bt-beyond
use Rattle.table_calls.specs.contracts.calls.bt_missing as of-bt-missing
use Rattle.table_calls.proofs.calls.bt_missing.Reads as reads-bt-missing
use Rattle.settings_calls.specs.contracts.calls.bt_check_settings as of-bt-check-settings
use Rattle.settings_calls.proofs.calls.bt_check_settings.Reads as reads-bt-check-settings
use Rattle.settings_calls.specs.contracts.calls.bt_setting_at as of-bt-setting-at
use Rattle.settings_calls.proofs.calls.bt_setting_at.Reads as reads-bt-setting-at
use Rattle.settings_calls.specs.contracts.calls.bt_append_setting as of-bt-append-setting
use Rattle.settings_calls.proofs.calls.bt_append_setting.Reads as reads-bt-append-setting
use Rattle.settings_calls.specs.contracts.answer.setting_words as of-setting-words
use Rattle.settings_calls.proofs.answer.setting_words.Reads as reads-setting-words
use Rattle.counts_calls.specs.contracts.calls.bt_count_capture as of-bt-count-capture
use Rattle.counts_calls.proofs.calls.bt_count_capture.Reads as reads-bt-count-capture
use Rattle.counts_calls.specs.contracts.calls.bt_add_counts as of-bt-add-counts
use Rattle.counts_calls.proofs.calls.bt_add_counts.Reads as reads-bt-add-counts
use Rattle.counts_calls.specs.contracts.answer.counted_words as of-counted-words
use Rattle.counts_calls.proofs.answer.counted_words.Reads as reads-counted-words
use Rattle.counts_calls.specs.contracts.answer.added_words as of-added-words
use Rattle.counts_calls.proofs.answer.added_words.Reads as reads-added-words
use Rattle.counts_calls.specs.contracts.answer.totals_of as of-totals-of
use Rattle.counts_calls.proofs.answer.totals_of.Reads as reads-totals-of
use Rattle.counts_calls.specs.contracts.answer.totals_after as of-totals-after
use Rattle.counts_calls.proofs.answer.totals_after.Reads as reads-totals-after
use Rattle.salvage_calls.specs.contracts.calls.bt_salvage as of-bt-salvage
use Rattle.salvage_calls.proofs.calls.bt_salvage.Reads as reads-bt-salvage
use Rattle.salvage_calls.specs.contracts.answer.salvage_words as of-salvage-words
use Rattle.salvage_calls.proofs.answer.salvage_words.Reads as reads-salvage-words
use Rattle.pick_calls.specs.contracts.calls.bt_check_pick as of-bt-check-pick
use Rattle.pick_calls.proofs.calls.bt_check_pick.Reads as reads-bt-check-pick
use Rattle.pick_calls.specs.contracts.calls.bt_pick as of-bt-pick
use Rattle.pick_calls.proofs.calls.bt_pick.Reads as reads-bt-pick
use Rattle.pick_calls.specs.contracts.answer.pick_words as of-pick-words
use Rattle.pick_calls.proofs.answer.pick_words.Reads as reads-pick-words
use Rattle.state_calls.specs.contracts.calls.bt_fresh as of-bt-fresh
use Rattle.state_calls.proofs.calls.bt_fresh.Reads as reads-bt-fresh
use Rattle.state_calls.specs.contracts.calls.bt_fresh_read_only as of-bt-fresh-read-only
use Rattle.state_calls.proofs.calls.bt_fresh_read_only.Reads as reads-bt-fresh-read-only
use Rattle.state_calls.specs.contracts.calls.bt_set_read_only as of-bt-set-read-only
use Rattle.state_calls.proofs.calls.bt_set_read_only.Reads as reads-bt-set-read-only
use Rattle.state_calls.specs.contracts.calls.bt_check_session as of-bt-check-session
use Rattle.state_calls.proofs.calls.bt_check_session.Reads as reads-bt-check-session
use Rattle.state_calls.specs.contracts.calls.bt_write_state as of-bt-write-state
use Rattle.state_calls.proofs.calls.bt_write_state.Reads as reads-bt-write-state
use Rattle.state_calls.specs.contracts.calls.bt_read_state as of-bt-read-state
use Rattle.state_calls.proofs.calls.bt_read_state.Reads as reads-bt-read-state
use Rattle.state_calls.specs.contracts.answer.good_words as of-good-words
use Rattle.state_calls.proofs.answer.good_words.Reads as reads-good-words
use Rattle.state_calls.specs.contracts.answer.saved_words as of-saved-words
use Rattle.state_calls.proofs.answer.saved_words.Reads as reads-saved-words
use Rattle.state_calls.specs.contracts.answer.saved_session as of-saved-session
use Rattle.state_calls.proofs.answer.saved_session.Reads as reads-saved-session
use Rattle.plan_calls.specs.contracts.calls.bt_plan as of-bt-plan
use Rattle.plan_calls.proofs.calls.bt_plan.Reads as reads-bt-plan
use Rattle.plan_calls.specs.contracts.plan_with.bt_plan_with as of-bt-plan-with
use Rattle.plan_calls.proofs.plan_with.bt_plan_with.Reads as reads-bt-plan-with
use Rattle.plan_calls.specs.contracts.plan_settled.bt_plan_settled as of-bt-plan-settled
use Rattle.plan_calls.proofs.plan_settled.bt_plan_settled.Reads as reads-bt-plan-settled
use Rattle.plan_calls.specs.contracts.plan_picked.bt_plan_picked as of-bt-plan-picked
use Rattle.plan_calls.proofs.plan_picked.bt_plan_picked.Reads as reads-bt-plan-picked
use Rattle.receive_calls.specs.contracts.calls.bt_receive as of-bt-receive
use Rattle.receive_calls.proofs.calls.bt_receive.Reads as reads-bt-receive
use Rattle.plan_calls.specs.contracts.answer.planned_words as of-planned-words
use Rattle.plan_calls.proofs.answer.planned_words.Reads as reads-planned-words
use Rattle.plan_calls.specs.contracts.answer.planned_session as of-planned-session
use Rattle.plan_calls.proofs.answer.planned_session.Reads as reads-planned-session
use Rattle.receive_calls.specs.contracts.answer.received_words as of-received-words
use Rattle.receive_calls.proofs.answer.received_words.Reads as reads-received-words
use Rattle.receive_calls.specs.contracts.answer.received_session as of-received-session
use Rattle.receive_calls.proofs.answer.received_session.Reads as reads-received-session
use Rattle.send_calls.specs.contracts.calls.bt_hashes_to_send as of-bt-hashes-to-send
use Rattle.send_calls.proofs.calls.bt_hashes_to_send.Reads as reads-bt-hashes-to-send
use Rattle.offer_calls.specs.contracts.calls.bt_offer as of-bt-offer
use Rattle.offer_calls.proofs.calls.bt_offer.Reads as reads-bt-offer
use Rattle.offer_calls.specs.contracts.answer.offer_words as of-offer-words
use Rattle.offer_calls.proofs.answer.offer_words.Reads as reads-offer-words
use Rattle.message_calls.specs.contracts.calls.bt_read_message as of-bt-read-message
use Rattle.message_calls.proofs.calls.bt_read_message.Reads as reads-bt-read-message
use Rattle.message_calls.specs.contracts.calls.bt_peek_heads as of-bt-peek-heads
use Rattle.message_calls.proofs.calls.bt_peek_heads.Reads as reads-bt-peek-heads
use Rattle.message_calls.specs.contracts.calls.bt_write_message as of-bt-write-message
use Rattle.message_calls.proofs.calls.bt_write_message.Reads as reads-bt-write-message
use Rattle.message_calls.specs.contracts.message_words.version_word as of-version-word
use Rattle.message_calls.proofs.message_words.version_word.Reads as reads-version-word
use Rattle.message_calls.specs.contracts.message_words.version_of as of-version-of
use Rattle.message_calls.proofs.message_words.version_of.Reads as reads-version-of
use Rattle.message_calls.specs.contracts.message_words.section_word as of-section-word
use Rattle.message_calls.proofs.message_words.section_word.Reads as reads-section-word
use Rattle.message_calls.specs.contracts.message_words.section_of as of-section-of
use Rattle.message_calls.proofs.message_words.section_of.Reads as reads-section-of
use Rattle.message_calls.specs.contracts.message_words.decoded_words as of-decoded-words
use Rattle.message_calls.proofs.message_words.decoded_words.Reads as reads-decoded-words
use Rattle.message_calls.specs.contracts.message_words.peeked_words as of-peeked-words
use Rattle.message_calls.proofs.message_words.peeked_words.Reads as reads-peeked-words

-- The exported calls, and the functions that turn answers into words.
pub record ExportedBind : Type 0 where
  -- the crate call_words
  pub refusal_words : Binds of-refusal-words.ended reads-refusal-words.Post
  pub write_words : Binds of-write-words.ended reads-write-words.Post
  pub session_words : Binds of-session-words.ended reads-session-words.Post
  pub session_of : Binds of-session-of.ended reads-session-of.Post
  -- the crate wire_calls
  pub bt_read_number : Binds of-bt-read-number.ended reads-bt-read-number.Post
  pub bt_read_filter_number : Binds of-bt-read-filter-number.ended reads-bt-read-filter-number.Post
  pub bt_read_prefixed : Binds of-bt-read-prefixed.ended reads-bt-read-prefixed.Post
  pub bt_read_hashes : Binds of-bt-read-hashes.ended reads-bt-read-hashes.Post
  pub bt_write_number : Binds of-bt-write-number.ended reads-bt-write-number.Post
  pub bt_write_prefixed : Binds of-bt-write-prefixed.ended reads-bt-write-prefixed.Post
  pub bt_write_hashes : Binds of-bt-write-hashes.ended reads-bt-write-hashes.Post
  pub bt_limits : Binds of-bt-limits.ended reads-bt-limits.Post
  pub number_words : Binds of-number-words.ended reads-number-words.Post
  pub prefixed_words : Binds of-prefixed-words.ended reads-prefixed-words.Post
  pub hash_list_words : Binds of-hash-list-words.ended reads-hash-list-words.Post
  -- the crate bloom_calls
  pub bt_read_filter : Binds of-bt-read-filter.ended reads-bt-read-filter.Post
  pub bt_write_filter : Binds of-bt-write-filter.ended reads-bt-write-filter.Post
  pub bt_build_filter : Binds of-bt-build-filter.ended reads-bt-build-filter.Post
  pub bt_filters_contain : Binds of-bt-filters-contain.ended reads-bt-filters-contain.Post
  pub filter_words : Binds of-filter-words.ended reads-filter-words.Post
  pub contained_words : Binds of-contained-words.ended reads-contained-words.Post
  -- the crate table_calls
  pub bt_check_table : Binds of-bt-check-table.ended reads-bt-check-table.Post
  pub bt_check_tables : Binds of-bt-check-tables.ended reads-bt-check-tables.Post
  pub bt_build_index : Binds of-bt-build-index.ended reads-bt-build-index.Post
  pub bt_extend_index : Binds of-bt-extend-index.ended reads-bt-extend-index.Post
  pub bt_widen_rows : Binds of-bt-widen-rows.ended reads-bt-widen-rows.Post
  pub bt_narrow_rows : Binds of-bt-narrow-rows.ended reads-bt-narrow-rows.Post
  pub bt_heads : Binds of-bt-heads.ended reads-bt-heads.Post
  pub bt_beyond : Binds of-bt-beyond.ended reads-bt-beyond.Post
  pub bt_missing : Binds of-bt-missing.ended reads-bt-missing.Post
  -- the crate settings_calls
  pub bt_check_settings : Binds of-bt-check-settings.ended reads-bt-check-settings.Post
  pub bt_setting_at : Binds of-bt-setting-at.ended reads-bt-setting-at.Post
  pub bt_append_setting : Binds of-bt-append-setting.ended reads-bt-append-setting.Post
  pub setting_words : Binds of-setting-words.ended reads-setting-words.Post
  -- the crate counts_calls
  pub bt_count_capture : Binds of-bt-count-capture.ended reads-bt-count-capture.Post
  pub bt_add_counts : Binds of-bt-add-counts.ended reads-bt-add-counts.Post
  pub counted_words : Binds of-counted-words.ended reads-counted-words.Post
  pub added_words : Binds of-added-words.ended reads-added-words.Post
  pub totals_of : Binds of-totals-of.ended reads-totals-of.Post
  pub totals_after : Binds of-totals-after.ended reads-totals-after.Post
  -- the crate salvage_calls
  pub bt_salvage : Binds of-bt-salvage.ended reads-bt-salvage.Post
  pub salvage_words : Binds of-salvage-words.ended reads-salvage-words.Post
  -- the crate pick_calls
  pub bt_pick : Binds of-bt-pick.ended reads-bt-pick.Post
  pub bt_check_pick : Binds of-bt-check-pick.ended reads-bt-check-pick.Post
  pub pick_words : Binds of-pick-words.ended reads-pick-words.Post
  -- the crate state_calls
  pub bt_fresh : Binds of-bt-fresh.ended reads-bt-fresh.Post
  pub bt_fresh_read_only : Binds of-bt-fresh-read-only.ended reads-bt-fresh-read-only.Post
  pub bt_set_read_only : Binds of-bt-set-read-only.ended reads-bt-set-read-only.Post
  pub bt_check_session : Binds of-bt-check-session.ended reads-bt-check-session.Post
  pub bt_write_state : Binds of-bt-write-state.ended reads-bt-write-state.Post
  pub bt_read_state : Binds of-bt-read-state.ended reads-bt-read-state.Post
  pub good_words : Binds of-good-words.ended reads-good-words.Post
  pub saved_words : Binds of-saved-words.ended reads-saved-words.Post
  pub saved_session : Binds of-saved-session.ended reads-saved-session.Post
  -- the crates plan_calls and receive_calls
  pub bt_plan : Binds of-bt-plan.ended reads-bt-plan.Post
  pub bt_plan_with : Binds of-bt-plan-with.ended reads-bt-plan-with.Post
  pub bt_plan_settled : Binds of-bt-plan-settled.ended reads-bt-plan-settled.Post
  pub bt_plan_picked : Binds of-bt-plan-picked.ended reads-bt-plan-picked.Post
  pub bt_receive : Binds of-bt-receive.ended reads-bt-receive.Post
  pub planned_words : Binds of-planned-words.ended reads-planned-words.Post
  pub planned_session : Binds of-planned-session.ended reads-planned-session.Post
  pub received_words : Binds of-received-words.ended reads-received-words.Post
  pub received_session : Binds of-received-session.ended reads-received-session.Post
  -- the crate send_calls
  pub bt_hashes_to_send : Binds of-bt-hashes-to-send.ended reads-bt-hashes-to-send.Post
  -- the crate offer_calls
  pub bt_offer : Binds of-bt-offer.ended reads-bt-offer.Post
  pub offer_words : Binds of-offer-words.ended reads-offer-words.Post
  -- the crate message_calls
  pub bt_read_message : Binds of-bt-read-message.ended reads-bt-read-message.Post
  pub bt_peek_heads : Binds of-bt-peek-heads.ended reads-bt-peek-heads.Post
  pub bt_write_message : Binds of-bt-write-message.ended reads-bt-write-message.Post
  pub version_word : Binds of-version-word.ended reads-version-word.Post
  pub version_of : Binds of-version-of.ended reads-version-of.Post
  pub section_word : Binds of-section-word.ended reads-section-word.Post
  pub section_of : Binds of-section-of.ended reads-section-of.Post
  pub decoded_words : Binds of-decoded-words.ended reads-decoded-words.Post
  pub peeked_words : Binds of-peeked-words.ended reads-peeked-words.Post
