-- `session_saved::saved::parse` meets its contract: one law for each of its tests. Assumes nothing.
use mathlib.Core.Path.{sym, ◌∙◌}
use Rattle.session_saved.proofs.SavedLaws.{state_empty, state_other, state_list}
use Rattle.session_saved.proofs.saved.parse.Goals as goal

pub returns-then-bytes-eq0 : goal.returns-then-bytes-eq0
returns-then-bytes-eq0 c = sym (state_empty _ c.if-bytes-eq0.true)

pub returns-then-record_type-ne-SYNC_STATE_TYPE : goal.returns-then-record_type-ne-SYNC_STATE_TYPE
returns-then-record_type-ne-SYNC_STATE_TYPE c = sym (state_other _ c.if-bytes-eq0.false c.if-record_type-ne-SYNC_STATE_TYPE.true)

pub returns : goal.returns
returns c =
    c.length_prefixed_hashes.ensures ∙ sym (state_list _ c.if-bytes-eq0.false c.if-record_type-ne-SYNC_STATE_TYPE.false)
