-- `plan_parts::have::unknown_sync` meets its contract: where a have was heard, the first record's last-sync hashes decide. Assumes nothing.
use mathlib.Core.Path.{sym, ap, ◌∙◌}
use mathlib.Core.Bool.{not}
use Rattle.plan_parts.proofs.SyncLaws.{no_have_lem, first_record, first_there, first_decides}
use Rattle.plan_parts.proofs.have.unknown_sync.Goals as goal

pub returns-then-heard_count-eq0 : goal.returns-then-heard_count-eq0
returns-then-heard_count-eq0 c = no_have_lem _ _ _ _ (sym c.heard_count.ensures ∙ c.if-heard_count-eq0.true)

pub sync_place-requires : goal.sync_place-requires
sync_place-requires c =
    first_record _ _ _ c.requires.1 _ c.heard_count.ensures c.if-heard_count-eq0.false

pub sync_count-requires : goal.sync_count-requires
sync_count-requires c =
    first_record _ _ _ c.requires.1 _ c.heard_count.ensures c.if-heard_count-eq0.false

pub all_held-requires : goal.all_held-requires
all_held-requires c =
    (c.requires.0, first_there _ _ _ _ c.sync_place.ensures c.sync_count.ensures _ c.requires.1 _ c.heard_count.ensures c.if-heard_count-eq0.false)

pub returns : goal.returns
returns c =
    ap not c.all_held.ensures
    ∙ first_decides _ _ _ _ c.sync_place.ensures c.sync_count.ensures _ _ c.requires.1 _
    c.heard_count.ensures c.if-heard_count-eq0.false
