-- `receive::receive::receive_checked` meets its contract: the tests passed, so each part is counted, all is decided, and what is taken is put.
-- Assumes nothing.
use Prim.Native.Nat.{ℕ}
use mathlib.Core.Path.{refl, sym, ◌∙◌}
use lib.ListN.{length-replicate}
use mathlib.Core.Bool.{false}
use Rattle.rules.specs.Sizes.{sizes}
use Rattle.receive_make.specs.Internal.ReceiveMake.{words_room}
use Rattle.receive.proofs.CallLaws.{can_mark, can_make, can_count, is_small, left_called, can_share, can_hear, can_trim, taken_called}
use borrow.Author.Rules.{rules}
use Rattle.receive.proofs.receive.receive_checked.Goals as goal

pub mark_known-all-requires : goal.mark_known-all-requires
mark_known-all-requires c = can_mark _ _ _ _ _ _ _ _ c.requires

pub count_received-counts-requires : goal.count_received-counts-requires
count_received-counts-requires c = (
  can_make _ _ _ _ _ _ _ _ c.requires _ c.take_flags-flagged.ensures,
  can_count _ _ _ _ _ _ _ _ c.requires _ c.take_flags-flagged.ensures _ _ c.mark_known-all.ensures c.mark_known-all.auto.marks,
  length-replicate {A = ℕ} words_room 0,
)

pub decide-received-requires : goal.decide-received-requires
decide-received-requires c =
    is_small _ _ _ _ _ _ _ _ c.requires _ c.take_flags-flagged.ensures _ _ c.mark_known-all.ensures _ c.loads_changes-loads.ensures _ _ c.count_received-counts.ensures

pub returns-then-not-taken : goal.returns-then-not-taken
returns-then-not-taken c =
    left_called _ _ _ _ _ _ _ _ c.requires _ c.take_flags-flagged.ensures _ _ c.mark_known-all.ensures _ c.loads_changes-loads.ensures _ _ c.count_received-counts.ensures c.args.loaded _ _ c.load_failed.ensures c.decide-received.ensures (sym c.taken.ensures ∙ c.if-not-taken.true)

pub put_shared-requires : goal.put_shared-requires
put_shared-requires c =
    can_share _ _ _ _ _ _ _ _ c.requires _ c.take_flags-flagged.ensures _ _ c.mark_known-all.ensures _ c.loads_changes-loads.ensures _ _ c.count_received-counts.ensures c.args.loaded _ _ c.load_failed.ensures c.decide-received.ensures (sym c.taken.ensures ∙ c.if-not-taken.false) (λ i. (c.type_inv.message i).fits)

pub put_heard-requires : goal.put_heard-requires
put_heard-requires c =
    can_hear _ _ _ _ _ _ _ _ c.requires _ c.take_flags-flagged.ensures _ _ c.mark_known-all.ensures _ c.loads_changes-loads.ensures _ _ c.count_received-counts.ensures c.args.loaded _ _ c.load_failed.ensures c.decide-received.ensures (sym c.taken.ensures ∙ c.if-not-taken.false) (λ i. (c.type_inv.message i).fits)

pub slice_bounds-trim_left-end : goal.slice_bounds-trim_left-end
slice_bounds-trim_left-end c = sym (c.mark_known-all.auto.marks ∙ length-replicate sizes.rows false)

pub trim_left-requires : goal.trim_left-requires
trim_left-requires c =
    ((can_mark _ _ _ _ _ _ _ _ c.requires).0, (can_count _ _ _ _ _ _ _ _ c.requires _ c.take_flags-flagged.ensures _ _ c.mark_known-all.ensures c.mark_known-all.auto.marks).long, can_trim _ _ _ _ _ _ _ _ c.requires _ c.take_flags-flagged.ensures _ _ c.mark_known-all.ensures _ c.loads_changes-loads.ensures _ _ c.count_received-counts.ensures c.args.loaded _ _ c.load_failed.ensures c.decide-received.ensures (sym c.taken.ensures ∙ c.if-not-taken.false) _ c.kept_hashes-keeps.ensures c.args.sent.now refl)

pub returns : goal.returns
returns c =
    taken_called _ _ _ _ _ _ _ _ c.requires _ c.take_flags-flagged.ensures _ _ c.mark_known-all.ensures _ c.loads_changes-loads.ensures _ _ c.count_received-counts.ensures c.args.loaded _ _ c.load_failed.ensures c.decide-received.ensures (sym c.taken.ensures ∙ c.if-not-taken.false) _ c.kept_hashes-keeps.ensures
    (λ i. (c.type_inv.message i).fits) (λ i. search rules)
    c.put_shared.ensures c.put_heard.ensures c.trim_left.ensures
