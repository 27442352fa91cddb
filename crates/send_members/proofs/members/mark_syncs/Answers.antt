-- `send_members::members::mark_syncs` meets its contract: the marks that were, with the lists that are left, are the marks of all lists. Assumes
-- nothing.
use mathlib.Core.Bool.{false}
use mathlib.Core.Path.{refl, sym, ◌∙◌}
use native.Mathlib.Omega.{arith}
use lib.ListN.{get_or}
use Rattle.send_members.proofs.MemberLaws.{syncs_start, syncs_on, syncs_done}
use Rattle.send_members.proofs.members.mark_syncs.Goals as goal

pub loop-k-init : goal.loop-k-init
loop-k-init c = λ k h. syncs_start _ _ _ refl _ _ (c.requires.3.each k h)

pub loop-k-preserved : goal.loop-k-preserved
loop-k-preserved c =
    λ k h.
    syncs_on _ _ _ _ _ _ _ (get_or c.loop-k.marks k false) _ (omega arith)
    c.sync_place-place.ensures
    c.sync_count-count.ensures
    (c.mark_list.ensures.each k h)
    ∙ c.loop-k.invariant k h

pub returns : goal.returns
returns c = record { each = λ k h. sym (syncs_done _ _ _ _ _ _ c.loop-k-test.false) ∙ c.loop-k.invariant k h }
