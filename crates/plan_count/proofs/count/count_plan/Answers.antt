-- `plan_count::count::count_plan` meets its contract: what each part asks for was tested before, and together they are the plan (CountLaws). Assumes
-- nothing.
use mathlib.Core.Path.{sym, ◌∙◌}
use native.Mathlib.Omega.{arith}
use Rattle.rules.proofs.Hash.{length_hashes_at}
use Rattle.plan_count.proofs.CountLaws.{body_unsent, have_good_lem, heads_good, shared_there, last_there, body_ready, counted_whole, body_few, sent_few_lem, pick_ready, plan_marked, draft_counted}
use Rattle.plan_count.proofs.GoingLaws.{passed_few_lem, going_few, going_small}
use Rattle.plan_count.proofs.count.count_plan.Goals as goal

pub mark_beyond-entries-requires : goal.mark_beyond-entries-requires
mark_beyond-entries-requires c =
    (c.requires.0, shared_there _ _ c.requires.0 c.requires.1, c.requires.2.have_long, c.requires.2.no_have)

pub unknown_sync-unknown-requires : goal.unknown_sync-unknown-requires
unknown_sync-unknown-requires c =
    (c.requires.0, have_good_lem _ _ c.requires.0 c.requires.1)

pub count_body-whole-requires : goal.count_body-whole-requires
count_body-whole-requires c =
    (body_ready _ _ c.requires.0 c.requires.1, c.requires.2.body, c.requires.2.fresh_long, c.requires.2.no_fresh)

pub pick_body-carried-requires : goal.pick_body-carried-requires
pick_body-carried-requires c =
    pick_ready _ _ c.requires.0 c.requires.1 _ c.heard_count.ensures c.requires.3
    (omega (arith, c.requires.2.body.row_marks, c.count_body-whole.auto.marks))
    (omega (arith, c.requires.2.body.need_marks, c.count_body-whole.auto.needs))
    (omega (arith, c.requires.2.fresh_long, c.count_body-whole.auto.fresh))

pub is_quiet-silent-requires : goal.is_quiet-silent-requires
is_quiet-silent-requires c =
    (c.requires.0, omega (arith, c.requires.2.head_long, c.mark_heads.auto.marks), last_there _ _ c.requires.0 c.requires.1, heads_good _ _ c.requires.0 c.requires.1)

pub shape_of-head_marks : goal.shape_of-head_marks
shape_of-head_marks c = c.mark_heads.auto.marks

pub shape_of-have_marks : goal.shape_of-have_marks
shape_of-have_marks c = c.mark_beyond-entries.auto.marks

pub shape_of-marks : goal.shape_of-marks
shape_of-marks c = omega (arith, c.count_body-whole.auto.marks, c.pick_body-carried.auto.marks)

pub shape_of-needs : goal.shape_of-needs
shape_of-needs c = omega (arith, c.count_body-whole.auto.needs, c.pick_body-carried.auto.needs)

pub shape_of-fresh : goal.shape_of-fresh
shape_of-fresh c = omega (arith, c.count_body-whole.auto.fresh, c.pick_body-carried.auto.fresh)

pub returns : goal.returns
returns c =
    let goes =
    c.pick_body-carried.ensures _ _ (length_hashes_at _ 0 _ ∙ sym c.heard_count.ensures) (counted_whole _ _ c.requires.0 c.requires.1 c.count_body-whole.ensures)
    (body_unsent _ _) in
    let short = passed_few_lem _ c.requires.3 in
    let few = going_few c.args.radio _ _ short (body_few _ _ c.requires.0 c.requires.1) in
    let small = going_small c.args.radio _ _ _ _ short goes c.requires.0.rows.few (sent_few_lem _ _ c.requires.0 c.requires.1) in (
      plan_marked _ _ c.requires.0 c.requires.1 c.args.asked (omega (arith, c.requires.2.head_long, c.mark_heads.auto.marks)) c.mark_heads.ensures c.count_marked-heads.ensures c.mark_beyond-entries.ensures
          c.unknown_sync-unknown.ensures goes few small c.nothing_goes.ensures c.is_quiet-silent.ensures,
      draft_counted _ _ c.requires.0 c.requires.1 c.args.asked (omega (arith, c.requires.2.head_long, c.mark_heads.auto.marks)) c.mark_heads.ensures c.count_marked-heads.ensures c.mark_beyond-entries.ensures
          c.unknown_sync-unknown.ensures goes few small c.nothing_goes.ensures c.is_quiet-silent.ensures,
    )
