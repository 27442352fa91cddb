-- `plan_count::carried::count_body` meets its contract: what was chosen is what goes in a message, its hashes are rows, and it stands beside what was sent
-- (CountLaws). Assumes nothing.
use native.Mathlib.Omega.{arith}
use Rattle.table_graph.proofs.MarkLaws.{blank_or}
use Rattle.rules.proofs.Hash.{length_hashes_at}
use Rattle.plan_count.proofs.CountLaws.{chosen_held, chosen_beside, need_there_lem, body_counted}
use Rattle.plan_count.proofs.carried.count_body.Goals as goal

pub mark_fresh-count-requires : goal.mark_fresh-count-requires
mark_fresh-count-requires c =
    let past = blank_or _ _ _ _ c.requires.3 c.mark_list.ensures in (
      c.requires.0.rows,
      omega (arith, c.requires.1.row_marks, c.mark_body-body.auto.marks),
      need_there_lem c.requires.0 c.heard_none.ensures (c.mark_body-body.ensures _ past) _ c.heard_count.ensures,
      omega (arith, c.requires.1.need_marks, c.heard_count.ensures, c.mark_body-body.auto.needs),
      c.requires.0.few,
      omega (arith, c.requires.2, c.mark_list.auto.marks),
      chosen_held c.requires.0 c.heard_none.ensures (c.mark_body-body.ensures _ past) _ c.heard_count.ensures,
    )

pub returns : goal.returns
returns c =
    let past = blank_or _ _ _ _ c.requires.3 c.mark_list.ensures in
    let chosen = c.mark_body-body.ensures _ past in
    body_counted c.requires.0 c.heard_none.ensures chosen _ c.heard_count.ensures
    (omega (arith, c.requires.1.row_marks, c.mark_body-body.auto.marks)) (omega (arith, c.requires.1.need_marks, c.mark_body-body.auto.needs))
    (c.mark_fresh-count.ensures _ (chosen_beside c.requires.0 c.heard_none.ensures chosen _ c.heard_count.ensures past) c.requires.0.ascending (length_hashes_at _ _ _))
