-- `plan_offer::offer::offer_checked` meets its contract: the marks name the body that the session asks for (OfferLaws). Assumes nothing.
use mathlib.Core.Bool.{false}
use native.Mathlib.Omega.{arith}
use lib.ListN.{length-replicate}
use Rattle.rules.specs.Sizes.{sizes}
use Rattle.table_graph.proofs.MarkLaws.{blank, blank_or}
use Rattle.plan_offer.proofs.OfferLaws.{heard_few, offer_small, offer_short, need_there_lem, offer_room, offer_put}
use Rattle.plan_offer.proofs.offer.offer_checked.Goals as goal

pub mark_body-body-requires : goal.mark_body-body-requires
mark_body-body-requires c = (
  c.requires.rows,
  c.requires.have,
  c.requires.need,
  omega (arith, length-replicate sizes.rows false, c.requires.rows.rows.few, c.mark_list.auto.marks),
  record {
    row_marks = omega (arith, length-replicate sizes.rows false, c.requires.rows.rows.few);
    no_row = blank _ _ c.requires.rows.rows.few;
    need_marks = omega (arith, length-replicate sizes.hashes false, heard_few _ _ c.requires.need);
    no_need = blank _ _ (heard_few _ _ c.requires.need);
  },
)

pub overflow_mul-size : goal.overflow_mul-size
overflow_mul-size c =
    let chosen = c.mark_body-body.ensures _ (blank_or _ _ _ _ (blank _ _ c.requires.rows.rows.few) c.mark_list.ensures) in
    omega (arith, offer_small c.requires chosen)

pub returns-then-list-size : goal.returns-then-list-size
returns-then-list-size c =
    let chosen = c.mark_body-body.ensures _ (blank_or _ _ _ _ (blank _ _ c.requires.rows.rows.few) c.mark_list.ensures) in
    offer_short c.requires c.heard_none.ensures chosen _ c.if-list-size.true

pub put_chosen-requires : goal.put_chosen-requires
put_chosen-requires c =
    let chosen = c.mark_body-body.ensures _ (blank_or _ _ _ _ (blank _ _ c.requires.rows.rows.few) c.mark_list.ensures) in (
      c.requires.rows.rows,
      omega (arith, length-replicate sizes.rows false, c.requires.rows.rows.few, c.mark_body-body.auto.marks),
      need_there_lem c.requires _ c.heard_count.ensures,
      omega (arith, length-replicate sizes.hashes false, heard_few _ _ c.requires.need, c.heard_count.ensures, c.mark_body-body.auto.needs),
      offer_room c.requires chosen _ _ c.heard_count.ensures c.if-list-size.false,
    )

pub returns : goal.returns
returns c =
    let chosen = c.mark_body-body.ensures _ (blank_or _ _ _ _ (blank _ _ c.requires.rows.rows.few) c.mark_list.ensures) in
    offer_put c.requires c.heard_none.ensures chosen _ c.heard_count.ensures _ _ c.if-list-size.false c.put_chosen.ensures
