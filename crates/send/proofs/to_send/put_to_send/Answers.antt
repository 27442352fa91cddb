-- `send::to_send::put_to_send` meets its contract: what is chosen where nothing was sent before is what is to be sent. Assumes nothing.
use mathlib.Core.Bool.{false}
use native.Mathlib.Omega.{arith}
use lib.ListN.{length-replicate}
use Rattle.rules.specs.Sizes.{sizes}
use Rattle.rules.proofs.Outputs.{written_bytes, no_room}
use Rattle.table_graph.proofs.MarkLaws.{blank}
use Rattle.send.proofs.ChosenLaws.{chosen_all, chosen_size, chosen_room, chosen_put, chosen_most}
use Rattle.send.proofs.to_send.put_to_send.Goals as goal

pub choose-total-requires : goal.choose-total-requires
choose-total-requires c = (
  c.requires,
  omega (arith, length-replicate sizes.rows false, c.requires.rows.rows.few),
  omega (arith, length-replicate sizes.rows false, c.requires.rows.rows.few),
  blank _ _ c.requires.rows.rows.few,
  omega (arith, length-replicate sizes.hashes false, c.requires.few),
)

pub overflow_mul-size : goal.overflow_mul-size
overflow_mul-size c =
    omega (arith, chosen_most _ _ _ _ _ _ _ _ _ _ _ c.requires (chosen_all _ _ _ (blank _ _ c.requires.rows.rows.few) c.choose-total.ensures), c.requires.few)

pub returns-then-out-size : goal.returns-then-out-size
returns-then-out-size c =
    no_room _ _ _ (chosen_size (chosen_all _ _ _ (blank _ _ c.requires.rows.rows.few) c.choose-total.ensures)) c.if-out-size.true

pub put_chosen-requires : goal.put_chosen-requires
put_chosen-requires c = (
  c.requires.rows.rows,
  omega (arith, length-replicate sizes.rows false, c.requires.rows.rows.few, c.choose-total.auto.marks),
  c.requires.needs,
  omega (arith, length-replicate sizes.hashes false, c.requires.few, c.choose-total.auto.needs),
  chosen_room (chosen_all _ _ _ (blank _ _ c.requires.rows.rows.few) c.choose-total.ensures) _ c.if-out-size.false,
)

pub returns : goal.returns
returns c =
    let so = chosen_all _ _ _ (blank _ _ c.requires.rows.rows.few) c.choose-total.ensures in
    written_bytes _ _ _ _ (chosen_size so) c.if-out-size.false (chosen_put so _ _ c.put_chosen.ensures)
