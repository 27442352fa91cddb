-- `pick::pick::put_picked` meets its contract: the rows that are marked are those of the planner's pick for the list, as many are counted, and they are put
-- where there is room. Assumes nothing.
use mathlib.Core.Bool.{false}
use native.Mathlib.Omega.{arith}
use lib.ListN.{length-replicate}
use Rattle.rules.proofs.Outputs.{written_bytes, no_room}
use Rattle.rules.specs.Hash.{hashes_at}
use Rattle.rules.specs.Sizes.{sizes}
use Rattle.table_graph.proofs.MarkLaws.{blank, blank_or}
use Rattle.table_graph.proofs.PickLaws.{marked_most}
use Rattle.pick.specs.Internal.PickMarks.{MarksPicked}
use Rattle.pick.proofs.PickedRows.{picked_size, picked_marked, picked_put}
use Rattle.pick.proofs.pick.put_picked.Goals as goal

pub pick_marked-size-requires : goal.pick_marked-size-requires
pick_marked-size-requires c = (
  c.requires.0.rows,
  c.requires.2,
  omega (arith, c.requires.0.rows.few, length-replicate sizes.rows false, c.mark_list.auto.marks),
  omega (arith, c.requires.0.rows.few, length-replicate sizes.rows false),
  blank _ _ c.requires.0.rows.few,
)

pub overflow_mul-size : goal.overflow_mul-size
overflow_mul-size c =
    omega (
      arith,
      picked_marked _ _ _ _ _ _ _ ((let it : MarksPicked c.args.table.now c.args.n c.args.row_sizes.now c.args.budget
          (hashes_at c.args.list.now 0 c.args.many)
          c.pick_marked-size.new.picks
          c.pick_marked-size.result = c.pick_marked-size.ensures _ (blank_or _ _ _ _ (blank _ _ c.requires.0.rows.few) c.mark_list.ensures) in it)),
      marked_most c.args.n c.pick_marked-size.new.picks,
      c.requires.0.rows.few,
    )

pub returns-then-out-size : goal.returns-then-out-size
returns-then-out-size c = no_room _ _ _ (picked_size _ _ _ _ _ _ _ ((let it : MarksPicked c.args.table.now c.args.n c.args.row_sizes.now c.args.budget
    (hashes_at c.args.list.now 0 c.args.many)
    c.pick_marked-size.new.picks
    c.pick_marked-size.result = c.pick_marked-size.ensures _ (blank_or _ _ _ _ (blank _ _ c.requires.0.rows.few) c.mark_list.ensures) in it))) c.if-out-size.true

pub put_marked-requires : goal.put_marked-requires
put_marked-requires c = (
  c.requires.0.rows,
  omega (arith, c.requires.0.rows.few, length-replicate sizes.rows false, c.pick_marked-size.auto.picks),
  omega (
    arith,
    picked_marked _ _ _ _ _ _ _ ((let it : MarksPicked c.args.table.now c.args.n c.args.row_sizes.now c.args.budget
        (hashes_at c.args.list.now 0 c.args.many)
        c.pick_marked-size.new.picks
        c.pick_marked-size.result = c.pick_marked-size.ensures _ (blank_or _ _ _ _ (blank _ _ c.requires.0.rows.few) c.mark_list.ensures) in it)),
    c.if-out-size.false,
  ),
)

pub returns : goal.returns
returns c =
    let so = (let it : MarksPicked c.args.table.now c.args.n c.args.row_sizes.now c.args.budget
    (hashes_at c.args.list.now 0 c.args.many)
    c.pick_marked-size.new.picks
    c.pick_marked-size.result = c.pick_marked-size.ensures _ (blank_or _ _ _ _ (blank _ _ c.requires.0.rows.few) c.mark_list.ensures) in it) in
    written_bytes _ _ _ _ (picked_size _ _ _ _ _ _ _ so) c.if-out-size.false (picked_put _ _ _ _ _ _ _ so _ _ c.put_marked.ensures)
