-- `plan_count::carried::pick_list` meets its contract: the pick was checked against the list, its rows are marked, and the hashes sent with it are
-- counted (GoingLaws). Assumes nothing.
use mathlib.Core.Path.{sym}
use native.Mathlib.Omega.{arith}
use Rattle.rules.proofs.Hash.{length_hashes_at}
use Rattle.plan_count.proofs.GoingLaws.{pick_goes}
use Rattle.plan_count.proofs.carried.pick_list.Goals as goal

pub set_marks-requires : goal.set_marks-requires
set_marks-requires c = c.requires.row_room

pub set_marks-requires-2 : goal.set_marks-requires-2
set_marks-requires-2 c = c.requires.need_room

pub check_marked-picked-requires : goal.check_marked-picked-requires
check_marked-picked-requires c = (
  c.requires.rows,
  omega (arith, c.requires.few),
  omega (arith, c.requires.few),
  c.requires.fresh_room,
  omega (arith, c.requires.row_room, c.set_marks.auto.marks),
  c.set_marks.ensures,
)

pub copy_marks-requires : goal.copy_marks-requires
copy_marks-requires c = (
  omega (arith, c.requires.row_room, c.set_marks.auto.marks, c.check_marked-picked.auto.picks),
  c.requires.fresh_room,
)

pub count_joined-requires : goal.count_joined-requires
count_joined-requires c =
    (omega (arith, c.requires.few), omega (arith, c.requires.few), c.requires.there, c.requires.sent_few, c.requires.ascending)

pub returns : goal.returns
returns c list need long listed unsent =
    pick_goes c.requires.rows list need _ _ _ _ unsent c.requires.ascending _ _ _
    (omega (arith, c.requires.row_room, c.set_marks.auto.marks, c.check_marked-picked.auto.picks))
    (omega (arith, long, c.requires.need_room, c.set_marks-2.auto.marks))
    (omega (arith, c.requires.fresh_room, c.copy_marks.auto.marks))
    c.check_marked-picked.ensures.marks
    (rw long c.set_marks-2.ensures)
    c.copy_marks.ensures
    (c.check_marked-picked.ensures.answer list listed)
    (sym (length_hashes_at _ 0 _))
    c.count_joined.ensures
