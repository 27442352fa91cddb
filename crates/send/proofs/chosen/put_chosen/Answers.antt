-- `send::chosen::put_chosen` meets its contract: the rows are put where the needs end. Assumes nothing.
use native.Mathlib.Omega.{arith}
use Rattle.send.proofs.ChosenLaws.{room_first, room_second, both_put}
use Rattle.send.proofs.chosen.put_chosen.Goals as goal

pub put_needs-end-requires : goal.put_needs-end-requires
put_needs-end-requires c =
    (c.requires.2, c.requires.3, room_first _ _ _ _ _ _ _ _ c.requires.4)

pub put_marked-requires : goal.put_marked-requires
put_marked-requires c =
    let room = room_second _ _ _ _ _ _ _ _ _ _ c.put_needs-end.ensures.1 c.put_needs-end.auto.out c.requires.4 in
    (c.requires.0, c.requires.1, omega (arith, room))

pub returns : goal.returns
returns c =
    both_put _ _ _ _ _ _ _ _ _ _ _ c.put_needs-end.ensures.1 c.put_needs-end.ensures.0 c.put_marked.ensures
