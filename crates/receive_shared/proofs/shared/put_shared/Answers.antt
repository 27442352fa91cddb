-- `receive_shared::shared::put_shared` meets its contract: one law for each way through the two tests (SharedLaws). Assumes nothing.
use Rattle.receive_shared.proofs.SharedLaws.{is_held, is_advanced, is_joined, room_same, put_same, copy_room, all_copied}
use borrow.Author.Rules.{rules}
use Rattle.receive_shared.proofs.shared.put_shared.Goals as goal

pub copy_into-requires : goal.copy_into-requires
copy_into-requires c =
    let room = copy_room _ _ _ _ (room_same _ _ _ (is_held _ c.args.loads _ _ _ _ c.if-all.true) c.requires.4) in
    search rules

pub returns-then-all : goal.returns-then-all
returns-then-all c =
    put_same _ _ _ _ (is_held _ c.args.loads _ _ _ _ c.if-all.true)
    (all_copied _ _ _ _ _ (λ i. (c.type_inv.message i).fits) c.requires.3 c.copy_into.ensures)

pub put_advanced-requires : goal.put_advanced-requires
put_advanced-requires c =
    (c.requires.0, c.requires.1, c.requires.2, c.requires.3, room_same _ _ _ (is_advanced _ _ _ _ _ _ c.if-all.false c.if-loads.true) c.requires.4)

pub returns-then-loads : goal.returns-then-loads
returns-then-loads c = put_same _ _ _ _ (is_advanced _ _ _ _ _ _ c.if-all.false c.if-loads.true) c.put_advanced.ensures

pub put_joined-requires : goal.put_joined-requires
put_joined-requires c =
    let same = is_joined _ _ c.args.before _ _ _ c.if-all.false c.if-loads.false in
    (c.requires.0, c.requires.2, c.requires.3, room_same _ _ _ same c.requires.4)

pub returns : goal.returns
returns c = put_same _ _ _ _ (is_joined _ _ c.args.before _ _ _ c.if-all.false c.if-loads.false) c.put_joined.ensures
