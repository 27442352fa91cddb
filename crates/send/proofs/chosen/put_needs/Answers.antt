-- `send::chosen::put_needs` meets its contract: putting the hashes that are left behind those that were put gives the buffer that putting
-- all of them gives, and they end after as many as are counted. Assumes nothing.
use mathlib.Core.Path.{refl, ◌∙◌}
use native.Mathlib.Omega.{arith}
use Rattle.table_graph.proofs.PickLaws.{left_all}
use Rattle.table_graph.proofs.PutLaws.{room_one, room_same, put_one, put_same, put_none, ends_start, ends_one, ends_same, ends_all}
use Rattle.send.proofs.ChosenLaws.{need_taken, need_passed, needs_none, needs_room}
use Rattle.send.proofs.chosen.put_needs.Goals as goal
use Rattle.send.proofs.chosen.put_needs.Goals.{then-needs-k, else-needs-k}

pub loop-k-init : goal.loop-k-init
loop-k-init c =
    record {
      ends = ends_start _;
      room = needs_room _ _ _ _ _ c.requires.2;
      rest = rw left_all;
    }

pub put_hash-requires : goal.put_hash-requires
put_hash-requires c =
    let taken = need_taken _ _ _ _ _ c.loop-k-test.true c.if-needs-k.true in
    let room = room_one _ _ _ taken _ _ c.loop-k.invariant.room in
    (omega (arith, room, c.loop-k.auto.out), omega (arith, c.loop-k-test.true, c.requires.0))

pub loop-k-preserved : goal.loop-k-preserved
loop-k-preserved c =
    elim c.if-needs-k.branch [
      | then-needs-k w ↦
          let taken = need_taken _ _ _ _ _ c.loop-k-test.true w.if-needs-k.true in
          record {
            ends = w.at-is ∙ ends_one _ _ _ c.loop-k.invariant.ends w.if-needs-k.true;
            room = rw w.at-is (room_one _ _ _ taken _ _ c.loop-k.invariant.room);
            rest =
                rw w.at-is
                (put_one _ _ _ taken _ _ _ _ _ _ (λ i. (c.type_inv.need i).fits)
                (omega (arith, c.loop-k-test.true, c.requires.0)) refl (w.out-is ∙ w.put_hash.ensures) c.loop-k.invariant.rest);
          }
      | else-needs-k w ↦
          let same = need_passed _ _ _ _ _ c.loop-k-test.true w.if-needs-k.false in
          record {
            ends = w.at-is ∙ ends_same _ _ _ c.loop-k.invariant.ends w.if-needs-k.false;
            room = rw w.at-is (room_same _ _ same _ _ c.loop-k.invariant.room);
            rest = rw (w.at-is, w.out-is) (put_same _ _ same _ _ _ c.loop-k.invariant.rest);
          }
    ]

pub returns : goal.returns
returns c = (
  put_none _ (needs_none _ _ _ _ _ c.loop-k-test.false) _ _ _ c.loop-k.invariant.rest,
  ends_all _ _ _ c.loop-k.invariant.ends _ c.loop-k.auto.k-end c.loop-k-test.false,
)
