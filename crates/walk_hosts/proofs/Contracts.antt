-- Each of the seven calls is what the talk takes it for: its tie gives the contract by the place of each argument, and what the host lends beside it is put in.
-- Assumes nothing.
use mathlib.Core.Path.{refl}
use Rattle.message_calls.proofs.Ties.{write_tied}
use Rattle.plan_calls.proofs.PlanTies.{plan_tied, plan_with_tied, plan_settled_tied, plan_picked_tied}
use Rattle.receive_calls.proofs.ReceiveTies.{receive_tied}
use Rattle.state_calls.proofs.Ties.{fresh_tied}
use Rattle.session.proofs.SettledLaws.{passed_keeps, settled_plans, picked_plans}
use Rattle.walk_hosts.specs.CallContracts.{Contracts}

pub contracts : Contracts
contracts =
    record {
      plan = λ κs a x u p bytes. record { call = plan_tied κs a x u p; bytes = bytes };
      plan_with = λ κs a x u p good bytes. record { call = rw (passed_keeps _ _ good _ _ _ _ _) at (plan_with_tied κs a x u p); bytes = bytes };
      plan_settled = λ κs a x u p c e bytes. record { call = rw (settled_plans _ _ _ c e _ _ _ _ _) at (plan_settled_tied κs a x u p); bytes = bytes };
      plan_picked = λ κs a x u p c n e f bytes. record { call = rw (picked_plans _ _ _ c e _ _ _ n f _ _ _ _ _) at (plan_picked_tied κs a x u p); bytes = bytes };
      write = λ κs a x u p host plan o l.
          record {
            chunks = _;
            lengths = _;
            lends = l.lends;
            whole = l.whole;
            before = _;
            after = _;
            room = l.room;
            call = rw (l.version_is, l.heads_are, l.need_is, l.have_is, l.haves_are, l.flags_are) at (write_tied κs a x u p);
            message_is = refl;
          };
      receive = λ κs a x u p l.
          (record { answer = _; call = rw l.good at (receive_tied κs a x u p); said = l.said; bytes = l.bytes }, refl);
      fresh = λ κs a x u p lists bytes room. record { words = fresh_tied κs a x u p; bytes = bytes; room = room };
    }
