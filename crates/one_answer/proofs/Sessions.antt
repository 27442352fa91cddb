-- Calls of sessions: saved, planning, receiving. Each contract is an equation, or one for each thing that it speaks of. Assumes nothing.
use mathlib.Core.List.{[]}
use mathlib.Core.Path.{refl, ap}
use Rattle.session.specs.PlanCall.{Buffers}
use Rattle.session_state.specs.Value.{Lent}
use Rattle.one_answer.specs.Sessions.{SessionsBind}
use Rattle.one_answer.proofs.Once.{once, joined, skip}

pub sessions_bind : SessionsBind
sessions_bind =
    record {
      new = λ κs a x y u v p q. (once p q, refl);
      new_read_only = λ κs a x y u v p q. (once p q, refl);
      restored = λ κs a x y u v p q. (once p q, refl);
      set_read_only = λ κs a x y u v p q. (once p q, refl);
      haves_good = λ κs a x y u v p q. (once p q, refl);
      session_good = λ κs a x y u v p q. (once p q, refl);
      list_good = λ κs a x y u v p q. (once p q, refl);
      heard_good = λ κs a x y u v p q. (once p q, refl);
      sent_good = λ κs a x y u v p q. (once p q, refl);
      saved_encode = λ κs a x y u v p q. (once p.answer q.answer, joined (once p.content q.content) refl);
      saved_parse = λ κs a x y u v p q. (once p q, refl);
      saved_decode = λ κs a x y u v p q. (once p.answer q.answer, skip (joined (once p.content q.content) refl));
      generate_sync_message = λ κs a x y u v p q.
          let same = once p.buffers q.buffers in
          let kept = once p.lists q.lists in (
            once p.answer q.answer,
            skip (skip (skip (skip (skip (skip (skip (skip (skip
                (joined (ap (λ (l : Lent). l.last_sent) kept)
                (skip (skip (skip (skip
                (joined (ap (λ (l : Lent). l.sent) kept)
                (joined (ap (λ (b : Buffers). b.heads) same)
                (joined (ap (λ (b : Buffers). b.need) same)
                (joined (ap (λ (b : Buffers). b.have) same)
                (joined (ap (λ (b : Buffers). b.list) same) refl)))))))))))))))))),
          );
      offer = λ κs a x y u v p q. (once p.answer q.answer, skip (skip (skip (skip (skip (skip (skip (skip (skip (skip (joined (once p.content q.content) refl)))))))))));
      receive_sync_message = λ κs a x y u v p q.
          let same = once p.lists q.lists in (
            once p.answer q.answer,
            skip (skip (skip (skip (skip (skip
                (joined (ap (λ (l : Lent). l.shared) same)
                (joined (ap (λ (l : Lent). l.last_sent) same)
                (joined (ap (λ (l : Lent). l.their_heads) same)
                (joined (ap (λ (l : Lent). l.their_need) same)
                (joined (ap (λ (l : Lent). l.haves) same)
                (joined (ap (λ (l : Lent). l.bytes) same)
                (joined (ap (λ (l : Lent). l.sent) same) refl)))))))))))),
          );
      heard_count = λ κs a x y u v p q. (once p q, refl);
      heard_none = λ κs a x y u v p q. (once (p []) (q []), refl);
      nothing_goes = λ κs a x y u v p q. (once p q, refl);
      is_silent = λ κs a x y u v p q. (once p q, refl);
      puts_of = λ κs a x y u v p q. (once p q, refl);
      take_flags = λ κs a x y u v p q. (once p q, refl);
      taken = λ κs a x y u v p q. (once p q, refl);
      check_receive = λ κs a x y u v p q. (once p q, refl);
      loads_changes = λ κs a x y u v p q. (once p q, refl);
      load_failed = λ κs a x y u v p q. (once p q, refl);
      kept_hashes = λ κs a x y u v p q. (once p q, refl);
    }
