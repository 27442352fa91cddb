-- One message by calls, at both ends: whatever sessions were held before it, its speaker's memory holds the one that the step's plan leaves, and its hearer's the
-- one that the step's hearing leaves. A message that the step takes is within its size, so it was written and heard as the step has it, and each call answers 0.
-- Assumes nothing.
use Prim.Native.Nat.{ℕ, ◌≤◌}
use mathlib.Core.Bool.{true}
use mathlib.Core.List.{List}
use mathlib.Core.Path.{◌≡◌, sym, ap, subst, ◌∙◌}
use native.Mathlib.Omega.{arith}
use borrow.Author.Tests.{ltb-true, ltb-false}
use lib.Dec.{ltb}
use lib.ListN.{length, get_or}
use Rattle.bloom.specs.Filter.{SettingGood}
use Rattle.bloom.specs.declared.setting.Setting.{Setting}
use Rattle.message_read.proofs.Messages.{message_long}
use Rattle.session.specs.Receive.{Received, receive_bytes, left}
use Rattle.session.proofs.ReceiveLaws.{bytes_beyond, bytes_refused}
use Rattle.walk_hosts.specs.Memory.{Memory, Holds, Tabled, Beside}
use Rattle.message.specs.Message.{message_bytes}
use Rattle.session.specs.ReceiveCall.{received_answer}
use Rattle.rules.specs.Sizes.{sizes}
use Rattle.rules.specs.declared.refusal.Refusal.{Refusal}
use Rattle.rules.proofs.Cases.{split}
use Rattle.session.specs.Plan.{Plan, Planned}
use Rattle.session_state.specs.Session.{State}
use Rattle.table.specs.TableBytes.{table_of}
use Rattle.table.specs.Table.{Row}
use Rattle.walk_sessions.specs.Passing.{Passes, plan_passing}
use Rattle.walk_sessions.specs.Talk.{bytes_for, goes}
use Rattle.waiting.specs.WaitingBytes.{waiting_of}
use Rattle.walk_hosts.specs.Calls.{Hears, Speaks, SaidSo}
use Rattle.walk_hosts.proofs.Receiving.{receive_answer, receive_holds}
use Rattle.walk_hosts.proofs.Speaking.{heard_so, speaking_said}
use Rattle.session.specs.Written.{Host, message_for}

-- a message that was taken is within its size
taken_small : (before : ℕ) (t : List Row) (x z : State) (bytes : List ℕ) → receive_bytes true before t x bytes ≡ Received.took z → length bytes ≤ sizes.message
taken_small before t x z bytes e =
    split (ltb sizes.message (length bytes))
    (λ f.
    let unread = message_long bytes (ltb-true _ _ f) in
    split (ltb (length t) before)
    (λ g. untaken (sym (bytes_beyond true before t x bytes (ltb-true _ _ g)) ∙ e))
    (λ g. untaken (sym (bytes_refused true before t x bytes (ltb-false _ _ g) _ unread) ∙ e)))
    (λ f. ltb-false _ _ f)
  where
    untaken : {C : Type 0} {q : Refusal} {s : State} → Received.refused q ≡ Received.took s → C
    untaken f = absurd (let c : ◌≡◌ {A = ℕ} 0 1 = cc in omega arith)

module _ (setting : Setting) (keeps : SettingGood setting.bits setting.probes) (pass : Passes) (host : Host) (table waiting : List ℕ) (tabled : Tabled table)
    (beside : Beside (table_of table) waiting) (x : State) (m m' : Memory) (h : Holds x m) (message : List ℕ)
    (speech : Speaks setting pass host table tabled.index waiting m m' message) (theirs : List ℕ) (accepted : Tabled theirs) (before : ℕ) (y : State)
    (l l' : Memory) (held : Holds y l) (hearing : Hears theirs accepted.index before message l l') where
  abbrev p : Planned
  p = plan_passing pass setting.bits setting.probes (table_of table) (waiting_of waiting) x

  -- its hearer holds what the step's hearing leaves
  pub message_heard : Holds (left (receive_bytes true before (table_of theirs) y (bytes_for host p)) y) l'
  message_heard =
      subst (λ (z : State). Holds z l') (heard_so setting keeps pass host table waiting tabled beside x m m' h message speech before (table_of theirs) y)
      (receive_holds theirs accepted before message hearing.said y l held l' hearing)

  -- what is said and taken: its calls answer 0
  pub message_answered : (q : Plan) (s z : State) → p ≡ Planned.says q s
      → receive_bytes true before (table_of theirs) y (bytes_for host p) ≡ Received.took z
      → SaidSo speech.answer speech.written speech.out' (goes p) × (get_or hearing.answer 0 0 ≡ 0)
  unfolding received_answer bytes_for goes
  message_answered q s z says took =
      let done = speaking_said setting keeps pass host table waiting tabled beside x m m' h message speech q s says in
      let took_it : receive_bytes true before (table_of theirs) y (message_bytes (message_for host q)) ≡ Received.took z = rw says at took in
      let wrote = done.crosses (taken_small before (table_of theirs) y z _ took_it) in
      let heard : get_or hearing.answer 0 0 ≡ 0 = rw (receive_answer theirs accepted before message hearing.said y l held l' hearing, wrote.0, took_it) in
      let carries = ap (λ (r : Plan). r.body.hashes) done.read ∙ sym (ap goes says) in
      (record { planned = done.planned; message = done.kind; wrote = wrote.1; carries = carries }, heard)
