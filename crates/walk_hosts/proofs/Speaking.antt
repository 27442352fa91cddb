-- A unit that speaks by calls says what the step's plan says: both calls together leave its bytes, and the session that the step leaves. A message past its
-- size isn't written, nor could it be read; either way nothing changes at the other end. Assumes nothing.
use Prim.Native.Nat.{ℕ, ◌≤◌, ◌<◌}
use mathlib.Core.Bool.{true}
use mathlib.Core.List.{List, []}
use mathlib.Core.Path.{◌≡◌, refl, sym, ◌∙◌}
use borrow.Author.Tests.{ltb-true, ltb-false}
use lib.Dec.{ltb}
use lib.ListN.{length, get_or}
use Rattle.bloom.specs.Filter.{SettingGood}
use Rattle.bloom.specs.declared.setting.Setting.{Setting}
use Rattle.message_read.proofs.Messages.{message_long, message_empty}
use Rattle.session.specs.GoodState.{GoodState}
use Rattle.session.specs.Receive.{receive_bytes, left}
use Rattle.walk_hosts.specs.Memory.{Memory, Holds, Tabled, Beside}
use Rattle.walk_hosts.proofs.Rooms.{Fine}
use Rattle.message.specs.Message.{message_bytes}
use Rattle.session.specs.PlanCall.{stated_of, planned_answer, message_put, put_into}
use Rattle.rules.specs.Sizes.{sizes}
use Rattle.rules.proofs.Cases.{split}
use Rattle.session.specs.Plan.{Plan, Planned, after}
use Rattle.plan_calls.specs.PlanWords.{stated_words, planned_words}
use Rattle.session_state.specs.Session.{State}
use Rattle.table.specs.TableBytes.{table_of}
use Rattle.table.specs.Table.{Row}
use Rattle.walk_sessions.specs.Passing.{Passes, plan_passing}
use Rattle.walk_sessions.specs.Talk.{bytes_for}
use Rattle.waiting.specs.WaitingBytes.{waiting_of}
use Rattle.walk_hosts.specs.Calls.{Speaks, speaks, plan_in}
use Rattle.walk_hosts.proofs.Planning.{PlanPut, held_good, reset_is, reset_fine, says_fine, plan_answer, plan_holds, plan_put}
use Rattle.walk_hosts.proofs.Receiving.{unread_leaves}
use Rattle.walk_hosts.proofs.Writing.{number_some, plan_read, write_small, write_long}
use Rattle.session.specs.Written.{Host, message_for}

-- What crosses is what the step's plan says, where that is within a message's size.
pub record Crosses (bytes message : List ℕ) : Type 0 where
  pub small : length bytes ≤ sizes.message → message ≡ bytes
  pub long : sizes.message < length bytes → message ≡ []

nothing_crosses : (message : List ℕ) → message ≡ [] → Crosses [] message
nothing_crosses message e = record { small = λ h. e; long = λ h. e }

module _ (setting : Setting) (keeps : SettingGood setting.bits setting.probes) (pass : Passes) (host : Host) (table waiting : List ℕ) (tabled : Tabled table)
    (beside : Beside (table_of table) waiting) (x : State) (m m' : Memory) (h : Holds x m) (message : List ℕ)
    (speech : Speaks setting pass host table tabled.index waiting m m' message) where
  abbrev p : Planned
  p = plan_passing pass setting.bits setting.probes (table_of table) (waiting_of waiting) x

  good : GoodState x
  good = held_good x m h

  pub speaking_holds : Holds (after p x) m'
  speaking_holds =
      plan_holds table waiting tabled beside setting keeps pass x good m m' speech.out speech.out' speech.answer h speech.room speech.plans

  words : speech.answer ≡ planned_words (planned_answer p)
  words = plan_answer table waiting tabled beside setting keeps pass x good m m' speech.out speech.out' speech.answer h speech.room speech.plans

  -- what is stated is written
  module _ (q : Plan) (fine : Fine q) (says : put_into p speech.out ≡ message_put q speech.out) (what : ℕ) (is : speech.answer ≡ stated_words what (stated_of q))
      (told : speaks speech.answer ≡ true) where
    there : PlanPut q speech.out speech.out'
    there = plan_put table waiting tabled beside setting keeps pass x good m m' speech.out speech.out' speech.answer h speech.room speech.plans q says

    pub stated_read : plan_in speech.answer speech.out' ≡ q
    stated_read = plan_read q fine speech.out speech.out' speech.room there what speech.answer is

    pub stated_small : length (message_bytes (message_for host q)) ≤ sizes.message
        → (message ≡ message_bytes (message_for host q)) × (get_or speech.written 0 0 ≡ 0)
    stated_small small =
        let wrote =
        write_small q fine speech.out speech.out' speech.room there what speech.answer is host speech.written message (speech.writes told) small
        in
        (wrote.message_is, wrote.fine_answer)

    stated_crosses : Crosses (message_bytes (message_for host q)) message
    stated_crosses =
        record {
          small = λ small. (stated_small small).0;
          long =
              write_long q fine speech.out speech.out' speech.room there what speech.answer is host speech.written message (speech.writes told);
        }

  pub crossing : (y : Planned) → p ≡ y → Crosses (bytes_for host y) message
  unfolding planned_answer put_into bytes_for
  crossing (Planned.refused r) e = nothing_crosses message (speech.silent (rw (words, e, number_some r)))
  crossing Planned.silent e = nothing_crosses message (speech.silent (rw (words, e)))
  crossing (Planned.reset q) e =
      let fine : Fine q = rw (reset_is table waiting tabled beside setting keeps pass x good q e) (reset_fine table waiting tabled beside) in
      let is : speech.answer ≡ stated_words 1 (stated_of q) = rw e at words in
      stated_crosses q fine (rw e) 1 is (rw is)
  crossing (Planned.says q s) e =
      let is : speech.answer ≡ stated_words 2 (stated_of q) = rw e at words in
      stated_crosses q (says_fine table waiting tabled beside setting keeps pass x good q s e) (rw e) 2 is (rw is)

  -- the other end hears what the step's plan says
  pub heard_so : (before : ℕ) (t : List Row) (y : State)
      → left (receive_bytes true before t y message) y ≡ left (receive_bytes true before t y (bytes_for host p)) y
  heard_so before t y =
      let c = crossing p refl in
      split (ltb sizes.message (length (bytes_for host p)))
      (λ e.
      let long : sizes.message < length (bytes_for host p) = ltb-true _ _ e in
      rw (c.long long)
      (unread_leaves before t y [] _ (message_empty [] refl)
      ∙ sym (unread_leaves before t y (bytes_for host p) _ (message_long (bytes_for host p) long))))
      (λ e. rw (c.small (ltb-false _ _ e)))

  -- a message that is said
  pub record Said (q : Plan) : Type 0 where
    pub planned : get_or speech.answer 0 0 ≡ 0
    pub kind : get_or speech.answer 1 0 ≡ 2
    pub read : plan_in speech.answer speech.out' ≡ q
    pub crosses : length (message_bytes (message_for host q)) ≤ sizes.message
        → (message ≡ message_bytes (message_for host q)) × (get_or speech.written 0 0 ≡ 0)

  pub speaking_said : (q : Plan) (s : State) → p ≡ Planned.says q s → Said q
  unfolding planned_answer put_into
  speaking_said q s e =
      let is : speech.answer ≡ stated_words 2 (stated_of q) = rw e at words in
      let fine : Fine q = says_fine table waiting tabled beside setting keeps pass x good q s e in
      record {
        planned = rw is;
        kind = rw is;
        read = stated_read q fine (rw e) 2 is (rw is);
        crosses = stated_small q fine (rw e) 2 is (rw is);
      }
