-- Two hosts that make the exported calls in turn, over tables as bytes. 01, The catch-up walk, its last rule: what theorem 2 says of two fresh sessions is
-- to hold of bt_fresh, bt_plan, bt_write_message and bt_receive; and, by 02, M-107, with any allowed bits and probes at each end, others each round, and where A
-- plans with picks (M-110). Each call stands here as what it ensures over words and bytes.
use Rattle.std.specs.Prelude.{ℕ, suc, ◌*◌, ◌≤◌, ◌<◌, Bool, true, false, cond, not, ◌&&◌, List, [], ◌≡◌, eqb, length, get_or, take, drop}
use Rattle.call_words.specs.Answer.{Answered}
use Rattle.bloom.specs.Filter.{SettingGood}
use Rattle.bloom.specs.Have.{have_words, haves_of}
use Rattle.bloom.specs.declared.setting.Setting.{Setting}
use Rattle.walk_hosts.specs.Memory.{Memory, OfBytes, Holds, Fresh, RoomyOut, Tabled, Beside, HostBytes}
use Rattle.message.specs.Flags.{flags_of}
use Rattle.message.specs.Message.{total}
use Rattle.message.specs.Write.{parts_of, chunks_from, message_output}
use Rattle.message_calls.specs.MessageWords.{version_of, section_of}
use Rattle.session.specs.PlanCall.{Buffers, plan_after, plan_with}
use Rattle.rules.specs.Hash.{Bytes, hashes_at}
use Rattle.rules.specs.Sizes.{sizes}
use Rattle.session.specs.Plan.{Plan, Planned, plan_picked}
use Rattle.plan_calls.specs.PlanWords.{PlanAnswered}
use Rattle.receive_calls.specs.ReceiveWords.{ReceiveAnswered}
use Rattle.call_words.specs.SessionWords.{flag_of, session_of}
use Rattle.session_state.specs.Value.{Lent, state_of}
use Rattle.session_state.specs.declared.session.Session.{Session}
use Rattle.table.specs.TableBytes.{table_of}
use Rattle.table.specs.Table.{Row}
use Rattle.walk_sessions.specs.Passing.{Passes, FitIn}
use Rattle.walk_sessions.specs.Talk.{goes, Pair, asked, answered, pair_at, Reached, Granted, Ended}
use Rattle.waiting.specs.WaitingBytes.{waiting_of}
use Rattle.waiting.specs.Waiting.{Waiting}
use Rattle.walk.specs.Round.{Part}
use Rattle.walk.specs.Walk.{lacking}
use Rattle.session.specs.Written.{Host, chunks_for}

-- ---- what a host reads of an answer to planning

-- Something is said: no refusal, and not silence.
abbrev pub speaks : List ℕ → Bool
speaks answer = eqb (get_or answer 0 0) 0 && not (eqb (get_or answer 1 0) 0)

-- The record of the have, if there is one.
abbrev pub have_words_in : List ℕ → List ℕ
have_words_in answer = take (have_words * get_or answer 7 0) (drop 8 answer)

-- The plan that words and buffers are; `stated_words` (plan_calls PlanWords) has the order of the words.
abbrev pub plan_in : List ℕ → Buffers → Plan
plan_in answer o =
    record {
      version = version_of (get_or answer 2 0);
      heads = hashes_at o.heads 0 (get_or answer 5 0);
      need = hashes_at o.need 0 (get_or answer 6 0);
      haves = haves_of o.have (have_words_in answer);
      body = record { document = flag_of (get_or answer 4 0); hashes = hashes_at o.list 0 (get_or answer 15 0) };
      flags = flags_of (get_or answer 3 0);
    }

-- ---- the calls, each from memory to memory

-- What is planned with a filter of this setting, where this is passed: as ever, or with a pick (02, M-110).
abbrev pub plan_made : Setting → Passes → Session → Lent → List ℕ → List ℕ → List ℕ → Planned
plan_made setting Passes.all s l table index waiting = plan_with setting.bits setting.probes s l table index waiting
plan_made setting (Passes.picked rowSizes budget pick) s l table index waiting =
    plan_after s l table index waiting
    (plan_picked setting.bits setting.probes rowSizes budget (table_of table) (waiting_of waiting) (state_of s l) pick)

-- Planning so, over a memory and the message's four buffers: bt_plan with 10 and 7, bt_plan_with, bt_plan_settled; bt_plan_picked with a pick.
pub record PlanMade (setting : Setting) (pass : Passes) (table index waiting : List ℕ) (m m' : Memory) (o o' : Buffers) (answer : List ℕ) : Type 0 where
  pub call : PlanAnswered (plan_made setting pass (session_of m.words) m.lists table index waiting)
      m.words m'.words m.lists m'.lists o o' answer
  pub bytes : OfBytes m'.lists

-- bt_write_message, over what planning left and the chunks that the host lends for it: the message is what was written, and none after a refusal.
pub record WriteMade (host : Host) (plan : List ℕ) (o : Buffers) (answer message : List ℕ) : Type 0 where
  pub chunks : List ℕ
  pub lengths : List ℕ
  pub lends : chunks_from chunks 0 lengths ≡ chunks_for host (plan_in plan o)
  pub whole : total lengths ≤ length chunks
  pub before : List ℕ
  pub after : List ℕ
  pub room : sizes.message ≤ length before
  pub call : Answered (message_output (parts_of (version_of (get_or plan 2 0)) (take (sizes.hash * get_or plan 5 0) o.heads)
      (take (sizes.hash * get_or plan 6 0) o.need) o.have (have_words_in plan) chunks lengths (section_of (get_or plan 3 0)))) before after answer
  pub message_is : message ≡ cond (eqb (get_or answer 0 0) 0) (take (get_or answer 1 0) after) []

-- A unit speaks: it plans, and where something is said the message is written.
pub record Speaks (setting : Setting) (pass : Passes) (host : Host) (table index waiting : List ℕ) (m m' : Memory) (message : List ℕ) : Type 0 where
  pub out : Buffers
  pub out' : Buffers
  pub room : RoomyOut out
  pub answer : List ℕ
  pub plans : PlanMade setting pass table index waiting m m' out out' answer
  pub silent : speaks answer ≡ false → message ≡ []
  pub written : List ℕ
  pub writes : speaks answer ≡ true → WriteMade host answer out' written message

-- bt_receive: a unit hears a message, whose changes have loaded; where nothing was said that is no bytes, which changes nothing.
pub record Hears (table index : List ℕ) (before : ℕ) (message : List ℕ) (m m' : Memory) : Type 0 where
  pub answer : List ℕ
  pub call : ReceiveAnswered m.words m'.words m.lists m'.lists table index before message true answer
  pub said : Bytes message
  pub bytes : OfBytes m'.lists

-- ---- the talk

-- What the two hosts keep.
pub record Both : Type 0 where
  pub at_a : Memory
  pub at_b : Memory

-- A message was planned and written, and carries these hashes: word 0 of an answer is 0 where nothing is refused, word 1 of a plan's is 2 for a message.
pub record SaidSo (answer written : List ℕ) (o : Buffers) (hashes : List ℕ) : Type 0 where
  pub planned : get_or answer 0 0 ≡ 0
  pub message : get_or answer 1 0 ≡ 2
  pub wrote : get_or written 0 0 ≡ 0
  pub carries : (plan_in answer o).body.hashes ≡ hashes

-- 02, M-107: at both ends and in each round, bits and probes with which filters over any rows of a table keep the filter rules.
pub record GoodSettings (setA set_b : ℕ → Setting) : Type 0 where
  pub at_a : (k : ℕ) → SettingGood (setA k).bits (setA k).probes
  pub at_b : (k : ℕ) → SettingGood (set_b k).bits (set_b k).probes

-- What A and what B build the filters of each round with, and what A passes; the bytes of A's table, of B's tables before each round, of what waits beside B and beside A; and
-- what is lent for each round's messages.
module _ (setA set_b : ℕ → Setting) (pass : ℕ → Passes) (a : List ℕ) (b w u : ℕ → List ℕ) (hosts : ℕ → Host) where
  -- The tables that the bytes are.
  abbrev pub A : List Row
  A = table_of a

  -- B's table in each round.
  abbrev pub B : ℕ → List Row
  B = λ k. table_of (b k)

  -- What waits at B.
  abbrev pub W : ℕ → List Waiting
  W = λ k. waiting_of (w k)

  -- What waits at A.
  abbrev pub U : ℕ → List Waiting
  U = λ k. waiting_of (u k)

  -- 01, The catch-up walk: B speaks, A hears it and answers, B hears that beside its table after loading; its rows before are those before loading.
  pub record CallsRound (k : ℕ) (s s' : Both) : Type 0 where
    pub table_a : Tabled a
    pub table_b : Tabled (b k)
    pub loaded_b : Tabled (b (suc k))
    pub waits_a : Beside A (u k)
    pub waits_b : Beside (B k) (w k)
    pub mid_a : Memory
    pub mid_b : Memory
    pub question : List ℕ
    pub reply : List ℕ
    pub asks : Speaks (set_b k) Passes.all (hosts k) (b k) table_b.index (w k) s.at_b mid_b question
    pub hears : Hears a table_a.index (length A) question s.at_a mid_a
    pub answers : Speaks (setA k) (pass k) (hosts k) a table_a.index (u k) mid_a s'.at_a reply
    pub takes : Hears (b (suc k)) loaded_b.index (length (B k)) reply mid_b s'.at_b

  -- n rounds from two fresh sessions on, each from the memory that the one before it left.
  pub record TalkOfCalls (n : ℕ) : Type 0 where
    pub at : ℕ → Both
    pub fresh_a : Fresh (at 0).at_a
    pub fresh_b : Fresh (at 0).at_b
    pub made : (k : ℕ) → k < n → CallsRound k (at k) (at (suc k))

  -- ---- what is to be shown

  -- The sessions of Talk.antt over the tables that the bytes are.
  abbrev pub sessions : ℕ → Pair setA set_b pass A B W U hosts
  sessions = pair_at setA set_b pass A B W U hosts

  -- What B asks in round k.
  abbrev pub asked_in : ℕ → Planned
  asked_in k = asked setA set_b pass A B W U hosts k (sessions k)

  -- What A answers in round k.
  abbrev pub answered_in : ℕ → Planned
  answered_in k = answered setA set_b pass A B W U hosts k (sessions k)

  -- Both memories hold the pair of sessions before round k.
  pub record AreSessions (k : ℕ) (s : Both) : Type 0 where
    pub holds_a : Holds (sessions k).at_a s.at_a
    pub holds_b : Holds (sessions k).at_b s.at_b

  -- All calls of round k answer 0; both plans are messages, and their hash lists are what goes across.
  pub record AllAnswered (k : ℕ) (s s' : Both) (r : CallsRound k s s') : Type 0 where
    pub asks : SaidSo r.asks.answer r.asks.written r.asks.out' (goes (asked_in k))
    pub hears : get_or r.hears.answer 0 0 ≡ 0
    pub answers : SaidSo r.answers.answer r.answers.written r.answers.out' (goes (answered_in k))
    pub takes : get_or r.takes.answer 0 0 ≡ 0

  -- All that Talk.antt grants, in each round that is reached.
  abbrev pub AllGranted : Type 0
  AllGranted = (k : ℕ) → Reached setA set_b pass A B W U hosts k → Granted setA set_b pass A B W U hosts k

  -- The user's words, of the calls: there is a last round as in Talk.antt, and in the rounds up to it all calls answer 0.
  pub record CallsEnd (n : ℕ) (talk : TalkOfCalls n) : Type 0 where
    pub ended : Ended setA set_b pass A B W U hosts (lacking A (B 0))
    pub all : (k : ℕ) → k ≤ ended.last → (h : k < n) → AllAnswered k (talk.at k) (talk.at (suc k)) (talk.made k h)

  -- What hosts lend: good tables before every round, bytes of changes, and buffers with room.
  pub record Lends : Type 0 where
    pub table_a : Tabled a
    pub table_b : (k : ℕ) → Tabled (b k)
    pub waits_a : (k : ℕ) → Beside A (u k)
    pub waits_b : (k : ℕ) → Beside (B k) (w k)
    pub changes : (k : ℕ) → HostBytes (hosts k)
    pub out : Buffers
    pub wide : RoomyOut out
    pub buffer : List ℕ
    pub room : sizes.message ≤ length buffer

-- A talk of calls is the talk of steps, whatever good pairs the two ends plan with.
abbrev pub CallsAreSteps : Type 0
CallsAreSteps = (setA set_b : ℕ → Setting) → GoodSettings setA set_b
    → (pass : ℕ → Passes) (a : List ℕ) (b w u : ℕ → List ℕ) (hosts : ℕ → Host) (n : ℕ) (talk : TalkOfCalls setA set_b pass a b w u hosts n)
    → (k : ℕ) → k ≤ n
    → AreSessions setA set_b pass a b w u hosts k (talk.at k)

-- Theorem 2 and its corollary are about the calls too: B's table a part of A's, nothing waiting, and all of it granted.
abbrev pub CallsCorollary : Type 0
CallsCorollary = (setA set_b : ℕ → Setting) → GoodSettings setA set_b
    → (pass : ℕ → Passes) (a : List ℕ) (b w u : ℕ → List ℕ) (hosts : ℕ → Host) (n : ℕ) (talk : TalkOfCalls setA set_b pass a b w u hosts n)
    → Tabled a
    → Part (table_of a) (table_of (b 0))
    → waiting_of (w 0) ≡ []
    → ((k : ℕ) → FitIn (table_of a) (pass k))
    → AllGranted setA set_b pass a b w u hosts
    → CallsEnd setA set_b pass a b w u hosts n talk

-- A talk of calls can always be made, so that no statement about such talks is empty.
abbrev pub CallsGo : Type 0
CallsGo = (setA set_b : ℕ → Setting) → GoodSettings setA set_b
    → (pass : ℕ → Passes) (a : List ℕ) (b w u : ℕ → List ℕ) (hosts : ℕ → Host) → Lends setA set_b pass a b w u hosts
    → (s : Both) → Fresh s.at_a → Fresh s.at_b
    → (n : ℕ)
    → TalkOfCalls setA set_b pass a b w u hosts n
