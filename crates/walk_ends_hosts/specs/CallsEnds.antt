-- Two hosts with news at both ends that make the exported calls in turn, over tables as bytes. 02, M-111: what walk_ends_sessions says of two fresh sessions is to
-- hold of bt_fresh, the plan calls, bt_write_message and bt_receive. Each call stands here as in walk_hosts Calls, where its own contract is tied to it.
use Rattle.std.specs.Prelude.{ℕ, suc, ◌≤◌, ◌<◌, List, [], ◌≡◌, length, get_or}
use Rattle.bloom.specs.Filter.{SettingGood}
use Rattle.bloom.specs.declared.setting.Setting.{Setting}
use Rattle.rules.specs.Sizes.{sizes}
use Rattle.session.specs.Plan.{Planned}
use Rattle.session.specs.PlanCall.{Buffers}
use Rattle.session.specs.Written.{Host}
use Rattle.table.specs.Table.{Row}
use Rattle.table.specs.TableBytes.{table_of}
use Rattle.waiting.specs.Waiting.{Waiting}
use Rattle.waiting.specs.WaitingBytes.{waiting_of}
use Rattle.walk.specs.Walk.{lacking}
use Rattle.walk_ends.specs.Joint.{Joint}
use Rattle.walk_ends_sessions.specs.TalkEnds.{Units, said, units_at, MessageReached, MessageAccepted, MessageGranted, MessageUnderway, EndsStated, EndsMeet}
use Rattle.walk_hosts.specs.Calls.{plan_in, Speaks, Hears, SaidSo}
use Rattle.walk_hosts.specs.Memory.{Memory, Holds, Fresh, RoomyOut, Tabled, Beside, HostBytes}
use Rattle.walk_sessions.specs.Passing.{Passes, FitIn}
use Rattle.walk_sessions.specs.Talk.{goes}

-- What the two hosts keep before a message.
pub record Memories : Type 0 where
  pub speaker : Memory
  pub hearer : Memory

-- 02, M-107: for each message bits and probes with which filters over any rows of a table keep the filter rules.
abbrev pub GoodSets : (ℕ → Setting) → Type 0
GoodSets set = (i : ℕ) → SettingGood (set i).bits (set i).probes

-- For each message what its speaker builds the filter with and what it passes; the joint set; the bytes of the tables and of what waits beside them, numbered as in
-- walk_ends_sessions TalkEnds; and what is lent for each message.
module _ (set : ℕ → Setting) (pass : ℕ → Passes) (J : List Row) (t w : ℕ → List ℕ) (hosts : ℕ → Host) where
  -- The tables that the bytes are.
  abbrev pub change_tables : ℕ → List Row
  change_tables = λ i. table_of (t i)

  -- What waits beside them.
  abbrev pub waiting_tables : ℕ → List Waiting
  waiting_tables = λ i. waiting_of (w i)

  -- Message i: its speaker plans and writes it, the other one hears it beside its table after loading; its rows before are those before loading.
  pub record CallsTurn (i : ℕ) (s s' : Memories) : Type 0 where
    pub table : Tabled (t (suc i))
    pub loaded : Tabled (t (suc (suc i)))
    pub waits : Beside (change_tables (suc i)) (w (suc i))
    pub message : List ℕ
    pub speaks : Speaks (set i) (pass i) (hosts i) (t (suc i)) table.index (w (suc i)) s.speaker s'.hearer message
    pub hears : Hears (t (suc (suc i))) loaded.index (length (change_tables i)) message s.hearer s'.speaker

  -- n messages from two fresh sessions on, each from the memories that the one before it left.
  pub record TalkOfEnds (n : ℕ) : Type 0 where
    pub at : ℕ → Memories
    pub fresh_speaker : Fresh (at 0).speaker
    pub fresh_hearer : Fresh (at 0).hearer
    pub made : (i : ℕ) → i < n → CallsTurn i (at i) (at (suc i))

  -- ---- what is to be shown

  -- The sessions of walk_ends_sessions over the tables that the bytes are.
  abbrev pub units : ℕ → Units set pass J change_tables waiting_tables hosts
  units = units_at set pass J change_tables waiting_tables hosts

  -- What is said in message i.
  abbrev pub said_in_turn : ℕ → Planned
  said_in_turn i = said set pass J change_tables waiting_tables hosts i (units i)

  -- Both memories hold the sessions before message i.
  pub record AreUnits (i : ℕ) (s : Memories) : Type 0 where
    pub speaker : Holds (units i).speaker s.speaker
    pub hearer : Holds (units i).hearer s.hearer

  -- All calls of message i answer 0; the plan is a message, and its hash list is what goes across.
  pub record TurnAnswered (i : ℕ) (s s' : Memories) (r : CallsTurn i s s') : Type 0 where
    pub speaks : SaidSo r.speaks.answer r.speaks.written r.speaks.out' (goes (said_in_turn i))
    pub hears : get_or r.hears.answer 0 0 ≡ 0

  -- All that is granted, of each message that is reached.
  abbrev pub AllMessagesGranted : Type 0
  AllMessagesGranted = (i : ℕ) → MessageReached set pass J change_tables waiting_tables hosts i → MessageGranted set pass J change_tables waiting_tables hosts i

  -- The user's words, of the calls: both units meet as in walk_ends_sessions, and for the messages up to the last one all calls answer 0.
  pub record CallsMeet (n : ℕ) (talk : TalkOfEnds n) : Type 0 where
    pub meet : EndsMeet set pass J change_tables waiting_tables hosts (lacking J (change_tables 1)) (lacking J (change_tables 0))
    pub all : (i : ℕ) → i ≤ meet.last → (h : i < n) → TurnAnswered i (talk.at i) (talk.at (suc i)) (talk.made i h)

  -- What the plan call of message i puts into words and buffers is the plan that is held beside the end's words: heads, need, haves and list.
  pub record TurnStated (i : ℕ) (s s' : Memories) (r : CallsTurn i s s') : Type 0 where
    pub stated : EndsStated set pass J change_tables waiting_tables hosts i
    pub puts : plan_in r.speaks.answer r.speaks.out' ≡ stated.agrees.message

  -- What hosts lend: good tables before every message, bytes of changes, and buffers with room.
  pub record LendsEnds : Type 0 where
    pub tables : (i : ℕ) → Tabled (t i)
    pub waits : (i : ℕ) → Beside (change_tables i) (w i)
    pub changes : (i : ℕ) → HostBytes (hosts i)
    pub out : Buffers
    pub wide : RoomyOut out
    pub buffer : List ℕ
    pub room : sizes.message ≤ length buffer

-- What is given at the start, as bytes: two tables with a joint set within the row limit, nothing waits, and every change fits where a pick is passed.
pub record GivenEnds (pass : ℕ → Passes) (J : List Row) (t w : ℕ → List ℕ) : Type 0 where
  pub joint : Joint J (table_of (t 1)) (table_of (t 0))
  pub limit : length J ≤ sizes.rows
  pub first : Tabled (t 1)
  pub second : Tabled (t 0)
  pub nothing_first : waiting_of (w 1) ≡ []
  pub nothing_second : waiting_of (w 0) ≡ []
  pub fits : (i : ℕ) → FitIn (table_of (t (suc i))) (pass i)

-- A talk of calls is the talk of steps.
abbrev pub CallsAreUnits : Type 0
CallsAreUnits = (set : ℕ → Setting) → GoodSets set
    → (pass : ℕ → Passes) (J : List Row) (t w : ℕ → List ℕ) (hosts : ℕ → Host) (n : ℕ) (talk : TalkOfEnds set pass J t w hosts n)
    → (i : ℕ) → i ≤ n
    → AreUnits set pass J t w hosts i (talk.at i)

-- Message by message the calls put the words of an end, as long as what is granted was so before and what is passed is accepted.
abbrev pub CallsStateEnds : Type 0
CallsStateEnds = (set : ℕ → Setting) → GoodSets set
    → (pass : ℕ → Passes) (J : List Row) (t w : ℕ → List ℕ) (hosts : ℕ → Host) (n : ℕ) (talk : TalkOfEnds set pass J t w hosts n)
    → GivenEnds pass J t w
    → (i : ℕ) (h : i < n)
    → MessageUnderway set pass J (change_tables set pass J t w hosts) (waiting_tables set pass J t w hosts) hosts i
    → MessageAccepted set pass J (change_tables set pass J t w hosts) (waiting_tables set pass J t w hosts) hosts i
    → TurnStated set pass J t w hosts i (talk.at i) (talk.at (suc i)) (talk.made i h)

-- Both units hold the joint set after at most max(j, k) + 1 exchanges of calls, each of which answers 0.
abbrev pub CallsMeetEnds : Type 0
CallsMeetEnds = (set : ℕ → Setting) → GoodSets set
    → (pass : ℕ → Passes) (J : List Row) (t w : ℕ → List ℕ) (hosts : ℕ → Host) (n : ℕ) (talk : TalkOfEnds set pass J t w hosts n)
    → GivenEnds pass J t w
    → AllMessagesGranted set pass J t w hosts
    → CallsMeet set pass J t w hosts n talk

-- A talk of calls can always be made, so that no statement about such talks is empty.
abbrev pub CallsGoEnds : Type 0
CallsGoEnds = (set : ℕ → Setting) → GoodSets set
    → (pass : ℕ → Passes) (J : List Row) (t w : ℕ → List ℕ) (hosts : ℕ → Host) → LendsEnds set pass J t w hosts
    → (s : Memories) → Fresh s.speaker → Fresh s.hearer
    → (n : ℕ)
    → TalkOfEnds set pass J t w hosts n
