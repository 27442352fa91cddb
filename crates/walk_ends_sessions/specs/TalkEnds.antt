-- Two fresh sessions with news at both ends, beside the exchanges of walk_ends. 02, M-111: its exchanges are a definition like the walk; what runs are sessions,
-- so these are shown to state the same. The steps are those that the calls are proved equal to (session Plan, session Receive), and bytes pass between them.
--
-- Messages are counted from 0. Message i is spoken by the unit whose table is T (i + 1), and heard by the other one, whose table is T i before it and T (i + 2)
-- afterwards. So the unit that speaks first has the tables T 1, T 3, T 5 .., the other T 0, T 2, T 4 ..; W has what waits beside them. Two messages are an
-- exchange.
use Rattle.std.specs.Prelude.{ℕ, zero, suc, ◌≤◌, ◌<◌, max, Bool, true, false, not, ◌&&◌, cond, List, [], ◌++◌, ◌≡◌, length}
use Rattle.bloom.specs.Filter.{filter_rules, field_size}
use Rattle.bloom.specs.declared.setting.Setting.{Setting}
use Rattle.hash_order.specs.Order.{member}
use Rattle.rules.specs.Hash.{AreHashes}
use Rattle.rules.specs.Sizes.{sizes}
use Rattle.session.specs.Plan.{Plan, Planned, after, haves_for}
use Rattle.session.specs.Receive.{Received, left, receive_bytes}
use Rattle.session.specs.Written.{Host}
use Rattle.session_state.specs.Session.{State, fresh}
use Rattle.table.specs.Table.{Row, rows, held}
use Rattle.table_graph.specs.Graph.{heads}
use Rattle.waiting.specs.Waiting.{Waiting}
use Rattle.waiting_missing.specs.Missing.{missing}
use Rattle.walk.specs.Round.{Loads}
use Rattle.walk.specs.Walk.{holds_all, lacking}
use Rattle.walk_ends.specs.Ends.{End, heads_heard, list_for, Turns, first_speaks}
use Rattle.walk_ends.specs.Joint.{Joint, twice}
use Rattle.walk_sessions.specs.Passing.{Passes, plan_passing, AcceptedIn, FitIn, Replies}
use Rattle.walk_sessions.specs.Talk.{bytes_for, goes}

-- For each message what its speaker builds the filter with (02, M-107) and what it passes (02, M-110: a pick, or none); J, the joint set; the tables and what
-- waits beside them; and what is lent for each message.
module _ (set : ℕ → Setting) (pass : ℕ → Passes) (J : List Row) (T : ℕ → List Row) (W : ℕ → List Waiting) (hosts : ℕ → Host) where
  -- Both sessions before a message.
  pub record Units : Type 0 where
    pub speaker : State
    pub hearer : State

  -- What is said in message i.
  unfoldable pub said : ℕ → Units → Planned
  said i x = plan_passing (pass i) (set i).bits (set i).probes (T (suc i)) (W (suc i)) x.speaker

  -- It is heard beside the table after loading.
  unfoldable pub taken : ℕ → Units → Received
  taken i x = receive_bytes true (length (T i)) (T (suc (suc i))) x.hearer (bytes_for (hosts i) (said i x))

  -- Both sessions before message i: whoever heard the last one speaks this one.
  unfoldable pub units_at : ℕ → Units
  units_at zero = record { speaker = fresh; hearer = fresh }
  units_at (suc i) =
      record {
        speaker = left (taken i (units_at i)) (units_at i).hearer;
        hearer = after (said i (units_at i)) (units_at i).speaker;
      }

  -- Hashes by who sent them.
  pub record ByUnit : Type 0 where
    pub by_speaker : List ℕ
    pub by_hearer : List ℕ

  -- All that the messages before message i carry.
  unfoldable pub carried_before : ℕ → ByUnit
  carried_before zero = record { by_speaker = []; by_hearer = [] }
  carried_before (suc i) = record { by_speaker = (carried_before i).by_hearer; by_hearer = (carried_before i).by_speaker ++ goes (said i (units_at i)) }

  -- What the unit that spoke first has sent before message i.
  abbrev pub carried_by_first : ℕ → List ℕ
  carried_by_first i = cond (first_speaks i) (carried_before i).by_speaker (carried_before i).by_hearer

  -- What the other one has.
  abbrev pub carried_by_second : ℕ → List ℕ
  carried_by_second i = cond (first_speaks i) (carried_before i).by_hearer (carried_before i).by_speaker

  -- Both units hold the joint set before message i.
  abbrev pub both_hold : ℕ → Bool
  both_hold i = holds_all J (T i) && holds_all J (T (suc i))

  -- Message i is reached: the first exchange always is; afterwards both didn't hold the joint set before it nor before an earlier message.
  abbrev pub MessageReached : ℕ → Type 0
  MessageReached i = (k : ℕ) → 2 ≤ k → k ≤ i → both_hold k ≡ false

  -- 02, M-110: the pick that is passed for message i, if one is, is accepted.
  abbrev pub MessageAccepted : ℕ → Type 0
  MessageAccepted i = AcceptedIn (T (suc i)) (units_at i).speaker (pass i)

  -- What 02 grants of message i, as demand 3 does of a reply.
  pub record MessageGranted (i : ℕ) : Type 0 where
    pub accepts : MessageAccepted i
    -- it goes by list
    pub list : (q : Plan) (s : State) → said i (units_at i) ≡ Planned.says q s → q.body.document ≡ false
    -- it is within its size
    pub small : length (bytes_for (hosts i) (said i (units_at i))) ≤ sizes.message
    -- its changes load beside the table of the one who hears it
    pub loads : Loads J (T i) (W i) (goes (said i (units_at i))) (T (suc (suc i))) (W (suc (suc i)))

  -- Message i is reached, and every message before it had what is granted.
  pub record MessageUnderway (i : ℕ) : Type 0 where
    pub reached : MessageReached i
    pub granted : (k : ℕ) → k < i → MessageGranted k

  -- What is given at the start: two tables with a joint set within the row limit, and nothing waits.
  pub record EndTables : Type 0 where
    pub joint : Joint J (T 1) (T 0)
    pub limit : length J ≤ sizes.rows
    pub hashes : AreHashes (rows J)
    pub nothing_first : W 1 ≡ []
    pub nothing_second : W 0 ≡ []
    -- where a pick is passed, every change fits the budget
    pub fits : (i : ℕ) → FitIn (T (suc i)) (pass i)
    -- filters over rows of the joint set keep the filter rules: all pairs that M-107 allows do
    pub setting : (i n : ℕ) → n ≤ length J → filter_rules n (set i).bits (set i).probes (field_size n (set i).bits) ≡ true

  -- Message i states what the end e states that speaks to f; L is its session's shared heads, which both hold.
  pub record MessageAgrees (i : ℕ) (e f : End) : Type 0 where
    pub message : Plan
    pub next : State
    pub speaks : said i (units_at i) ≡ Planned.says message next
    pub heads_agree : message.heads ≡ heads e.table
    pub need_agrees : message.need ≡ missing e.table e.waits (heads_heard e.heard)
    pub haves_agree : message.haves
        ≡ haves_for (set i).bits (set i).probes e.table (missing e.table e.waits (heads_heard e.heard)) (heads_heard e.heard)
        (units_at i).speaker.shared_heads
    pub holds : (h : ℕ) → member h (units_at i).speaker.shared_heads ≡ true → (held e.table h ≡ true) × (held f.table h ≡ true)
    -- where it goes by list it carries the end's list: all of it, or the pick of it that was passed
    pub by_list : message.body.document ≡ false
        → Replies e.table (pass i) (list_for e.table e.sent e.heard) message.body.hashes

  -- Two ends came to message i over these tables, their lists are what the messages carried_before, and message i states what its end states.
  pub record EndsStated (i : ℕ) : Type 0 where
    pub speaker : End
    pub hearer : End
    pub turns : Turns J (T 1) (T 0) i speaker hearer
    pub speaker_table : speaker.table ≡ T (suc i)
    pub speaker_waits : speaker.waits ≡ W (suc i)
    pub speaker_named : speaker.named ≡ (carried_before i).by_speaker
    pub hearer_table : hearer.table ≡ T i
    pub hearer_waits : hearer.waits ≡ W i
    pub hearer_named : hearer.named ≡ (carried_before i).by_hearer
    pub agrees : MessageAgrees i speaker hearer

  -- The sessions are the ends, message by message. Nobody resets, refuses or is silent before both hold the joint set.
  pub record StatementEnds : Type 0 where
    -- every message that is reached inside what is granted, and for which what is passed is accepted, is said, and states what an end of an exchange states
    pub stated : (i : ℕ) → MessageUnderway i → MessageAccepted i → EndsStated i
    -- every message that is reached and granted is taken at the other end
    pub heard : (i : ℕ) → MessageUnderway i → MessageGranted i → (s : State) × (taken i (units_at i) ≡ Received.took s)

  -- The user's words, where one unit lacks j rows of the joint set and the other k: if all is granted of each message that is reached, there is a last one.
  pub record EndsMeet (j k : ℕ) : Type 0 where
    pub last : ℕ
    -- it belongs to one of the first max(j, k) + 1 exchanges
    pub bound : suc last ≤ twice (suc (max j k))
    pub reached : MessageReached last
    -- after it both hold the joint set
    pub holds : both_hold (suc last) ≡ true
    -- each message was said, none a reset or refused or missing, and taken
    pub says : (i : ℕ) → i ≤ last → (q : Plan) × (s : State) × (said i (units_at i) ≡ Planned.says q s)
    pub takes : (i : ℕ) → i ≤ last → (s : State) × (taken i (units_at i) ≡ Received.took s)
    -- in each direction went just the rows that the other lacked, each once
    pub to_second : length (carried_by_first (suc last)) ≡ k
    pub to_first : length (carried_by_second (suc last)) ≡ j
    pub which_to_second : (h : ℕ) → member h (carried_by_first (suc last)) ≡ (held J h && not (held (T 0) h))
    pub which_to_first : (h : ℕ) → member h (carried_by_second (suc last)) ≡ (held J h && not (held (T 1) h))

-- What is to be shown of two sessions over such tables.
abbrev pub SessionsAreEnds : Type 0
SessionsAreEnds = (set : ℕ → Setting) (pass : ℕ → Passes) (J : List Row) (T : ℕ → List Row) (W : ℕ → List Waiting) (hosts : ℕ → Host)
    → EndTables set pass J T W hosts
    → StatementEnds set pass J T W hosts

-- Where all is granted both hold the joint set after at most max(j, k) + 1 exchanges.
abbrev pub SessionsMeet : Type 0
SessionsMeet = (set : ℕ → Setting) (pass : ℕ → Passes) (J : List Row) (T : ℕ → List Row) (W : ℕ → List Waiting) (hosts : ℕ → Host)
    → EndTables set pass J T W hosts
    → ((i : ℕ) → MessageReached set pass J T W hosts i → MessageGranted set pass J T W hosts i)
    → EndsMeet set pass J T W hosts (lacking J (T 1)) (lacking J (T 0))
