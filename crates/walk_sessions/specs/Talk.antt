-- Two fresh sessions beside the walk. 01, The catch-up walk, its last rule: over these tables, B speaking first, the sessions state the walk's heads, needs,
-- haves and replies until B holds A. The steps are those that the calls are proved equal to (session Plan, session Receive), and bytes pass between them:
-- what is heard is the reading of what was written.
use Rattle.std.specs.Prelude.{ℕ, zero, suc, ◌≤◌, ◌<◌, true, false, not, ◌&&◌, List, [], ◌++◌, ◌≡◌, length}
use Rattle.bloom.specs.Filter.{filter_rules, field_size}
use Rattle.bloom.specs.declared.setting.Setting.{Setting}
use Rattle.table_graph.specs.Graph.{heads}
use Rattle.session.specs.Receive.{Received, left, receive_bytes}
use Rattle.session.specs.Written.{Host, message_for}
use Rattle.message.specs.Message.{message_bytes}
use Rattle.waiting_missing.specs.Missing.{missing}
use Rattle.hash_order.specs.Order.{member}
use Rattle.rules.specs.Hash.{AreHashes}
use Rattle.rules.specs.Sizes.{sizes}
use Rattle.send.specs.ToSend.{to_send_less}
use Rattle.session.specs.Plan.{Plan, Planned, list_of, plan, after, haves_for}
use Rattle.session_state.specs.Session.{State, fresh}
use Rattle.table.specs.Table.{Row, GoodTable, rows, held}
use Rattle.waiting.specs.Waiting.{Waiting}
use Rattle.walk.specs.Round.{Part, Loads, trim}
use Rattle.walk.specs.Walk.{At, Walk01, heard_in, holds_all, lacking}
use Rattle.walk_picked.specs.PickedWalk.{WalkPicked}
use Rattle.walk_sessions.specs.Passing.{Passes, plan_passing, AcceptedIn, FitIn, Replies, WalkPassed}

-- The bytes that go across: none where nothing is said.
unfoldable pub bytes_for : Host → Planned → List ℕ
bytes_for host (Planned.refused r) = []
bytes_for host Planned.silent = []
bytes_for host (Planned.reset p) = message_bytes (message_for host p)
bytes_for host (Planned.says p s) = message_bytes (message_for host p)

-- The hashes that go across.
unfoldable pub goes : Planned → List ℕ
goes (Planned.refused r) = []
goes Planned.silent = []
goes (Planned.reset p) = []
goes (Planned.says p s) = p.body.hashes

-- The hosts: what A and what B build the filters of each round with (02, M-107: any allowed pairs, and those need not be the same), what A passes in each round
-- (02, M-110: a pick, or none), B's tables before each round and what waits beside them, what waits beside A (of no account), and what is lent for each round's
-- messages.
module _ (setA set_b : ℕ → Setting) (pass : ℕ → Passes) (A : List Row) (B : ℕ → List Row) (W U : ℕ → List Waiting) (hosts : ℕ → Host) where
  pub record Pair : Type 0 where
    pub at_a : State
    pub at_b : State

  -- Round k: B speaks, A hears it and answers, B hears that beside its table after loading.
  unfoldable pub asked : ℕ → Pair → Planned
  asked k x = plan (set_b k).bits (set_b k).probes (B k) (W k) x.at_b

  -- A hears what B asked.
  unfoldable pub to_a : ℕ → Pair → Received
  to_a k x = receive_bytes true (length A) A x.at_a (bytes_for (hosts k) (asked k x))

  -- A answers.
  unfoldable pub answered : ℕ → Pair → Planned
  answered k x = plan_passing (pass k) (setA k).bits (setA k).probes A (U k) (left (to_a k x) x.at_a)

  -- B hears the answer, beside its table after loading.
  unfoldable pub to_b : ℕ → Pair → Received
  to_b k x = receive_bytes true (length (B k)) (B (suc k)) (after (asked k x) x.at_b) (bytes_for (hosts k) (answered k x))

  -- Both sessions before round k.
  unfoldable pub pair_at : ℕ → Pair
  pair_at zero = record { at_a = fresh; at_b = fresh }
  pair_at (suc k) =
      record {
        at_a = after (answered k (pair_at k)) (left (to_a k (pair_at k)) (pair_at k).at_a);
        at_b = left (to_b k (pair_at k)) (after (asked k (pair_at k)) (pair_at k).at_b);
      }

  -- All hashes that the first k rounds' messages carry.
  unfoldable pub carried : ℕ → List ℕ
  carried zero = []
  carried (suc k) = carried k ++ (goes (asked k (pair_at k)) ++ goes (answered k (pair_at k)))

  -- Round k is reached: after no round before it B held all of A.
  abbrev pub Reached : ℕ → Type 0
  Reached k = (j : ℕ) → j < k → holds_all A (B (suc j)) ≡ false

  -- 02, M-110: the pick that A passes in round k, if it passes one, is accepted.
  abbrev pub PassAccepted : ℕ → Type 0
  PassAccepted k = AcceptedIn A (left (to_a k (pair_at k)) (pair_at k).at_a) (pass k)

  -- What 01 grants in round k, and what 02 does.
  pub record Granted (k : ℕ) : Type 0 where
    pub accepts : PassAccepted k
    -- the reply goes by list
    pub list : (q : Plan) (s : State) → answered k (pair_at k) ≡ Planned.says q s → q.body.document ≡ false
    -- the message that has the reply is within its size; B's message always is
    pub small : length (bytes_for (hosts k) (answered k (pair_at k))) ≤ sizes.message
    -- the reply loads, and what waits then is within its limit
    pub loads : Loads A (B k) (W k) (goes (answered k (pair_at k))) (B (suc k)) (W (suc k))
    pub few : length (W (suc k)) ≤ sizes.waiting_rows

  -- Round k is reached, and every round before it had what 01 grants.
  pub record Underway (k : ℕ) : Type 0 where
    pub reached : Reached k
    pub granted : (j : ℕ) → j < k → Granted j

  -- What is given at the start.
  pub record Tables : Type 0 where
    pub good : GoodTable A
    pub limit : length A ≤ sizes.rows
    pub hashes : AreHashes (rows A)
    pub part : Part A (B 0)
    pub nothing : W 0 ≡ []
    -- where a pick is passed, every change fits the budget
    pub fits : (k : ℕ) → FitIn A (pass k)
    -- filters over A's rows keep the filter rules, at both ends and in each round: all pairs that M-107 allows do
    pub setting_a : (k n : ℕ) → n ≤ length A → filter_rules n (setA k).bits (setA k).probes (field_size n (setA k).bits) ≡ true
    pub setting_b : (k n : ℕ) → n ≤ length A → filter_rules n (set_b k).bits (set_b k).probes (field_size n (set_b k).bits) ≡ true

  -- Round k of the sessions and of the walk whose T is this; L is B's shared heads.
  pub record Agrees (k : ℕ) (T : List ℕ) : Type 0 where
    pub said : Plan
    pub next : State
    pub speaks : asked k (pair_at k) ≡ Planned.says said next
    pub heads_agree : said.heads ≡ heads (B k)
    pub need_agrees : said.need ≡ missing (B k) (W k) (heard_in k A)
    pub haves_agree : said.haves
        ≡ haves_for (set_b k).bits (set_b k).probes (B k) (missing (B k) (W k) (heard_in k A)) (heard_in k A) (pair_at k).at_b.shared_heads
    pub holds : (h : ℕ) → member h (pair_at k).at_b.shared_heads ≡ true → held (B k) h ≡ true
    pub carries_none : said.body ≡ list_of []
    pub heard : State
    pub hears : to_a k (pair_at k) ≡ Received.took heard
    pub reply : Plan
    pub next' : State
    pub replies : answered k (pair_at k) ≡ Planned.says reply next'
    -- where the reply goes by list it is the walk's: the whole offer, or the pick of it that was passed
    pub by_list : reply.body.document ≡ false
        → Replies A (pass k) (to_send_less A said.haves said.need (trim A (heads (B k)) T)) reply.body.hashes

  -- A walk came to round k over B's tables, its replies are what the messages carried, and the round's words are the walk's.
  pub record WalkStated (k : ℕ) : Type 0 where
    pub at : At
    pub walk : WalkPassed pass (λ j. (set_b j).bits) (λ j. (set_b j).probes) (λ j. (pair_at j).at_b.shared_heads) A (B 0) k at
    pub table : at.table ≡ B k
    pub waits : at.waits ≡ W k
    pub replies : at.named ≡ carried k
    pub round : Agrees k at.sent

  -- The sessions are the walk, round by round.
  pub record Statement2 : Type 0 where
    -- in every round that is reached inside what is granted, and where what A passes is accepted, B speaks the walk's words, A hears them and answers, by list
    -- with the walk's reply
    pub stated : (k : ℕ) → Underway k → PassAccepted k → WalkStated k
    -- in every round that is reached and granted B takes A's answer
    pub taken : (k : ℕ) → Underway k → Granted k → (s : State) × (to_b k (pair_at k) ≡ Received.took s)

  -- The user's words: if all is granted in each round that is reached, there is a last one.
  pub record Ended (m : ℕ) : Type 0 where
    pub last : ℕ
    -- after 2 (last + 1) messages, at most 2 (m + 1), the validator holds the station's table, and not before
    pub bound : last ≤ m
    pub reached : Reached last
    pub holds : holds_all A (B (suc last)) ≡ true
    -- each message was said: none is a reset, none refused, none missing
    pub asks : (k : ℕ) → k ≤ last → (q : Plan) × (s : State) × (asked k (pair_at k) ≡ Planned.says q s)
    pub answers : (k : ℕ) → k ≤ last → (q : Plan) × (s : State) × (answered k (pair_at k) ≡ Planned.says q s)
    -- each message was taken at the other end
    pub hears : (k : ℕ) → k ≤ last → (s : State) × (to_a k (pair_at k) ≡ Received.took s)
    pub takes : (k : ℕ) → k ≤ last → (s : State) × (to_b k (pair_at k) ≡ Received.took s)
    -- the messages carry m rows in all, those that the validator lacked
    pub count : length (carried (suc last)) ≡ m
    pub which : (h : ℕ) → member h (carried (suc last)) ≡ (held A h && not (held (B 0) h))

-- What is to be shown of two sessions over such tables.
abbrev pub Theorem2 : Type 0
Theorem2 = (setA set_b : ℕ → Setting) (pass : ℕ → Passes) (A : List Row) (B : ℕ → List Row) (W U : ℕ → List Waiting) (hosts : ℕ → Host)
    → Tables setA set_b pass A B W U hosts
    → Statement2 setA set_b pass A B W U hosts

-- Where no pick is passed the walk that they state is 01's own.
abbrev pub Sessions01 : Type 0
Sessions01 = (setA set_b : ℕ → Setting) (A : List Row) (B : ℕ → List Row) (W U : ℕ → List Waiting) (hosts : ℕ → Host)
    → Tables setA set_b (λ j. Passes.all) A B W U hosts
    → (k : ℕ) → Underway setA set_b (λ j. Passes.all) A B W U hosts k
    → (x : WalkStated setA set_b (λ j. Passes.all) A B W U hosts k)
    × Walk01 (λ j. (set_b j).bits) (λ j. (set_b j).probes) (λ j. (pair_at setA set_b (λ i. Passes.all) A B W U hosts j).at_b.shared_heads) A (B 0) k x.at

-- Where one is passed in each round, with the budget of that round, it is the walk with picks.
abbrev pub SessionsPicked : Type 0
SessionsPicked = (setA set_b : ℕ → Setting) (rowSizes : List ℕ) (budget : ℕ → ℕ) (pick : ℕ → List ℕ) (A : List Row) (B : ℕ → List Row) (W U : ℕ → List Waiting)
    (hosts : ℕ → Host)
    → Tables setA set_b (λ j. Passes.picked rowSizes (budget j) (pick j)) A B W U hosts
    → (k : ℕ) → Underway setA set_b (λ j. Passes.picked rowSizes (budget j) (pick j)) A B W U hosts k
    → PassAccepted setA set_b (λ j. Passes.picked rowSizes (budget j) (pick j)) A B W U hosts k
    → (x : WalkStated setA set_b (λ j. Passes.picked rowSizes (budget j) (pick j)) A B W U hosts k)
    × WalkPicked (λ j. (set_b j).bits) (λ j. (set_b j).probes) budget rowSizes
    (λ j. (pair_at setA set_b (λ i. Passes.picked rowSizes (budget i) (pick i)) A B W U hosts j).at_b.shared_heads) A (B 0) k x.at

-- Where the premises hold, B holds A after at most as many rounds as it lacks rows, and one.
abbrev pub Corollary : Type 0
Corollary = (setA set_b : ℕ → Setting) (pass : ℕ → Passes) (A : List Row) (B : ℕ → List Row) (W U : ℕ → List Waiting) (hosts : ℕ → Host)
    → Tables setA set_b pass A B W U hosts
    → ((k : ℕ) → Reached setA set_b pass A B W U hosts k → Granted setA set_b pass A B W U hosts k)
    → Ended setA set_b pass A B W U hosts (lacking A (B 0))
