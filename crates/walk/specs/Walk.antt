-- The catch-up walk, and what the user wants of it (demand 3). 01, The catch-up walk. `Walk` assumes no setting of filters, no choice of last-sync hashes
-- and no order of loading: it leaves them free each round. `Walk01` is the walk as 01 tells it, with any filter that 01 accepts.
use Rattle.std.specs.Prelude.{ℕ, zero, suc, ◌≤◌, Bool, true, false, not, ◌&&◌, List, [], ◌++◌, ◌≡◌, length}
use Rattle.bloom.specs.Filter.{field_size, filter_rules}
use Rattle.bloom.specs.Have.{Have}
use Rattle.table_graph.specs.Graph.{heads, beyond}
use Rattle.waiting_missing.specs.Missing.{missing}
use Rattle.hash_order.specs.Order.{member, keep, every, often}
use Rattle.send.specs.ToSend.{to_send_less}
use Rattle.session.specs.Plan.{haves_for}
use Rattle.table.specs.Table.{Row, GoodTable, rows, held}
use Rattle.waiting.specs.Waiting.{Waiting}
use Rattle.walk.specs.Round.{Part, Gives, trim, Picks, Loads}

-- Where a walk stands: B, W and T, and all hashes that the replies have named, reply after reply.
pub record At : Type 0 where
  pub table : List Row
  pub waits : List Waiting
  pub sent : List ℕ
  pub named : List ℕ

-- Before the first round: nothing waits, was sent or named.
abbrev pub starting : List Row → At
starting b = record { table = b; waits = []; sent = []; named = [] }

-- The heads that B has heard before round k, counted from 0: none in round one, A's ever after.
unfoldable pub heard_in : ℕ → List Row → List ℕ
heard_in zero A = []
heard_in (suc k) A = heads A

-- Step 1: B's need, what is missing from the heads heard.
abbrev pub walk_need : List ℕ → At → List ℕ
walk_need heard s = missing s.table s.waits heard

-- Steps 3 and 4: what A offers to B's heads, haves and need.
abbrev pub offer_to : List Row → List ℕ → At → List Have → List ℕ
offer_to A heard s haves = to_send_less A haves (walk_need heard s) (trim A (heads s.table) s.sent)

-- A round in which these haves are given and this reply goes.
pub record Round (A : List Row) (heard : List ℕ) (s : At) (haves : List Have) (reply : List ℕ) (s' : At) : Type 0 where
  pub gives : Gives s.table s.waits heard haves
  pub picks : Picks (offer_to A heard s haves) reply
  pub loads : Loads A s.table s.waits reply s'.table s'.waits
  pub sends : s'.sent ≡ trim A (heads s.table) s.sent ++ reply
  pub names : s'.named ≡ s.named ++ reply

-- Walk A B k s: k rounds from B on, which lead to s.
pub data Walk (A B : List Row) : ℕ → At → Type 0 where
  start : Walk A B 0 (starting B)
  round : {k : ℕ} {s s' : At} (haves : List Have) (reply : List ℕ) → Walk A B k s → Round A (heard_in k A) s haves reply s' → Walk A B (suc k) s'

-- The filter over the rows beyond l is one that 01 accepts.
abbrev pub accepted : ℕ → ℕ → List Row → List ℕ → Bool
accepted bits probes t l = filter_rules (length (beyond t l)) bits probes (field_size (length (beyond t l)) bits)

-- 01's own round, to be held beside its five steps: B names l, which it holds, builds its filter with these bits and probes, one that is accepted, and
-- the whole offer goes.
pub record Round01 (bits probes : ℕ) (A : List Row) (heard l : List ℕ) (s : At) (haves : List Have) (reply : List ℕ) (s' : At) : Type 0 where
  pub holds : (h : ℕ) → member h l ≡ true → held s.table h ≡ true
  pub setting : accepted bits probes s.table l ≡ true
  pub have : haves ≡ haves_for bits probes s.table (walk_need heard s) heard l
  pub whole : reply ≡ offer_to A heard s haves
  pub loads : Loads A s.table s.waits reply s'.table s'.waits
  pub sends : s'.sent ≡ trim A (heads s.table) s.sent ++ reply
  pub names : s'.named ≡ s.named ++ reply

-- 01's walk: bits, probes and last-sync hashes may be others each round.
pub data Walk01 (bits probes : ℕ → ℕ) (L : ℕ → List ℕ) (A B : List Row) : ℕ → At → Type 0 where
  start : Walk01 bits probes L A B 0 (starting B)
  round : {k : ℕ} {s s' : At} (haves : List Have) (reply : List ℕ) → Walk01 bits probes L A B k s
      → Round01 (bits k) (probes k) A (heard_in k A) (L k) s haves reply s'
      → Walk01 bits probes L A B (suc k) s'

-- 01's walk is a walk.
abbrev pub Walk01Walks : Type 0
Walk01Walks = (bits probes : ℕ → ℕ) (L : ℕ → List ℕ) (A B : List Row) → GoodTable A → Part A B → (k : ℕ) (s : At) → Walk01 bits probes L A B k s → Walk A B k s

-- Each round of 01's walk is a round.
abbrev pub Round01Rounds : Type 0
Round01Rounds = (bits probes : ℕ) (A : List Row) (heard l : List ℕ) (s : At) (haves : List Have) (reply : List ℕ) (s' : At)
    → Round01 bits probes A heard l s haves reply s'
    → Round A heard s haves reply s'

-- No row that B holds is in a reply of it.
abbrev pub Walk01New : Type 0
Walk01New = (bits probes : ℕ → ℕ) (L : ℕ → List ℕ) (A B : List Row) → GoodTable A → Part A B → (k : ℕ) (s s' : At) (haves : List Have) (reply : List ℕ)
    → Walk01 bits probes L A B k s
    → Round01 (bits k) (probes k) A (heard_in k A) (L k) s haves reply s'
    → (h : ℕ)
    → member h reply ≡ true
    → held s.table h ≡ false

-- 01's walk can always go on, with any last-sync hashes that B holds and any bits and probes that are accepted.
abbrev pub Walk01Goes : Type 0
Walk01Goes = (bits probes : ℕ → ℕ) (L : ℕ → List ℕ) (A B : List Row) (k : ℕ) (s : At) → Walk01 bits probes L A B k s
    → accepted (bits k) (probes k) s.table (L k) ≡ true
    → ((h : ℕ) → member h (L k) ≡ true → held s.table h ≡ true)
    → (s' : At) × Walk01 bits probes L A B (suc k) s'

-- Whether B holds every row of A.
abbrev pub holds_all : List Row → List Row → Bool
holds_all A b = every (held b) (rows A)

-- m: how many rows of A aren't in B.
abbrev pub lacking : List Row → List Row → ℕ
lacking A b = length (keep (λ h. not (held b h)) (rows A))

-- Demand 3, a promise a line.
pub record Demand3 (A B : List Row) : Type 0 where
  -- B holds A after m + 1 rounds, and stays so
  pub ends : (k : ℕ) (s : At) → Walk A B k s → suc (lacking A B) ≤ k → holds_all A s.table ≡ true
  -- no row that B holds is in a reply
  pub new : (k : ℕ) (s s' : At) (haves : List Have) (reply : List ℕ) → Walk A B k s → Round A (heard_in k A) s haves reply s'
      → (h : ℕ)
      → member h reply ≡ true
      → held s.table h ≡ false
  -- none is named twice, in one reply or in two
  pub once : (k : ℕ) (s : At) → Walk A B k s → (h : ℕ) → often h s.named ≤ 1
  -- when B holds A, whenever that is, the replies have named m rows: those that it lacked
  pub count : (k : ℕ) (s : At) → Walk A B k s → holds_all A s.table ≡ true → length s.named ≡ lacking A B
  pub which : (k : ℕ) (s : At) → Walk A B k s → holds_all A s.table ≡ true
      → (h : ℕ)
      → member h s.named ≡ (held A h && not (held B h))
  -- what B held stays held, and it stays a part of A
  pub part : (k : ℕ) (s : At) → Walk A B k s → Part A s.table
  pub kept : (k : ℕ) (s : At) → Walk A B k s → (h : ℕ) → held B h ≡ true → held s.table h ≡ true
  -- a walk can always go on, with any have that may be given and with the whole offer: the other promises aren't about nothing
  pub goes : (k : ℕ) (s : At) → Walk A B k s → (haves : List Have) → Gives s.table s.waits (heard_in k A) haves
      → (s' : At) × Round A (heard_in k A) s haves (offer_to A (heard_in k A) s haves) s'

-- What is to be shown.
abbrev pub Theorem1 : Type 0
Theorem1 = (A B : List Row) → GoodTable A → Part A B → Demand3 A B
