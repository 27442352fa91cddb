-- Both sides of a talk between two rounds: what each session has heard and sent, and that heads differ as long as B lacks a row. Assumes nothing.
use Prim.Native.Nat.{ℕ, suc, ◌≤◌, ◌<◌}
use mathlib.Core.Bool.{true, false}
use mathlib.Core.List.{List, [], ◌∷◌}
use mathlib.Core.Option.{none, some}
use mathlib.Core.Path.{◌≡◌}
use lib.ListN.{length}
use Rattle.bloom.specs.Filter.{field_size, filter_rules}
use Rattle.bloom.specs.Have.{Have}
use Rattle.table_graph.specs.Graph.{heads}
use Rattle.session.specs.GoodState.{SoundTable, GoodState}
use Rattle.hash_lists.proofs.Lists.{same_equal}
use Rattle.hash_lists.specs.Lists.{same}
use Rattle.hash_order.proofs.KeepLaws.{every_one}
use Rattle.hash_order.specs.Order.{member}
use Rattle.rules.proofs.Cases.{split, true_false}
use Rattle.session_state.specs.Session.{State}
use Rattle.table.specs.Table.{Row, GoodTable, rows, held}
use Rattle.waiting.specs.Waiting.{Waiting}
use Rattle.walk.proofs.Parts.{part_itself, heads_all}
use Rattle.walk.specs.Round.{Part, Covers}
use Rattle.walk.specs.Walk.{holds_all}
use Rattle.walk_sessions.proofs.Waits.{Waits}

-- What never changes: a sound table A, and bits and probes with which filters over no more rows than A's keep the rules.
pub record Fixed (bits probes : ℕ) (A : List Row) : Type 0 where
  pub sound : SoundTable A
  pub setting : (n : ℕ) → n ≤ length A → filter_rules n bits probes (field_size n bits) ≡ true

-- What B has heard before round k: nothing before the first; afterwards A's heads, a need of nothing, and a have that covers B's rows.
pub data HeardBefore (A b : List Row) (s : State) : ℕ → Type 0 where
  nothing : s.their_heads ≡ none → s.their_have ≡ none → s.have_responded ≡ false → HeardBefore A b s 0
  said : {k : ℕ} (v : Have) → s.their_heads ≡ some (heads A) → s.their_need ≡ some [] → s.their_have ≡ some (v ∷ []) → Covers b v
      → HeardBefore A b s (suc k)

-- B before round k: its table b, what waits there, and its session.
pub record SideB (A b : List Row) (w : List Waiting) (k : ℕ) (s : State) : Type 0 where
  -- b is a part of A, and what waits asks for A's dependencies
  pub part : Part A b
  pub waits : Waits A w
  -- the session's lists keep their sizes
  pub good : GoodState s
  -- it takes changes, and so does its peer
  pub writes : s.read_only ≡ false
  pub peer : s.peer_read_only ≡ false
  -- it asks nobody to forget
  pub keeps : s.needs_reset ≡ false
  -- nothing that it said is on its way
  pub lands : s.in_flight ≡ false
  -- it sent no change
  pub sent : s.sent_hashes ≡ []
  -- its shared heads, which are its last-sync hashes, are rows of b: nobody resets
  pub shared : (h : ℕ) → member h s.shared_heads ≡ true → held b h ≡ true
  -- what it has heard makes its body empty
  pub heard_so : HeardBefore A b s k

-- A's session before round k of the walk whose T is this.
pub record SideA (A : List Row) (k : ℕ) (T : List ℕ) (s : State) : Type 0 where
  -- its lists keep their sizes
  pub good : GoodState s
  -- it takes changes
  pub writes : s.read_only ≡ false
  -- it asks nobody to forget
  pub keeps : s.needs_reset ≡ false
  -- it has answered nothing before round one
  pub first : k ≡ 0 → s.have_responded ≡ false
  -- the hashes that it sent have the same members as T
  pub sent : (h : ℕ) → member h s.sent_hashes ≡ member h T
  -- and are rows of A, so there is room for them
  pub own : (h : ℕ) → member h s.sent_hashes ≡ true → held A h ≡ true

-- Round k is still to be talked: it is the first, or b lacks a row.
abbrev pub Going : List Row → List Row → ℕ → Type 0
Going A b k = 0 < k → holds_all A b ≡ false

-- ---- heads differ while b lacks a row

pub not_same : (a b : List ℕ) → (a ≡ b → ⊥) → same a b ≡ false
not_same a b f = split (same a b) (λ e. absurd (f (same_equal a b e))) (λ e. e)

-- a part that holds all of A's heads holds all of A, so these aren't any rows of b
pub heads_apart : (A b : List Row) → GoodTable A → Part A b → holds_all A b ≡ false
    → (l : List ℕ) → ((h : ℕ) → member h l ≡ true → held b h ≡ true)
    → heads A ≡ l → ⊥
unfolding held
heads_apart A b good part lacks l f e =
    true_false (holds_all A b)
    (every_one (held b) (rows A) (heads_all A A b (part_itself A good) part (λ h m. f h (rw e at m))))
    lacks
