-- What internal contracts speak of: what is put needs room, and marks that were counted. No rule of 01 stands here.
use Rattle.std.specs.Prelude.{ℕ, ◌+◌, ◌*◌, ◌≤◌, ◌<◌, Bool, true, false, List, ◌++◌, ◌≡◌, length, get_or, replicate}
use Rattle.bloom_probe.specs.Build.{add_hashes}
use Rattle.table_graph.specs.Internal.Marks.{marked, picked}
use Rattle.table_index.specs.Index.{Indexed}
use Rattle.hash_once.specs.Internal.Merge.{MergeReady}
use Rattle.hash_order.specs.Order.{ascend}
use Rattle.rules.specs.Hash.{hashes_at}
use Rattle.rules.specs.Sizes.{sizes}
use Rattle.send.specs.Internal.Chosen.{chosen_by}
use Rattle.table.specs.TableBytes.{rows_at}
use Rattle.table.specs.Table.{Row, rows}
use Rattle.plan_decide.specs.Internal.Draft.{list_put, have_put}
use Rattle.plan_decide.specs.declared.puts.Puts.{Puts}

-- The first mark of n from place i on that is set stands at r; r is n if there is none.
pub record NextMarked (n : ℕ) (marks : List Bool) (i r : ℕ) : Type 0 where
  pub from : i ≤ r
  pub upto : r ≤ n
  pub passed : (k : ℕ) → i ≤ k → k < r → get_or marks k false ≡ false
  pub is : r < n → get_or marks r false ≡ true

-- What a field needs, if it has bytes: a bit for each marked row, and no more bytes than a field may have.
abbrev pub FieldReady : ℕ → List Bool → ℕ → Type 0
FieldReady n marks size = (size ≡ 0 → ⊥) → (marked n marks ≤ 8 * size) × (size ≤ sizes.field)

-- What a have needs: its last-sync hashes stand in a buffer of `there` bytes, and there is room for the field behind them.
pub record HaveReady (there syncs size room : ℕ) : Type 0 where
  pub hashes : sizes.hash * syncs ≤ there
  pub fits : sizes.hash * syncs + size ≤ room

-- What putting a message's lists needs, but for the hashes asked for: marks for all rows, and room for what is counted.
pub record MessageReady (p : Puts) (table index : List ℕ) (n : ℕ) (headMarks haveMarks marks needs : List Bool) (their_need : List ℕ)
    (asked shared heads₀ have₀ list₀ : ℕ) : Type 0
  where
    pub rows : Indexed table index n
    pub head_long : n ≤ length headMarks
    pub have_long : n ≤ length haveMarks
    pub row_long : n ≤ length marks
    pub need_long : asked ≤ length needs
    pub asks : sizes.hash * asked ≤ length their_need
    pub heads : (p.heads ≡ 0 → ⊥) → sizes.hash * marked n headMarks ≤ heads₀
    pub have : HaveReady shared p.syncs p.field have₀
    pub field : FieldReady n haveMarks p.field
    pub list : (p.hashes ≡ 0 → ⊥) → sizes.hash * length (chosen_by (rows_at table 0 n) marks (hashes_at their_need 0 asked) needs) ≤ list₀

-- The message's lists as they are put.
pub record MessagePut (p : Puts) (probes : ℕ) (t : List Row) (headMarks haveMarks marks needs : List Bool) (asked shared : List ℕ)
    (heads₀ have₀ list₀ heads₁ have₁ list₁ : List ℕ) : Type 0
  where
    pub heads : heads₁ ≡ list_put p.heads (ascend (picked (rows t) headMarks)) heads₀
    pub have : have₁ ≡ have_put p.syncs shared p.field (add_hashes probes (replicate p.field 0) (picked (rows t) haveMarks)) have₀
    pub list : list₁ ≡ list_put p.hashes (chosen_by t marks asked needs) list₀

-- What putting the session's lists needs.
pub record SessionReady (p : Puts) (table index : List ℕ) (n : ℕ) (headMarks fresh : List Bool) (before last_sent : ℕ) (sent₀ : List ℕ) : Type 0 where
  pub rows : Indexed table index n
  pub head_long : n ≤ length headMarks
  pub fresh_long : n ≤ length fresh
  pub heads : (p.last_sent ≡ 0 → ⊥) → sizes.hash * marked n headMarks ≤ last_sent
  pub sent : (p.sent ≡ 0 → ⊥) → MergeReady (rows_at table 0 n) n fresh sent₀ before p.sent

-- The session's lists as they are put.
pub record SessionPut (p : Puts) (t : List Row) (headMarks fresh : List Bool) (before : ℕ) (lastSent₀ sent₀ lastSent₁ sent₁ : List ℕ) : Type 0 where
  pub heads : lastSent₁ ≡ list_put p.last_sent (ascend (picked (rows t) headMarks)) lastSent₀
  pub sent : sent₁ ≡ list_put p.sent (ascend (picked (rows t) fresh ++ hashes_at sent₀ 0 before)) sent₀
