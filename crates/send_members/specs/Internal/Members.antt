-- S. 01, Hashes to send: the peer may lack what lies beyond all that its haves name and what no filter of them has; and who lacks a change lacks what
-- depends on it.
use Rattle.std.specs.Prelude.{ℕ, ◌+◌, ◌*◌, ◌≤◌, ◌<◌, Bool, false, not, ◌&&◌, ◌||◌, List, [], ◌∷◌, ◌++◌, map, length, get_or}
use Rattle.bloom.specs.Filter.{Filter}
use Rattle.bloom.specs.Have.{Have, have_count, filters_of, sync_place, sync_count}
use Rattle.table_graph.specs.Graph.{below_row}
use Rattle.hash_order.specs.Order.{member}
use Rattle.hash_order.specs.Reach.{reach}
use Rattle.bloom_probe.specs.Contains.{any_contains}
use Rattle.rules.specs.Hash.{hash_at}
use Rattle.rules.specs.Sizes.{sizes}
use Rattle.table.specs.TableBytes.{row_size, used_at}
use Rattle.table.specs.Table.{Row, hash_of, deps_of, rows_where}

-- The last-sync hashes of all haves.
unfoldable pub last_syncs : List Have → List ℕ
last_syncs [] = []
last_syncs (h ∷ hs) = h.last_sync ++ last_syncs hs

-- The filters of all haves.
unfoldable pub filters : List Have → List Filter
filters haves = map (λ (h : Have). h.filter) haves

-- Candidates, by row number: the rows beyond all haves' last-sync hashes.
unfoldable pub candidate : List Row → List Have → ℕ → Bool
candidate t haves i = not (below_row t (last_syncs haves) i)

-- Candidates that every filter misses.
unfoldable pub missed : List Row → List Have → ℕ → Bool
missed t haves i = candidate t haves i && not (any_contains (filters haves) (hash_of t i))

-- S, by row number: the missed ones, and from each member to the candidates that depend on it.
unfoldable pub in_the_s : List Row → List Have → ℕ → Bool
in_the_s t haves i = reach (length t) (missed t haves) (λ k j. candidate t haves j && member k (deps_of t j)) i

-- S in table order.
unfoldable pub the_s : List Row → List Have → List ℕ
the_s t haves = rows_where t (in_the_s t haves)

-- ---- what internal contracts speak of; no rule of 01 stands here

-- Whether p holds for some number of a list.
unfoldable pub some_of : (ℕ → Bool) → List ℕ → Bool
some_of p [] = false
some_of p (k ∷ ks) = p k || some_of p ks

-- Whether row i is in S, where the members before it are marked and `synced` says that it lies below a last-sync hash.
abbrev pub is_member : List ℕ → ℕ → List ℕ → List ℕ → Bool → List Bool → Bool
is_member table i s haves synced members =
    not synced
    && (some_of (λ k. get_or members k false) (used_at table i) || not (any_contains (filters_of s haves) (hash_at table (i * row_size))))

-- Every have's last-sync hashes stand inside the lent bytes.
pub record SyncsInside (s haves : List ℕ) : Type 0 where
  pub each : (i : ℕ) → i < have_count haves → sync_place haves i + sizes.hash * sync_count haves i ≤ length s
