-- Numbers of parts, one law for each way out, with the code's tests as hypotheses; and room for the parts. Assumes nothing.
use Prim.Native.Nat.{ℕ, zero, suc, ◌*◌, ◌≤◌, ◌<◌}
use mathlib.Core.Bool.{Bool, true, false, not, ◌&&◌}
use mathlib.Core.List.{List}
use mathlib.Core.Path.{◌≡◌, ap, ◌∙◌}
use borrow.Author.Tests.{lt-ltb, le-ltb, eq-eqb, ne_eqb}
use lib.Dec.{ltb, eqb}
use lib.ListN.{length}
use lib.Seq.{sets}
use Rattle.table_graph.specs.Graph.{below_row, below}
use Rattle.table_graph.specs.Internal.Marks.{Marks}
use Rattle.hash_lists.specs.Lists.{same}
use Rattle.rules.specs.Sizes.{sizes}
use native.Mathlib.Omega.{arith}
use Rattle.hash_order.specs.Order.{keep}
use Rattle.receive_parts.proofs.LeftLaws.{left_below}
use Rattle.receive_parts.specs.Internal.ReceiveParts.{held_marked}
use Rattle.rules.proofs.Cases.{split}
use Rattle.rules.specs.Hash.{hashes_at, hashes_bytes}
use Rattle.table.specs.TableBytes.{rows_at}
use Rattle.receive_make.specs.Internal.ReceiveMake.{told_heads, last_sent_count, kept_hashes}

-- ---- numbers of parts

pub no_changes : (chunks : ℕ) (read_only : Bool) → chunks ≤ 0 → ltb 0 chunks ≡ (ltb 0 chunks && not read_only)
no_changes chunks read_only h = rw (le-ltb 0 chunks h)

pub some_changes : (chunks : ℕ) (read_only : Bool) → 0 < chunks → not read_only ≡ (ltb 0 chunks && not read_only)
some_changes chunks read_only h = rw (lt-ltb 0 chunks h)

module _ (chunks count : ℕ) (hs old : List ℕ) where
  pub brings_some : 0 < chunks → 0 ≡ told_heads chunks count hs old
  unfolding told_heads
  brings_some h = rw (lt-ltb 0 chunks h)

  pub is_told : chunks ≤ 0 → same hs old ≡ true → count ≡ told_heads chunks count hs old
  unfolding told_heads
  is_told h e = rw (le-ltb 0 chunks h, e)

  pub not_told : chunks ≤ 0 → same hs old ≡ false → 0 ≡ told_heads chunks count hs old
  unfolding told_heads
  not_told h e = rw (le-ltb 0 chunks h, e)

module _ (heads told before : ℕ) where
  pub last_none : heads ≡ 0 → 0 ≡ last_sent_count heads told before
  unfolding last_sent_count
  last_none e = rw (eq-eqb heads 0 e)

  pub last_told : (heads ≡ 0 → ⊥) → 0 < told → told ≡ last_sent_count heads told before
  unfolding last_sent_count
  last_told f h = rw (ne_eqb heads 0 f, lt-ltb 0 told h)

  pub last_stays : (heads ≡ 0 → ⊥) → told ≤ 0 → before ≡ last_sent_count heads told before
  unfolding last_sent_count
  last_stays f h = rw (ne_eqb heads 0 f, le-ltb 0 told h)

pub kept_none : (heads sent : ℕ) → heads ≡ 0 → 0 ≡ kept_hashes heads sent
unfolding kept_hashes
kept_none heads sent e = rw (eq-eqb heads 0 e)

pub kept_all : (heads sent : ℕ) → (heads ≡ 0 → ⊥) → sent ≡ kept_hashes heads sent
unfolding kept_hashes
kept_all heads sent f = rw (ne_eqb heads 0 f)

-- ---- room for the parts

pub kept_most : (heads sent : ℕ) → kept_hashes heads sent ≤ sent
unfolding kept_hashes
kept_most heads sent = split (eqb heads 0) (λ e. rw e (omega arith)) (λ e. rw e (omega arith))

-- hashes that are gone through are there
pub keeps_there : (heads sent keeps room : ℕ) → keeps ≡ kept_hashes heads sent → sizes.hash * sent ≤ room → sizes.hash * keeps ≤ room
keeps_there heads sent keeps room e h = omega (arith, kept_most heads sent)

-- marks are asked for where hashes were sent, and where none were none are left
pub left_marked : (table : List ℕ) (n : ℕ) (marks : List Bool) (l s : List ℕ) (heads sent keeps : ℕ)
    → (0 < sent → Marks n marks (below_row (rows_at table 0 n) l))
    → keeps ≡ kept_hashes heads sent
    → keep (λ h. not (held_marked (rows_at table 0 n) marks h)) (hashes_at s 0 keeps)
    ≡ keep (λ h. not (below (rows_at table 0 n) l h)) (hashes_at s 0 (kept_hashes heads sent))
unfolding hashes_at keep kept_hashes
left_marked table n marks l s heads zero keeps rows e =
    let none : keeps ≡ 0 = split (eqb heads 0) (λ q. rw q at e) (λ q. rw q at e) in
    let still : kept_hashes heads 0 ≡ 0 = split (eqb heads 0) (λ q. rw q) (λ q. rw q) in
    rw (none, still)
left_marked table n marks l s heads (suc k) keeps rows e = rw (← e) (left_below table n marks l (rows (omega arith)) (hashes_at s 0 keeps))

-- so are those that are counted
pub left_counted : (table : List ℕ) (n : ℕ) (marks : List Bool) (l s : List ℕ) (heads sent keeps count : ℕ)
    → (0 < sent → Marks n marks (below_row (rows_at table 0 n) l))
    → keeps ≡ kept_hashes heads sent
    → count ≡ length (keep (λ h. not (held_marked (rows_at table 0 n) marks h)) (hashes_at s 0 keeps))
    → count ≡ length (keep (λ h. not (below (rows_at table 0 n) l h)) (hashes_at s 0 (kept_hashes heads sent)))
left_counted table n marks l s heads sent keeps count rows e c = c ∙ ap length (left_marked table n marks l s heads sent keeps rows e)

-- and those that are moved to the front
pub left_trimmed : (table : List ℕ) (n : ℕ) (marks : List Bool) (l s after : List ℕ) (heads sent keeps : ℕ)
    → (0 < sent → Marks n marks (below_row (rows_at table 0 n) l))
    → keeps ≡ kept_hashes heads sent
    → after ≡ sets s 0 (hashes_bytes (keep (λ h. not (held_marked (rows_at table 0 n) marks h)) (hashes_at s 0 keeps)))
    → after ≡ sets s 0 (hashes_bytes (keep (λ h. not (below (rows_at table 0 n) l h)) (hashes_at s 0 (kept_hashes heads sent))))
left_trimmed table n marks l s after heads sent keeps rows e c =
    c ∙ ap (λ (hs : List ℕ). sets s 0 (hashes_bytes hs)) (left_marked table n marks l s heads sent keeps rows e)
