-- A message's heads beside a table. Each law is one turn of a loop, with its tests as hypotheses: what the heads from number k on decide and mark is
-- what all of them do; and an index has the marked ones of the first rows in ascending order of hash, so the rest of both lists decides whether they
-- are the same.
use Prim.Native.Nat.{ℕ, suc, ◌+◌, ◌-◌, ◌*◌, ◌≤◌, ◌<◌}
use mathlib.Core.Bool.{Bool, true, false, not, ◌&&◌, ◌||◌}
use mathlib.Core.List.{List}
use mathlib.Core.Path.{◌≡◌, sym, ◌∙◌}
use native.Mathlib.Omega.{arith}
use lib.ListN.{length, get_or, set}
use Rattle.table_graph.proofs.GraphMarks.{below_blank, picked_heads}
use Rattle.table_graph.proofs.HeadLaws.{head_is}
use Rattle.table_graph.proofs.MarkLaws.{mark_list, hash_held, hash_unknown, list_start, list_on, list_done, list_marked}
use Rattle.table_graph.specs.Graph.{needed, heads}
use Rattle.table_graph.specs.Internal.Marks.{Marks, Blank, picked}
use Rattle.hash_lists.proofs.CompareLaws.{onward, test_starts, test_fails, test_on, test_ends, found_held, found_unknown}
use Rattle.hash_lists.proofs.Lists.{same_equal}
use Rattle.hash_lists.specs.Lists.{same}
use Rattle.hash_order.proofs.ReachLaws.{some_witness}
use Rattle.hash_order.specs.Order.{every, member, ascend}
use Rattle.hash_order.specs.Reach.{some_below, reach}
use Rattle.rules.proofs.Cases.{split, and_false, true_false}
use Rattle.rules.specs.Hash.{hash_at, hashes_at}
use Rattle.rules.specs.Sizes.{sizes}
use Rattle.table.proofs.TableLaws.{length_rows_at, held_row, number_of_row, hash_of_row}
use Rattle.table.specs.TableBytes.{row_size, rows_at, GoodRows}
use Rattle.table.specs.Table.{Row, rows, hash_of, deps_of, GoodTable, index_in, held}
use Rattle.receive_parts.specs.Internal.ReceiveParts.{HeadsMarked}

-- ---- heads marked, and whether all are held

module _ (table : List ℕ) (n : ℕ) (s : List ℕ) (place many : ℕ) where
  abbrev t : List Row
  t = rows_at table 0 n

  abbrev hs : List ℕ
  hs = hashes_at s place many

  -- the heads before number k are marked, and `all` says whether these are held
  pub record Marking (marks₀ marks : List Bool) (all : Bool) (k : ℕ) : Type 0 where
    pub known : (all && every (held t) (onward s place many k)) ≡ every (held t) hs
    pub rest : mark_list (rows t) marks (hashes_at s (place + sizes.hash * k) (many - k)) ≡ mark_list (rows t) marks₀ hs

  pub marking_starts : (marks₀ : List Bool) → Marking marks₀ marks₀ true 0
  marking_starts marks₀ =
      record { known = test_starts (held t) s place many; rest = list_start table n s place many marks₀ }

  module _ (marks₀ marks : List Bool) (all : Bool) (k row : ℕ) (so : Marking marks₀ marks all k) (inside : k < many)
      (found : row ≡ index_in (rows t) (hash_at s (place + sizes.hash * k))) where
    pub marking_unknown : n ≤ row → Marking marks₀ marks false (k + 1)
    marking_unknown l =
        let none : every (held t) (onward s place many k) ≡ false =
        test_fails (held t) s place many k inside (found_unknown table n (hash_at s (place + sizes.hash * k)) row found l)
        in
        record {
          known = sym (and_false all) ∙ (rw none at so.known);
          rest = sym (list_on table n s place many marks marks k inside (hash_unknown table n marks _ row found l)) ∙ so.rest;
        }

    pub marking_held : row < n → (next : List Bool) → next ≡ set marks row true → Marking marks₀ next all (k + 1)
    marking_held l next e =
        let on : every (held t) (onward s place many k) ≡ every (held t) (onward s place many (k + 1)) =
        test_on (held t) s place many k inside (found_held table n (hash_at s (place + sizes.hash * k)) row found l)
        in
        record {
          known = rw on at so.known;
          rest = sym (list_on table n s place many marks next k inside (e ∙ hash_held table n marks _ row found l)) ∙ so.rest;
        }

  module _ (marks₀ marks : List Bool) (all : Bool) (k : ℕ) (so : Marking marks₀ marks all k) (out : many ≤ k) where
    all_known : (b : Bool) → (b && every (held t) (onward s place many k)) ≡ every (held t) hs → b ≡ every (held t) hs
    all_known true e = sym (test_ends (held t) s place many k out) ∙ e
    all_known false e = e

    -- nothing was sent, so no mark is asked for
    pub marking_alone : (sent : ℕ) → sent ≡ 0 → HeadsMarked table n hs sent marks all
    marking_alone sent e = record { rows = λ h. absurd (omega arith); known = all_known all so.known }

    pub marking_ends : GoodRows table n → n ≤ length marks₀ → Blank n marks₀ → (sent : ℕ) (after : List Bool)
        → Marks n after (reach n (λ i. get_or marks i false) (λ i j. member j (deps_of t i)))
        → HeadsMarked table n hs sent after all
    marking_ends good room none sent after below =
        let is : marks ≡ mark_list (rows t) marks₀ hs = sym (list_done table n s place many marks k out) ∙ so.rest in
        let listed : Marks n marks (λ i. get_or marks₀ i false || member (hash_of t i) hs) = list_marked table n s place many good marks₀ marks room is in
        record { rows = λ _. below_blank table n hs marks₀ marks after none listed below; known = all_known all so.known }

-- ---- heads

-- the rows that none needs are the heads
pub decided_heads : (table theirs : List ℕ) (n : ℕ) {r : List Bool} {b : Bool} → Marks n r (λ i. not (needed (rows_at table 0 n) i))
    → b ≡ same theirs (ascend (picked (rows (rows_at table 0 n)) r))
    → b ≡ same theirs (heads (rows_at table 0 n))
decided_heads table theirs n {r} {b} those e = rw (picked_heads table n r those) at e

-- the last row is a head, so lists without it aren't the heads
module _ (t : List Row) (good : GoodTable t) (i : ℕ) (last : suc i ≡ length t) where
  last_unneeded : needed t i ≡ false
  unfolding needed
  last_unneeded =
      split (some_below (length t) (λ k. member i (deps_of t k)))
      (λ e.
      let w = some_witness (length t) (λ k. member i (deps_of t k)) e in
      absurd (omega (arith, w.less, good.down w.k i w.less w.is)))
      (λ e. e)

  last_head : member (hash_of t i) (heads t) ≡ true
  last_head =
      let inside : i < length t = omega arith in
      head_is t good (hash_of t i) ∙ rw (held_row t i inside, number_of_row t good i inside, last_unneeded)

  pub without_last : (hs : List ℕ) → member (hash_of t i) hs ≡ false → same hs (heads t) ≡ false
  without_last hs e =
      split (same hs (heads t))
      (λ f.
      let is : hs ≡ heads t = same_equal hs (heads t) f in
      absurd (true_false _ (rw is last_head) e))
      (λ f. f)

pub lacks_last : (table : List ℕ) (n : ℕ) → GoodRows table n → 0 < n → (hs : List ℕ) → member (hash_at table ((n - 1) * row_size)) hs ≡ false
    → same hs (heads (rows_at table 0 n)) ≡ false
lacks_last table n good h hs e =
    let is : hash_of (rows_at table 0 n) (n - 1) ≡ hash_at table ((n - 1) * row_size) = hash_of_row table n (n - 1) (omega arith) in
    without_last (rows_at table 0 n) good.good (n - 1) (omega (arith, length_rows_at table 0 n)) hs (rw is e)
