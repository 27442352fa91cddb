-- The marked ones of the first rows, ascending: an index has the rows in this order, so those that are marked are put one behind the other. Each law
-- is one turn of the loop, with its tests as hypotheses; what has been put and what is left make the whole.
use Prim.Native.Nat.{ℕ, zero, suc, ◌+◌, ◌-◌, ◌*◌, ◌≤◌, ◌<◌}
use mathlib.Core.Bool.{Bool, true, false, not, ◌&&◌}
use mathlib.Core.List.{List, [], ◌∷◌, map}
use mathlib.Core.Path.{◌≡◌, refl, sym, ap, ◌∙◌}
use native.Mathlib.Omega.{arith}
use borrow.Author.Tests.{lt-ltb, le-ltb}
use lib.Dec.{ltb}
use lib.ListN.{length, get_or, take}
use lib.Seq.{sets, slice}
use Rattle.table_index.proofs.AscendLaws.{ascend_by_index}
use Rattle.table_index.proofs.ByteLaws.{u16s_next, u16s_none}
use Rattle.table_index.specs.Index.{fits}
use Rattle.hash_order.proofs.KeepLaws.{hashes_inside}
use Rattle.hash_order.proofs.OrderLaws.{ascend_most, ascend_members}
use Rattle.hash_order.specs.Order.{keep, ascend, member}
use Rattle.rules.proofs.Hash.{length_hashes_bytes}
use Rattle.rules.proofs.Outputs.{written_gathered}
use Rattle.rules.specs.Hash.{Bytes, AreHashes, hash_at, hashes_bytes}
use Rattle.rules.specs.LittleEndian.{u16_at}
use Rattle.rules.specs.Output.{Gathered}
use Rattle.rules.specs.Sizes.{sizes}
use Rattle.table.proofs.GoodLaws.{rows_hashes}
use Rattle.table.proofs.TableLaws.{length_rows, length_rows_at, take_rows_at, hash_of_row}
use Rattle.table.specs.TableBytes.{u16s_at, row_size, rows_at}
use Rattle.table.specs.Table.{Row, rows, hash_of, GoodTable, rows_from, rows_where}
use Rattle.table_graph.specs.Graph.{needed, heads}
use Rattle.table_graph.specs.Internal.Marks.{Marks, marked, picked, Collected}
use Rattle.table_graph.proofs.GraphMarks.{picked_heads, heads_many_lem}
use Rattle.table_graph.proofs.PickLaws.{rows_marked, rows_member, picked_count}
use Rattle.table_graph.proofs.PutLaws.{put_one, put_same, put_none}

-- ---- some of the first rows

from_none : (t : List Row) (p : ℕ → Bool) (i k : ℕ) → k ≤ i → rows_from i t (λ j. ltb j k && p j) ≡ []
unfolding rows_from
from_none [] p i k h = refl
from_none (r ∷ t) p i k h = rw (le-ltb i k h) (from_none t p (suc i) k (omega arith))

from_first : (t : List Row) (p : ℕ → Bool) (i k : ℕ) → rows_from i t (λ j. ltb j (i + k) && p j) ≡ rows_from i (take k t) p
unfolding rows_from
from_first [] p i zero = refl
from_first [] p i (suc k) = refl
from_first (r ∷ t) p i zero = from_none (r ∷ t) p i (i + 0) (omega arith)
from_first (r ∷ t) p i (suc k) =
    let e : i + suc k ≡ suc i + k = omega arith in
    rw (lt-ltb i (i + suc k) (omega arith), e, from_first t p (suc i) k)

first_rows : (t : List Row) (p : ℕ → Bool) (k : ℕ) → rows_where t (λ j. ltb j k && p j) ≡ rows_where (take k t) p
unfolding rows_where
first_rows t p k =
    let e : 0 + k ≡ k = omega arith in
    rw e at (from_first t p 0 k)

module _ (s x : List ℕ) (n before : ℕ) (m : List Bool) where
  -- a row that is collected
  pub collects : ℕ → Bool
  collects r = ltb r before && get_or m r false

  -- the hashes of those from entry k on
  pub collect_from : ℕ → List ℕ
  collect_from k = map (hash_of (rows_at s 0 n)) (keep collects (u16s_at x (2 * k) (n - k)))

  some : List ℕ
  some = picked (rows (rows_at s 0 before)) m

  some_rows : some ≡ rows_where (rows_at s 0 before) (λ i. get_or m i false)
  unfolding some
  some_rows = rows_marked (rows_at s 0 before) m (λ i. get_or m i false) (record { each = λ i h. refl })

  pub collect_is : fits (rows_at s 0 n) (u16s_at x 0 n) ≡ true → before ≤ n → collect_from 0 ≡ ascend (picked (rows (rows_at s 0 before)) m)
  unfolding collect_from collects some
  collect_is ok h =
      let d : n - 0 ≡ n = omega arith in
      let those : rows_where (rows_at s 0 n) (λ j. ltb j before && get_or m j false) ≡ picked (rows (rows_at s 0 before)) m =
      first_rows (rows_at s 0 n) (λ j. get_or m j false) before
      ∙ ap (λ (t : List Row). rows_where t (λ j. get_or m j false)) (take_rows_at s 0 before n h)
      ∙ sym some_rows
      in
      rw d (sym (ascend_by_index (rows_at s 0 n) (u16s_at x 0 n) ok (λ j. ltb j before && get_or m j false)) ∙ ap ascend those)

  few : length (ascend some) ≤ marked before m
  unfolding some
  few =
      let count = picked_count (rows (rows_at s 0 before)) m before (length_rows (rows_at s 0 before) ∙ length_rows_at s 0 before) in
      omega (arith, ascend_most (picked (rows (rows_at s 0 before)) m), count)

  are_hashes : Bytes s → AreHashes (ascend some)
  unfolding some
  are_hashes b =
      hashes_inside (ascend (picked (rows (rows_at s 0 before)) m)) (rows (rows_at s 0 before)) (rows_hashes s 0 before b)
      (λ h e.
      let in_some : member h (picked (rows (rows_at s 0 before)) m) ≡ true = sym (ascend_members h (picked (rows (rows_at s 0 before)) m)) ∙ e in
      rows_member (rows_at s 0 before) (λ i. get_or m i false) h (rw some_rows at in_some))

  module _ (k r : ℕ) (inside : k < n) (read : r ≡ u16_at x (2 * k)) where
    pub collect_taken : r < n → collects r ≡ true → collect_from k ≡ hash_at s (r * row_size) ∷ collect_from (k + 1)
    unfolding collect_from keep
    collect_taken low e = rw (u16s_next x n k r inside read, e, hash_of_row s n r low)

    pub collect_passed : collects r ≡ false → collect_from k ≡ collect_from (k + 1)
    unfolding collect_from keep
    collect_passed e = rw (u16s_next x n k r inside read, e)

  pub collect_none : (k : ℕ) → n ≤ k → collect_from k ≡ []
  unfolding collect_from keep
  collect_none k h = rw (u16s_none x n k h)

  -- a row past the first ones, an unmarked one and a marked one
  pub past_first : (r : ℕ) → before ≤ r → collects r ≡ false
  unfolding collects
  past_first r h = rw (le-ltb r before h)

  pub by_mark : (r : ℕ) (b : Bool) → r < before → get_or m r false ≡ b → collects r ≡ b
  unfolding collects
  by_mark r b h e = rw (lt-ltb r before h) e

  -- `count` hashes have been put of those before entry k
  pub record Collecting (list₀ list : List ℕ) (count k : ℕ) : Type 0 where
    pub many : count + length (collect_from k) ≡ length (collect_from 0)
    pub rest : sets list (sizes.hash * count) (hashes_bytes (collect_from k)) ≡ sets list₀ 0 (hashes_bytes (collect_from 0))

  pub collecting_starts : (list₀ : List ℕ) → Collecting list₀ list₀ 0 0
  collecting_starts list₀ = record { many = omega arith; rest = refl }

  module _ (list₀ list : List ℕ) (count k r : ℕ) (so : Collecting list₀ list count k) (inside : k < n) (read : r ≡ u16_at x (2 * k)) where
    pub collecting_passed : collects r ≡ false → Collecting list₀ list count (k + 1)
    collecting_passed e =
        let same : collect_from k ≡ collect_from (k + 1) = collect_passed k r inside read e in
        record { many = rw same at so.many; rest = put_same _ _ same _ _ _ so.rest }

    module _ (low : r < n) (e : collects r ≡ true) where
      -- there is room for one more
      pub collecting_room : fits (rows_at s 0 n) (u16s_at x 0 n) ≡ true → before ≤ n → count < marked before m
      unfolding some
      collecting_room ok h =
          let more : length (collect_from k) ≡ suc (length (collect_from (k + 1))) = ap length (collect_taken k r inside read low e) in
          omega (arith, so.many, ap length (collect_is ok h), few)

      pub collecting_taken : (next : List ℕ) → Bytes s → n * row_size ≤ length s
          → next ≡ sets list (sizes.hash * count) (slice (r * row_size) (r * row_size + sizes.hash) s)
          → Collecting list₀ next (count + 1) (k + 1)
      collecting_taken next all whole put =
          let one : collect_from k ≡ hash_at s (r * row_size) ∷ collect_from (k + 1) = collect_taken k r inside read low e in
          let at : sizes.hash * (count + 1) ≡ sizes.hash * count + sizes.hash = omega arith in
          let more : length (collect_from k) ≡ suc (length (collect_from (k + 1))) = ap length one in
          record {
            many = omega (arith, so.many);
            rest = rw at (put_one _ _ _ one _ _ _ _ _ _ all (omega arith) refl put so.rest);
          }

  pub collecting_ends : (list₀ list : List ℕ) (count k : ℕ) → Collecting list₀ list count k → n ≤ k
      → fits (rows_at s 0 n) (u16s_at x 0 n) ≡ true
      → before ≤ n
      → Collected (ascend (picked (rows (rows_at s 0 before)) m)) list₀ list count
  collecting_ends list₀ list count k so l ok h =
      let whole : collect_from 0 ≡ ascend (picked (rows (rows_at s 0 before)) m) = collect_is ok h in
      let none : collect_from k ≡ [] = collect_none k l in
      let all_put_lem : count ≡ length (collect_from 0) = omega (arith, so.many, ap length none) in
      record { content = rw whole at (put_none _ none _ _ _ so.rest); many = rw whole at all_put_lem }

  -- what was collected stands in the buffer
  pub collected_gathered : (before' after : List ℕ) (count : ℕ) → Bytes s → sizes.hash * marked before m ≤ length before'
      → Collected (ascend (picked (rows (rows_at s 0 before)) m)) before' after count
      → Gathered (ascend (picked (rows (rows_at s 0 before)) m)) after count
  unfolding some
  collected_gathered before' after count all room so =
      rw (so.content, so.many)
      (written_gathered (ascend (picked (rows (rows_at s 0 before)) m)) before' (are_hashes all) (omega (arith, few)))

-- ---- heads

module _ (s : List ℕ) (n : ℕ) (r : List Bool) (those : Marks n r (λ i. not (needed (rows_at s 0 n) i))) where
  abbrev t : List Row
  t = rows_at s 0 n

  pub heads_gathered : (list after : List ℕ) (count : ℕ) → Bytes s → sizes.hash * marked n r ≤ length list
      → Collected (ascend (picked (rows t) r)) list after count
      → Gathered (heads t) after count
  heads_gathered list after count b room so =
      let same : ascend (picked (rows t) r) ≡ heads t = picked_heads s n r those in
      rw same at (collected_gathered s s n n r list after count b room so)

  pub heads_size : GoodTable t → (count : ℕ) → count ≡ marked n r → sizes.hash * count ≡ length (hashes_bytes (heads t))
  heads_size good count e = rw (length_hashes_bytes (heads t), heads_many_lem s n r those good, e)

  pub heads_put : (out next : List ℕ) (count : ℕ) → Collected (ascend (picked (rows t) r)) out next count → next ≡ sets out 0 (hashes_bytes (heads t))
  heads_put out next count so =
      let same : ascend (picked (rows t) r) ≡ heads t = picked_heads s n r those in
      rw same at so.content
