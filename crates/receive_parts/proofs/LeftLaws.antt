-- The sent hashes that are left: those without a marked row, counted, and moved to the front one behind the other. Each law is one turn of a loop,
-- with its test as a hypothesis; what has been counted or moved and what is left make the whole.
use Prim.Native.Nat.{ℕ, suc, ◌+◌, ◌*◌, ◌≤◌, ◌<◌}
use mathlib.Core.Bool.{Bool, true, false, not}
use mathlib.Core.List.{List, [], ◌∷◌}
use mathlib.Core.Path.{◌≡◌, refl, sym, ap, ◌∙◌}
use native.Mathlib.Nat.{zero-add}
use native.Mathlib.Omega.{arith}
use lib.ListN.{length, get_or, take, drop, set}
use lib.Seq.{sets, slice, drop-drop, drop-set-lt}
use Rattle.table_graph.proofs.PutLaws.{put_one, put_same, put_none}
use Rattle.table_graph.specs.Graph.{below_row, below}
use Rattle.table_graph.specs.Internal.Marks.{Marks}
use Rattle.hash_lists.proofs.CompareLaws.{onward, onward_starts, onward_first, onward_ends, found_held, found_unknown}
use Rattle.hash_order.proofs.KeepLaws.{keep_same}
use Rattle.hash_order.specs.Order.{keep}
use Rattle.rules.proofs.Cases.{split}
use Rattle.rules.proofs.Hash.{take_drop, length_slice_of}
use Rattle.rules.specs.Hash.{Bytes, big_endian, hash_at, hashes_at, hashes_bytes}
use Rattle.rules.specs.Sizes.{sizes}
use Rattle.table.proofs.TableLaws.{row_of_held, length_rows_at}
use Rattle.table.specs.TableBytes.{rows_at}
use Rattle.table.specs.Table.{rows, index_in, row_number, held}
use Rattle.receive_parts.specs.Internal.ReceiveParts.{held_marked}

-- ---- the row of a hash and its mark

module _ (table : List ℕ) (n : ℕ) (marks : List Bool) (h r : ℕ) (found : r ≡ index_in (rows (rows_at table 0 n)) h) where
  pub unknown_unmarked : n ≤ r → false ≡ held_marked (rows_at table 0 n) marks h
  unfolding held_marked
  unknown_unmarked l = rw (found_unknown table n h r found l)

  pub known_marked : r < n → get_or marks r false ≡ held_marked (rows_at table 0 n) marks h
  unfolding held_marked row_number
  known_marked l = rw (found_held table n h r found l, ← found)

-- marks of the rows below a list
module _ (table : List ℕ) (n : ℕ) (marks : List Bool) (l : List ℕ) (m : Marks n marks (below_row (rows_at table 0 n) l)) where
  marked_below : (h : ℕ) → held_marked (rows_at table 0 n) marks h ≡ below (rows_at table 0 n) l h
  unfolding held_marked below
  marked_below h =
      split (held (rows_at table 0 n) h)
      (λ e.
      let inside : row_number (rows_at table 0 n) h < n = omega (arith, row_of_held (rows_at table 0 n) h e, length_rows_at table 0 n) in
      rw e (m.each (row_number (rows_at table 0 n) h) inside))
      (λ e. rw e)

  -- those that aren't marked aren't below it
  pub left_below : (hs : List ℕ)
      → keep (λ h. not (held_marked (rows_at table 0 n) marks h)) hs ≡ keep (λ h. not (below (rows_at table 0 n) l h)) hs
  left_below hs =
      keep_same (λ h. not (held_marked (rows_at table 0 n) marks h)) (λ h. not (below (rows_at table 0 n) l h)) hs (λ h e. ap not (marked_below h))

-- ---- bytes behind a place, which stay

-- what is stored before a place leaves what stands from there on
drop_sets : (b l : List ℕ) (i j : ℕ) → i + length b ≤ j → drop j (sets l i b) ≡ drop j l
drop_sets [] l i j h = refl
drop_sets (x ∷ b) l i j h = drop_sets b (set l i x) (suc i) j (omega arith) ∙ drop-set-lt j l i x (omega arith)

-- lists that are the same from a place on have the same part there, the same hash, and are the same further on
module _ (l s : List ℕ) (a : ℕ) (e : drop a l ≡ drop a s) where
  same_part : (k : ℕ) → slice a (a + k) l ≡ slice a (a + k) s
  same_part k = sym (take_drop k a l) ∙ ap (take k) e ∙ take_drop k a s

  pub same_hash : hash_at l a ≡ hash_at s a
  unfolding hash_at
  same_hash = ap big_endian (same_part sizes.hash)

  same_further : (k : ℕ) → drop (a + k) l ≡ drop (a + k) s
  same_further k = sym (drop-drop k a l) ∙ ap (drop k) e ∙ drop-drop k a s

-- ---- the loop

module _ (p : ℕ → Bool) (s : List ℕ) (count : ℕ) where
  -- the hashes from number k on that are left
  pub left_from : ℕ → List ℕ
  left_from k = keep p (onward s 0 count k)

  left_taken : (k : ℕ) → k < count → p (hash_at s (sizes.hash * k)) ≡ true → left_from k ≡ hash_at s (sizes.hash * k) ∷ left_from (k + 1)
  unfolding left_from keep
  left_taken k l e =
      let first : onward s 0 count k ≡ hash_at s (sizes.hash * k) ∷ onward s 0 count (k + 1) = rw zero-add at (onward_first s 0 count k l) in
      rw (first, e)

  left_passed : (k : ℕ) → k < count → p (hash_at s (sizes.hash * k)) ≡ false → left_from k ≡ left_from (k + 1)
  unfolding left_from keep
  left_passed k l e =
      let first : onward s 0 count k ≡ hash_at s (sizes.hash * k) ∷ onward s 0 count (k + 1) = rw zero-add at (onward_first s 0 count k l) in
      rw (first, e)

  left_none : (k : ℕ) → count ≤ k → left_from k ≡ []
  unfolding left_from keep
  left_none k l = rw (onward_ends s 0 count k l)

  left_all : left_from 0 ≡ keep p (hashes_at s 0 count)
  unfolding left_from
  left_all = rw (onward_starts s 0 count)

  -- `left` of those before number k were counted
  pub record Counting (left k : ℕ) : Type 0 where
    pub few : left ≤ k
    pub many : left + length (left_from k) ≡ length (left_from 0)

  pub counting_starts : Counting 0 0
  counting_starts = record { few = omega arith; many = omega arith }

  module _ (left k : ℕ) (so : Counting left k) where
    pub counting_passed : k < count → p (hash_at s (sizes.hash * k)) ≡ false → Counting left (k + 1)
    counting_passed l e = record { few = omega (arith, so.few); many = rw (left_passed k l e) at so.many }

    pub counting_taken : k < count → p (hash_at s (sizes.hash * k)) ≡ true → Counting (left + 1) (k + 1)
    counting_taken l e =
        let more : length (left_from k) ≡ suc (length (left_from (k + 1))) = ap length (left_taken k l e) in
        record { few = omega (arith, so.few); many = omega (arith, so.many) }

    pub counting_ends : count ≤ k → left ≡ length (keep p (hashes_at s 0 count))
    counting_ends l =
        let none : length (left_from k) ≡ 0 = ap length (left_none k l) in
        let all : left ≡ length (left_from 0) = omega (arith, so.many) in
        rw left_all at all

  -- `left` of those before number k were moved to the front, and from there on the list is as it was
  pub record Trimming (list : List ℕ) (left k : ℕ) : Type 0 where
    pub counted : Counting left k
    pub still : drop (sizes.hash * k) list ≡ drop (sizes.hash * k) s
    pub rest : sets list (sizes.hash * left) (hashes_bytes (left_from k)) ≡ sets s 0 (hashes_bytes (left_from 0))

  pub trimming_starts : Trimming s 0 0
  trimming_starts = record { counted = counting_starts; still = refl; rest = refl }

  module _ (list : List ℕ) (left k : ℕ) (so : Trimming list left k) (l : k < count) where
    next_place : sizes.hash * (k + 1) ≡ sizes.hash * k + sizes.hash
    next_place = omega arith

    further : drop (sizes.hash * (k + 1)) list ≡ drop (sizes.hash * (k + 1)) s
    further = rw next_place (same_further list s (sizes.hash * k) so.still sizes.hash)

    -- what is told of a hash that is still to be read is told of the one that was lent
    pub trimming_told : {b : Bool} → p (hash_at list (sizes.hash * k)) ≡ b → p (hash_at s (sizes.hash * k)) ≡ b
    trimming_told e = rw (same_hash list s (sizes.hash * k) so.still) at e

    pub trimming_passed : p (hash_at s (sizes.hash * k)) ≡ false → Trimming list left (k + 1)
    trimming_passed e =
        record {
          counted = counting_passed left k so.counted l e;
          still = further;
          rest = put_same _ _ (left_passed k l e) _ _ _ so.rest;
        }

    pub trimming_taken : (next : List ℕ) → p (hash_at s (sizes.hash * k)) ≡ true → Bytes s → sizes.hash * count ≤ length s
        → next ≡ sets list (sizes.hash * left) (slice (sizes.hash * k) (sizes.hash * k + sizes.hash) list)
        → Trimming next (left + 1) (k + 1)
    trimming_taken next e all fits put =
        let one : left_from k ≡ hash_at s (sizes.hash * k) ∷ left_from (k + 1) = left_taken k l e in
        let at : sizes.hash * (left + 1) ≡ sizes.hash * left + sizes.hash = omega arith in
        let part : List ℕ = slice (sizes.hash * k) (sizes.hash * k + sizes.hash) s in
        let size : length part ≡ sizes.hash = length_slice_of sizes.hash s (sizes.hash * k) (omega arith) in
        let is : next ≡ sets list (sizes.hash * left) part =
        put ∙ ap (sets list (sizes.hash * left)) (same_part list s (sizes.hash * k) so.still sizes.hash)
        in
        let behind : drop (sizes.hash * (k + 1)) (sets list (sizes.hash * left) part) ≡ drop (sizes.hash * (k + 1)) list =
        drop_sets part list (sizes.hash * left) (sizes.hash * (k + 1)) (omega (arith, so.counted.few))
        in
        record {
          counted = counting_taken left k so.counted l e;
          still = ap (drop (sizes.hash * (k + 1))) is ∙ behind ∙ further;
          rest = rw at (put_one _ _ _ one _ _ _ _ _ _ all (omega arith) refl is so.rest);
        }

  pub trimming_ends : (list : List ℕ) (left k : ℕ) → Trimming list left k → count ≤ k → list ≡ sets s 0 (hashes_bytes (keep p (hashes_at s 0 count)))
  trimming_ends list left k so l = rw left_all at (put_none _ (left_none k l) _ _ _ so.rest)
