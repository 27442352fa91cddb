-- The first row whose hash an earlier row has is the least entry of the order whose next has the same hash: where a row is put in, the entry behind
-- it has its hash just if a row before it has, and no other two become neighbours that have the same hash.
use Prim.Native.Nat.{ℕ, zero, suc, ◌+◌, ◌-◌, ◌*◌, ◌≤◌, ◌<◌, min}
use mathlib.Core.Bool.{Bool, true, false, cond, not, ◌&&◌}
use mathlib.Core.List.{List, [], ◌∷◌, map}
use mathlib.Core.Path.{◌≡◌, refl, sym, ap, ◌∙◌}
use native.Mathlib.Nat.{add-zero, zero-add}
use native.Mathlib.Omega.{arith}
use borrow.Author.Tests.{ltb-true, ltb-false, lt-ltb, le-ltb, eq-eqb, ne_eqb, eqb-true, eqb-false}
use lib.Dec.{ltb, eqb}
use lib.ListN.{length, get_or}
use Rattle.hash_order.proofs.OrderLaws.{member_here, member_behind, member_index, index_member}
use Rattle.hash_order.specs.Order.{member}
use Rattle.rules.proofs.Cases.{split, same_truth}
use Rattle.table.proofs.TableLaws.{length_rows, length_rows_of, row_hash_of}
use Rattle.rules.specs.Hash.{hash_at}
use Rattle.rules.specs.LittleEndian.{u16_at}
use Rattle.rules.specs.Sizes.{sizes}
use Rattle.table.proofs.RowLaws.{row_within}
use Rattle.table.specs.TableBytes.{u16s_at, first_bad, row_size_of, rows_of}
use Rattle.table.specs.Table.{rows, hash_of}
use Rattle.table_index.proofs.ByteLaws.{length_u16s, u16s_next, u16s_none, entry}
use Rattle.table_index.proofs.IndexLaws.{index_rises, index_has, index_member_below}
use Rattle.table_index.proofs.ListLaws.{map_member, member_map, rises_tail, rises_first}
use Rattle.table_index.specs.Index.{put, indexed, rises, record_hash}
use Rattle.table_order.proofs.MergeLaws.{put_first, put_behind}
use Rattle.table_check.specs.Internal.Repeats.{new_hash, or_repeat, RowOrder}

-- ---- along a list

unfoldable pub least_repeat : (ℕ → ℕ) → ℕ → List ℕ → ℕ
least_repeat f first [] = first
least_repeat f first (x ∷ []) = first
least_repeat f first (x ∷ y ∷ l) = least_repeat f (or_repeat f first x y) (y ∷ l)

module _ (f : ℕ → ℕ) where
  same_or : (first x y : ℕ) → f x ≡ f y → or_repeat f first x y ≡ min x first
  unfolding or_repeat
  same_or first x y e = rw (eq-eqb (f x) (f y) e)

  other_or : (first x y : ℕ) → (f x ≡ f y → ⊥) → or_repeat f first x y ≡ first
  unfolding or_repeat
  other_or first x y d = rw (ne_eqb (f x) (f y) d)

  min_or : (z first x y : ℕ) → or_repeat f (min z first) x y ≡ min z (or_repeat f first x y)
  unfolding or_repeat
  min_or z first x y =
      split (eqb (f x) (f y))
      (λ e. rw e (let same : min x (min z first) ≡ min z (min x first) = omega arith in same))
      (λ e. rw e)

  least_min : (z first : ℕ) (l : List ℕ) → least_repeat f (min z first) l ≡ min z (least_repeat f first l)
  unfolding least_repeat
  least_min z first [] = refl
  least_min z first (x ∷ []) = refl
  least_min z first (x ∷ y ∷ l) =
      ap (λ (d : ℕ). least_repeat f d (y ∷ l)) (min_or z first x y) ∙ least_min z (or_repeat f first x y) (y ∷ l)

  module _ (i : ℕ) where
    -- what a number that is put in adds
    unfoldable added : ℕ → List ℕ → ℕ
    added first l = cond (member (f i) (map f l)) (min i (least_repeat f first l)) (least_repeat f first l)

    -- put before all
    front : (first x : ℕ) (xs : List ℕ) → rises (map f (x ∷ xs)) ≡ true → f i ≤ f x → least_repeat f first (i ∷ x ∷ xs) ≡ added first (x ∷ xs)
    unfolding added least_repeat
    front first x xs a b =
        split (eqb (f i) (f x))
        (λ e.
        let same : f i ≡ f x = eqb-true (f i) (f x) e in
        let here : member (f i) (map f (x ∷ xs)) ≡ true = rw same (member_here (f x) (map f xs)) in
        rw (here, same_or first i x same) (least_min i first (x ∷ xs)))
        (λ e.
        let other : f i ≡ f x → ⊥ = eqb-false (f i) (f x) e in
        let none : member (f i) (map f (x ∷ xs)) ≡ false =
        split (member (f i) (map f (x ∷ xs)))
        (λ m.
        absurd
        (split (eqb (f i) (f x))
        (λ q. other (eqb-true (f i) (f x) q))
        (λ q. omega (arith, other, rises_first (f x) (map f xs) a (f i) (member_behind (f i) (f x) (map f xs) m other)))))
        (λ q. q)
        in
        rw (none, other_or first i x other))

    behind_member : (x : ℕ) (xs : List ℕ) → f x < f i → member (f i) (map f (x ∷ xs)) ≡ member (f i) (map f xs)
    unfolding member
    behind_member x xs b = rw (ne_eqb (f i) (f x) (omega arith))

    added_behind : (first x y : ℕ) (ys : List ℕ) → f x < f i → added first (x ∷ y ∷ ys) ≡ added (or_repeat f first x y) (y ∷ ys)
    unfolding added least_repeat
    added_behind first x y ys b = rw (behind_member x (y ∷ ys) b)

    put_repeat : (first : ℕ) (l : List ℕ) → rises (map f l) ≡ true → least_repeat f first (put f i l) ≡ added first l
    unfolding put least_repeat added member
    put_repeat first [] a = refl
    put_repeat first (x ∷ []) a =
        split (ltb (f x) (f i))
        (λ e.
        let b : f x < f i = ltb-true (f x) (f i) e in
        rw (e, other_or first x i (omega arith), behind_member x [] b))
        (λ e. rw e (front first x [] a (ltb-false (f x) (f i) e)))
    put_repeat first (x ∷ y ∷ ys) a =
        let rest : rises (map f (y ∷ ys)) ≡ true = rises_tail (f x) (map f (y ∷ ys)) a in
        split (ltb (f x) (f i))
        (λ e.
        let b : f x < f i = ltb-true (f x) (f i) e in
        split (ltb (f y) (f i))
        (λ d.
        let c : f y < f i = ltb-true (f y) (f i) d in
        ap (least_repeat f first) (put_behind f i x (y ∷ ys) b ∙ ap (λ (l : List ℕ). x ∷ l) (put_behind f i y ys c))
        ∙ ap (least_repeat f (or_repeat f first x y)) (sym (put_behind f i y ys c))
        ∙ put_repeat (or_repeat f first x y) (y ∷ ys) rest
        ∙ sym (added_behind first x y ys b))
        (λ d.
        let c : f i ≤ f y = ltb-false (f y) (f i) d in
        ap (least_repeat f first) (put_behind f i x (y ∷ ys) b ∙ ap (λ (l : List ℕ). x ∷ l) (put_first f i y ys c))
        ∙ ap (λ (k : ℕ). least_repeat f k (i ∷ y ∷ ys)) (other_or first x i (omega arith))
        ∙ front first y ys rest c
        ∙ ap (λ (k : ℕ). added k (y ∷ ys)) (sym (other_or first x y (omega arith)))
        ∙ sym (added_behind first x y ys b)))
        (λ e. rw e (front first x (y ∷ ys) a (ltb-false (f x) (f i) e)))

-- ---- along the order of all rows

-- the first failure among one more: among those before, or the last
first_snoc : (p : ℕ → Bool) (i m : ℕ)
    → first_bad p i (suc m) ≡ cond (ltb (first_bad p i m) (i + m)) (first_bad p i m) (cond (not (p (i + m))) (i + m) (suc (i + m)))
unfolding first_bad
first_snoc p i zero = rw (add-zero, le-ltb i i (omega arith))
first_snoc p i (suc m) =
    let next : i + suc m ≡ suc i + m = omega arith in
    split (p i)
    (λ e. rw (e, next) (first_snoc p (suc i) m))
    (λ e. rw (e, lt-ltb i (i + suc m) (omega arith)))

first_last : (p : ℕ → Bool) (m : ℕ)
    → first_bad p 0 (suc m) ≡ cond (ltb (first_bad p 0 m) m) (first_bad p 0 m) (cond (not (p m)) m (suc m))
first_last p m = rw zero-add at (first_snoc p 0 m)

-- the last row is the first that repeats a hash just if it repeats one and no row before it does
settled : (b : Bool) (bad m n : ℕ) → m < n
    → cond b (min m (cond (ltb bad m) bad n)) (cond (ltb bad m) bad n)
    ≡ cond (ltb (cond (ltb bad m) bad (cond (not (not b)) m (suc m))) (suc m)) (cond (ltb bad m) bad (cond (not (not b)) m (suc m))) n
settled true bad m n h =
    split (ltb bad m)
    (λ e.
    let low : bad < m = ltb-true bad m e in
    rw (e, lt-ltb bad (suc m) (omega arith)) (omega arith))
    (λ e. rw (e, lt-ltb m (suc m) (omega arith)) (omega arith))
settled false bad m n h =
    split (ltb bad m)
    (λ e.
    let low : bad < m = ltb-true bad m e in
    rw (e, lt-ltb bad (suc m) (omega arith)))
    (λ e. rw (e, le-ltb (suc m) (suc m) (omega arith)))

pub first_within : (p : ℕ → Bool) (i m : ℕ) → first_bad p i m ≤ i + m
unfolding first_bad
first_within p i zero = omega arith
first_within p i (suc m) = split (p i) (λ e. rw e (omega (arith, first_within p (suc i) m))) (λ e. rw e (omega arith))

first_least : (p : ℕ → Bool) (i m : ℕ) → i ≤ first_bad p i m
unfolding first_bad
first_least p i zero = omega arith
first_least p i (suc m) = split (p i) (λ e. rw e (omega (arith, first_least p (suc i) m))) (λ e. rw e (omega arith))

-- where two tests are made, the first failure is the lesser of both tests' own
pub first_both : (p q : ℕ → Bool) (i m : ℕ) → first_bad (λ j. p j && q j) i m ≡ min (first_bad p i m) (first_bad q i m)
unfolding first_bad
first_both p q i zero = omega arith
first_both p q i (suc m) =
    split (p i)
    (λ e.
    split (q i)
    (λ d. rw (e, d) (first_both p q (suc i) m))
    (λ d. rw (e, d) (omega (arith, first_least p (suc i) m))))
    (λ e. rw e (split (q i) (λ d. rw d (omega (arith, first_least q (suc i) m))) (λ d. rw d (omega arith))))

module _ (d : ℕ) (s : List ℕ) where
  -- an order of rows has the rows' hashes
  hashes_same : (m h : ℕ) → member h (map (record_hash s (row_size_of d)) (indexed (record_hash s (row_size_of d)) m)) ≡ member h (rows (rows_of d s 0 m))
  unfolding hash_of
  hashes_same m h =
      let f : ℕ → ℕ = record_hash s (row_size_of d) in
      let long : length (rows (rows_of d s 0 m)) ≡ m = length_rows (rows_of d s 0 m) ∙ length_rows_of d s 0 m in
      same_truth (member h (map (record_hash s (row_size_of d)) (indexed (record_hash s (row_size_of d)) m))) (member h (rows (rows_of d s 0 m)))
      (λ e.
      let r = member_map f (indexed f m) h e in
      let b : r.0 < m = index_member_below f m r.0 r.1 in
      let is : get_or (rows (rows_of d s 0 m)) r.0 0 ≡ h = row_hash_of d s m r.0 b ∙ r.2 in
      rw is at (index_member (rows (rows_of d s 0 m)) r.0 (omega arith)))
      (λ e.
      let r = member_index h (rows (rows_of d s 0 m)) e in
      let b : r.0 < m = omega (arith, r.1) in
      let is : f r.0 ≡ h = sym (row_hash_of d s m r.0 b) ∙ r.2 in
      rw is at (map_member f (indexed f m) r.0 (index_has f m r.0 b)))

  one_more : (n m : ℕ) → m < n
      → least_repeat (record_hash s (row_size_of d)) n (indexed (record_hash s (row_size_of d)) m) ≡ cond (ltb (first_bad (new_hash d s) 0 m) m) (first_bad (new_hash d s) 0 m) n
      → least_repeat (record_hash s (row_size_of d)) n (put (record_hash s (row_size_of d)) m (indexed (record_hash s (row_size_of d)) m))
      ≡ cond (ltb (first_bad (new_hash d s) 0 (suc m)) (suc m)) (first_bad (new_hash d s) 0 (suc m)) n
  unfolding added new_hash
  one_more n m b before =
      put_repeat (record_hash s (row_size_of d)) m n (indexed (record_hash s (row_size_of d)) m) (index_rises (record_hash s (row_size_of d)) m)
      ∙ rw (hashes_same m (record_hash s (row_size_of d) m), before, first_last (new_hash d s) m)
      (settled (member (record_hash s (row_size_of d) m) (rows (rows_of d s 0 m))) (first_bad (new_hash d s) 0 m) m n b)

  repeats_so_far : (n m : ℕ) → m ≤ n
      → least_repeat (record_hash s (row_size_of d)) n (indexed (record_hash s (row_size_of d)) m)
      ≡ cond (ltb (first_bad (new_hash d s) 0 m) m) (first_bad (new_hash d s) 0 m) n
  unfolding indexed least_repeat first_bad
  repeats_so_far n zero b = refl
  repeats_so_far n (suc m) b = one_more n m b (repeats_so_far n m (omega arith))

  pub least_repeat_lem : (n : ℕ) → least_repeat (record_hash s (row_size_of d)) n (indexed (record_hash s (row_size_of d)) n) ≡ first_bad (new_hash d s) 0 n
  least_repeat_lem n =
      repeats_so_far n n (omega arith)
      ∙ split (ltb (first_bad (new_hash d s) 0 n) n)
      (λ e. rw e)
      (λ e. rw e (omega (arith, ltb-false (first_bad (new_hash d s) 0 n) n e, first_within (new_hash d s) 0 n)))

-- ---- each turn

module _ (f : ℕ → ℕ) (first a b x y : ℕ) (p : a ≡ x) (q : b ≡ y) where
  pub or_other : eqb (f a) (f b) ≡ false → first ≡ or_repeat f first x y
  or_other e = sym (other_or f first x y (λ d. eqb-false (f a) (f b) e (ap f p ∙ d ∙ ap f (sym q))))

  both_same : eqb (f a) (f b) ≡ true → f x ≡ f y
  both_same e = ap f (sym p) ∙ eqb-true (f a) (f b) e ∙ ap f q

  pub or_lesser : eqb (f a) (f b) ≡ true → a < first → a ≡ or_repeat f first x y
  or_lesser e h = rw (same_or f first x y (both_same e)) (omega arith)

  pub or_first : eqb (f a) (f b) ≡ true → first ≤ a → first ≡ or_repeat f first x y
  or_first e h = rw (same_or f first x y (both_same e)) (omega arith)

-- rows' hashes compared, the rows' starts told by numbers
pub same_rows : (s : List ℕ) (size a b start next : ℕ) (r : Bool) → start ≡ a * size → next ≡ b * size → r ≡ eqb (hash_at s start) (hash_at s next)
    → r ≡ eqb (record_hash s size a) (record_hash s size b)
same_rows s size a b start next r p q e = rw (p, q) at e

pub start_stands : (d row n start long : ℕ) → row < n → n * row_size_of d ≤ long → start ≡ row * row_size_of d → start + sizes.hash ≤ long
start_stands d row n start long h inside e = rw e (omega (arith, row_within d row n long h inside))

module _ (d : ℕ) (s x : List ℕ) (n : ℕ) (o : RowOrder d s x n) where
  pub entry_row : (k r : ℕ) → k < n → r ≡ u16_at x (2 * k) → r < n
  entry_row k r b read =
      let long : length (u16s_at x 0 n) ≡ n = length_u16s x 0 n in
      let named : member (get_or (u16s_at x 0 n) k 0) (indexed (record_hash s (row_size_of d)) n) ≡ true =
      rw (← o.order) (index_member (u16s_at x 0 n) k (omega arith))
      in
      omega (arith, index_member_below (record_hash s (row_size_of d)) n (get_or (u16s_at x 0 n) k 0) named, entry x n k b)

  -- what is found along the entries from the k-th on
  unfoldable pub seeking : ℕ → ℕ → ℕ
  seeking first k = least_repeat (record_hash s (row_size_of d)) first (u16s_at x (2 * k) (n - k))

  pub seek_starts : seeking n 0 ≡ first_bad (new_hash d s) 0 n
  unfolding seeking
  seek_starts =
      let start : 2 * 0 ≡ 0 = omega arith in
      let all : n - 0 ≡ n = omega arith in
      rw (start, all, o.order) (least_repeat_lem d s n)

  pub seek_on : (first r k : ℕ) → k + 1 < n → r ≡ or_repeat (record_hash s (row_size_of d)) first (u16_at x (2 * k)) (u16_at x (2 * (k + 1)))
      → seeking first k ≡ seeking r (k + 1)
  unfolding seeking least_repeat
  seek_on first r k b e =
      let here = u16s_next x n k (u16_at x (2 * k)) (omega arith) refl in
      let next = u16s_next x n (k + 1) (u16_at x (2 * (k + 1))) b refl in
      rw (here, next, e)

  pub seek_ends : (first k : ℕ) → n ≤ k + 1 → seeking first k ≡ first
  unfolding seeking least_repeat
  seek_ends first k b =
      split (ltb k n)
      (λ e.
      let here = u16s_next x n k (u16_at x (2 * k)) (ltb-true k n e) refl in
      rw (here, u16s_none x n (k + 1) b))
      (λ e. rw (u16s_none x n k (ltb-false k n e)))
