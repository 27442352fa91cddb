-- The numbers of a list whose places are some of p, and the rows of a table that are chosen so: how many they are, which they are, each once,
-- hashes if the list's are. One list serves both: the rows' hashes, and a list of hashes that has marks of its own.
use Prim.Native.Nat.{ℕ, zero, suc, ◌+◌, ◌*◌, ◌≤◌, ◌<◌}
use mathlib.Core.Bool.{Bool, true, false, cond, ◌||◌, ◌&&◌}
use mathlib.Core.List.{List, [], ◌∷◌}
use mathlib.Core.Path.{◌≡◌, refl, sym, ap, ◌∙◌}
use native.Mathlib.Nat.{not-suc-le-zero, add-zero, zero-add}
use native.Mathlib.Numerals.{add-one}
use native.Mathlib.Omega.{arith}
use borrow.Author.Tests.{eqb-true, eq-eqb}
use lib.Dec.{eqb}
use lib.ListN.{length, get_or, drop, drop_of_length-le}
use lib.Seq.{drop-cons}
use Rattle.hash_order.proofs.KeepLaws.{once_none, once_first, once_tail, once_cons, hashes_inside}
use Rattle.hash_order.proofs.OrderLaws.{index_member}
use Rattle.hash_order.specs.Order.{member, keep, Once}
use Rattle.rules.proofs.Cases.{split, both, true_false, same_truth, either, or_left, or_right, and_true}
use Rattle.rules.proofs.Hash.{length_hashes_bytes}
use Rattle.rules.specs.Hash.{AreHashes, hashes_bytes}
use Rattle.rules.specs.Sizes.{sizes}
use Rattle.table.proofs.TableLaws.{length_rows, number_of_row, held_row, row_of_held, hash_of_held}
use Rattle.table.specs.Table.{Row, GoodTable, rows, hash_of, row_number, held, rows_from, rows_where}
use Rattle.table_graph.specs.Internal.Marks.{Marks, marked, pick_from, picked}

-- ---- which they are

-- tests that agree on the places of a list pick the same
pub pick_same : (l : List ℕ) (p q : ℕ → Bool) (i : ℕ) → ((k : ℕ) → k < length l → p (i + k) ≡ q (i + k)) → pick_from i l p ≡ pick_from i l q
unfolding pick_from
pick_same [] p q i f = refl
pick_same (x ∷ xs) p q i f =
    let here : p i ≡ q i = rw add-zero at (f 0 (omega arith)) in
    let rest =
    pick_same xs p q (suc i)
    (λ k h.
    let e : i + suc k ≡ suc i + k = omega arith in
    rw e at (f (suc k) (omega arith))) in
    rw (here, rest)

pub pick_none : (l : List ℕ) (i : ℕ) → pick_from i l (λ k. false) ≡ []
unfolding pick_from
pick_none [] i = refl
pick_none (x ∷ xs) i = pick_none xs (suc i)

-- a test of the number and not of its place
pub pick_keep : (l : List ℕ) (p : ℕ → Bool) (q : ℕ → Bool) (i : ℕ) → ((k : ℕ) → k < length l → p (i + k) ≡ q (get_or l k 0)) → pick_from i l p ≡ keep q l
unfolding pick_from keep
pick_keep [] p q i f = refl
pick_keep (x ∷ xs) p q i f =
    let here : p i ≡ q x = rw add-zero at (f 0 (omega arith)) in
    let rest =
    pick_keep xs p q (suc i)
    (λ k h.
    let e : i + suc k ≡ suc i + k = omega arith in
    rw e at (f (suc k) (omega arith))) in
    rw (here, rest)

-- what is kept of the picked ones
pub keep_pick : (l : List ℕ) (p q r : ℕ → Bool) (i : ℕ) → ((k : ℕ) → k < length l → r (i + k) ≡ (p (i + k) && q (get_or l k 0)))
    → keep q (pick_from i l p) ≡ pick_from i l r
unfolding pick_from keep
keep_pick [] p q r i f = refl
keep_pick (x ∷ xs) p q r i f =
    let here : r i ≡ (p i && q x) = rw add-zero at (f 0 (omega arith)) in
    let rest =
    keep_pick xs p q r (suc i)
    (λ k h.
    let e : i + suc k ≡ suc i + k = omega arith in
    rw e at (f (suc k) (omega arith))) in
    split (p i) (λ d. split (q x) (λ c. rw (here, d, c, rest)) (λ c. rw (here, d, c) rest)) (λ d. rw (here, d) rest)

pub pick_out : (l : List ℕ) (p : ℕ → Bool) (i h : ℕ) → member h (pick_from i l p) ≡ true
    → record { k : ℕ; less : k < length l; is : get_or l k 0 ≡ h; chosen : p (i + k) ≡ true }
unfolding pick_from member
pick_out [] p i h m = absurd (true_false false m refl)
pick_out (x ∷ xs) p i h m =
    let rest : member h (pick_from (suc i) xs p) ≡ true → record { k : ℕ; less : k < suc (length xs); is : get_or (x ∷ xs) k 0 ≡ h; chosen : p (i + k) ≡ true } =
    λ e.
    let w = pick_out xs p (suc i) h e in
    let q : i + suc w.k ≡ suc i + w.k = omega arith in
    record { k = suc w.k; less = omega (arith, w.less); is = w.is; chosen = rw q w.chosen }
    in
    split (p i)
    (λ e.
    let some : (eqb h x || member h (pick_from (suc i) xs p)) ≡ true = rw e at m in
    either (eqb h x) (member h (pick_from (suc i) xs p)) some
    (λ q. record { k = 0; less = omega arith; is = sym (eqb-true h x q); chosen = rw add-zero e })
    rest)
    (λ e. rest (rw e at m))

pub pick_in : (l : List ℕ) (p : ℕ → Bool) (i k : ℕ) → k < length l → p (i + k) ≡ true → member (get_or l k 0) (pick_from i l p) ≡ true
unfolding pick_from member
pick_in [] p i k h e = absurd (not-suc-le-zero h)
pick_in (x ∷ xs) p i zero h e =
    let q : p i ≡ true = rw add-zero at e in
    rw q (or_left (eqb x x) _ (eq-eqb x x refl))
pick_in (x ∷ xs) p i (suc k) h e =
    let q : i + suc k ≡ suc i + k = omega arith in
    let rest = pick_in xs p (suc i) k (omega arith) (rw q at e) in
    split (p i) (λ d. rw d (or_right (eqb (get_or xs k 0) x) _ rest)) (λ d. rw d rest)

-- each is a number of the list
pub pick_member : (l : List ℕ) (p : ℕ → Bool) (i h : ℕ) → member h (pick_from i l p) ≡ true → member h l ≡ true
pick_member l p i h m = let w = pick_out l p i h m in rw w.is at (index_member l w.k w.less)

pub pick_once : (l : List ℕ) (p : ℕ → Bool) (i : ℕ) → Once l → Once (pick_from i l p)
unfolding pick_from
pick_once [] p i o = once_none
pick_once (x ∷ xs) p i o =
    let rest : Once (pick_from (suc i) xs p) = pick_once xs p (suc i) (once_tail x xs o) in
    let none : member x (pick_from (suc i) xs p) ≡ false =
    split (member x (pick_from (suc i) xs p)) (λ m. absurd (true_false (member x xs) (pick_member xs p (suc i) x m) (once_first x xs o))) (λ m. m)
    in
    split (p i) (λ q. rw q (once_cons x (pick_from (suc i) xs p) none rest)) (λ q. rw q rest)

-- ---- how many they are

pub pick_most : (l : List ℕ) (p : ℕ → Bool) (i : ℕ) → length (pick_from i l p) ≤ length l
unfolding pick_from
pick_most [] p i = omega arith
pick_most (x ∷ xs) p i =
    let rest = pick_most xs p (suc i) in
    split (p i) (λ e. rw e (omega arith)) (λ e. rw e (omega arith))

pick_count : (l : List ℕ) (m : List Bool) (i : ℕ) → length (pick_from i l (λ k. get_or m k false)) + marked i m ≡ marked (i + length l) m
unfolding pick_from marked
pick_count [] m i = rw (add-zero i) (zero-add (marked i m))
pick_count (x ∷ xs) m i =
    let e : i + suc (length xs) ≡ suc i + length xs = omega arith in
    let rest : length (pick_from (suc i) xs (λ k. get_or m k false)) + cond (get_or m i false) (suc (marked i m)) (marked i m) ≡ marked (suc i + length xs) m =
    pick_count xs m (suc i) in
    rw e
    (split (get_or m i false)
    (λ q. rw q (let f = rw q at rest in omega (arith, f)))
    (λ q. rw q (let f = rw q at rest in omega (arith, f))))

-- as many as are counted
pub picked_count : (l : List ℕ) (m : List Bool) (n : ℕ) → length l ≡ n → length (picked l m) ≡ marked n m
unfolding picked marked
picked_count l m n e =
    let c : length (pick_from 0 l (λ k. get_or m k false)) + 0 ≡ marked (0 + length l) m = pick_count l m 0 in
    let z : 0 + length l ≡ n = omega arith in
    let d : length (pick_from 0 l (λ k. get_or m k false)) + 0 ≡ marked n m = rw z at c in
    omega arith

pub picked_size : (l : List ℕ) (m : List Bool) (n : ℕ) → length l ≡ n → sizes.hash * marked n m ≡ length (hashes_bytes (picked l m))
picked_size l m n e = rw length_hashes_bytes (omega (arith, picked_count l m n e))

pub marked_most : (n : ℕ) (m : List Bool) → marked n m ≤ n
unfolding marked
marked_most zero m = omega arith
marked_most (suc n) m = split (get_or m n false) (λ e. rw e (omega (arith, marked_most n m))) (λ e. rw e (omega (arith, marked_most n m)))

-- counted one after the other
pub count_starts : (m : List Bool) → 0 ≡ marked 0 m
unfolding marked
count_starts m = refl

module _ (m : List Bool) (i count : ℕ) (so : count ≡ marked i m) where
  pub count_most : count ≤ i
  count_most = omega (arith, marked_most i m)

  pub count_taken : get_or m i false ≡ true → count + 1 ≡ marked (i + 1) m
  unfolding marked
  count_taken e = rw (add-one i, e) (omega arith)

  pub count_passed : get_or m i false ≡ false → count ≡ marked (i + 1) m
  unfolding marked
  count_passed e = rw (add-one i, e) so

  pub count_ends : (n : ℕ) → i ≤ n → n ≤ i → count ≡ marked n m
  count_ends n h k = let e : i ≡ n = omega arith in rw e at so

-- ---- what is left of them from a place on

pub pick_left : List ℕ → List Bool → ℕ → List ℕ
pick_left l m i = pick_from i (drop i l) (λ k. get_or m k false)

module _ (l : List ℕ) (m : List Bool) where
  pub left_all : pick_left l m 0 ≡ picked l m
  unfolding pick_left picked
  left_all = refl

  pub left_taken : (i : ℕ) → i < length l → get_or m i false ≡ true → pick_left l m i ≡ get_or l i 0 ∷ pick_left l m (i + 1)
  unfolding pick_left pick_from
  left_taken i h q = rw (drop-cons l i 0 h, q, add-one i)

  pub left_passed : (i : ℕ) → i < length l → get_or m i false ≡ false → pick_left l m i ≡ pick_left l m (i + 1)
  unfolding pick_left pick_from
  left_passed i h q = rw (drop-cons l i 0 h, q, add-one i)

  pub left_none : (i : ℕ) → length l ≤ i → pick_left l m i ≡ []
  unfolding pick_left pick_from
  left_none i h = rw (drop_of_length-le l {i = i} h)

-- ---- marks that are known

pub marks_picked : (l : List ℕ) (m : List Bool) (p : ℕ → Bool) → Marks (length l) m p → picked l m ≡ pick_from 0 l p
unfolding picked
marks_picked l m p w = pick_same l (λ k. get_or m k false) p 0 (λ k h. rw zero-add (w.each k h))

-- ---- rows of a table

rows-from : (t : List Row) (p : ℕ → Bool) (i : ℕ) → rows_from i t p ≡ pick_from i (rows t) p
unfolding rows_from pick_from rows
rows-from [] p i = refl
rows-from (r ∷ t) p i = rw (rows-from t p (suc i))

pub rows_picked : (t : List Row) (p : ℕ → Bool) → rows_where t p ≡ pick_from 0 (rows t) p
unfolding rows_where
rows_picked t p = rows-from t p 0

-- the marked rows
pub rows_marked : (t : List Row) (m : List Bool) (p : ℕ → Bool) → Marks (length t) m p → picked (rows t) m ≡ rows_where t p
rows_marked t m p w = marks_picked (rows t) m p (record { each = λ i h. w.each i (rw (length_rows t) at h) }) ∙ sym (rows_picked t p)

pub rows_member : (t : List Row) (p : ℕ → Bool) (h : ℕ) → member h (rows_where t p) ≡ true → member h (rows t) ≡ true
rows_member t p h m = pick_member (rows t) p 0 h (rw (rows_picked t p) at m)

pub rows_most : (t : List Row) (p : ℕ → Bool) → length (rows_where t p) ≤ length t
rows_most t p = rw (rows_picked t p) (omega (arith, pick_most (rows t) p 0, length_rows t))

-- no row of a good table is chosen twice
pub rows_once : (t : List Row) → GoodTable t → (p : ℕ → Bool) → Once (rows_where t p)
rows_once t good p = rw (rows_picked t p) (pick_once (rows t) p 0 good.once)

-- hashes of rows being hashes, so are those of the chosen ones
pub chosen_hashes : (t : List Row) (p : ℕ → Bool) → AreHashes (rows t) → AreHashes (rows_where t p)
chosen_hashes t p a = hashes_inside (rows_where t p) (rows t) a (rows_member t p)

pub rows_where_lem : (t : List Row) → GoodTable t → (p : ℕ → Bool) (h : ℕ) → member h (rows_where t p) ≡ (held t h && p (row_number t h))
unfolding hash_of
rows_where_lem t good p h =
    same_truth (member h (rows_where t p)) (held t h && p (row_number t h))
    (λ m.
    let w = pick_out (rows t) p 0 h (rw (rows_picked t p) at m) in
    let less : w.k < length t = omega (arith, w.less, length_rows t) in
    let at : row_number t h ≡ w.k = ap (row_number t) (sym w.is) ∙ number_of_row t good w.k less in
    let chosen : p w.k ≡ true = rw zero-add at w.chosen in
    and_true (held t h) (p (row_number t h)) (rw w.is at (held_row t w.k less)) (rw at chosen))
    (λ e.
    let b = both (held t h) (p (row_number t h)) e in
    let less = row_of_held t h b.0 in
    let inside : row_number t h < length (rows t) = omega (arith, less, length_rows t) in
    rw (rows_picked t p) (rw (hash_of_held t h b.0) at (pick_in (rows t) p 0 (row_number t h) inside (rw zero-add b.1))))
