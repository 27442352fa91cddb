-- Marks as the code makes them: one set by one, along a list, along the rows downward. Each pass is written as the loop runs, and one law says
-- which marks it leaves: those there were, and those that the pass means. In a downward pass a row's mark is final when the pass comes to it,
-- since only rows after it can name it; so what the pass leaves satisfies the equation of what is reached, and that is the only such set.
use Prim.Native.Nat.{ℕ, zero, suc, ◌+◌, ◌-◌, ◌*◌, ◌≤◌, ◌<◌}
use mathlib.Core.Bool.{Bool, true, false, ◌||◌, ◌&&◌}
use mathlib.Core.List.{List, [], ◌∷◌}
use mathlib.Core.Path.{◌≡◌, refl, sym, ap, ◌∙◌}
use native.Mathlib.Numerals.{add-one}
use native.Mathlib.Omega.{arith}
use borrow.Author.Tests.{eqb-true, eqb-false, eq-eqb, ne_eqb, ltb-true, ltb-false, lt-ltb, le-ltb}
use lib.Dec.{ltb, eqb}
use lib.ListN.{length, get_or, set, drop, replicate, length-set, get_or-replicate, drop_of_length-le}
use lib.Seq.{drop-cons, get_or-set_same, get_or-set_other}
use Rattle.hash_order.proofs.KeepLaws.{once_index}
use Rattle.hash_order.proofs.OrderLaws.{index_member}
use Rattle.hash_order.proofs.ReachLaws.{some_witness, reach_unique}
use Rattle.hash_order.specs.Order.{member, Once}
use Rattle.hash_order.specs.Reach.{some_below, reach}
use Rattle.rules.proofs.Cases.{split, both, same_truth, or_right}
use Rattle.rules.specs.Hash.{hash_at, hashes_at}
use Rattle.rules.specs.LittleEndian.{u16_at}
use Rattle.rules.specs.Sizes.{sizes}
use Rattle.table.proofs.GoodLaws.{good_down}
use Rattle.table.proofs.TableLaws.{entry_at_index, index_first, length_rows, length_rows_at, deps_of_row, number_place, length_used, used_index}
use Rattle.table.specs.TableBytes.{dep_count, used_at, rows_at, GoodRows}
use Rattle.table.specs.Table.{Row, rows, hash_of, deps_of, index_in}
use Rattle.table_graph.specs.Graph.{needed}
use Rattle.table_graph.specs.Internal.Marks.{Marks, Blank, mark_all, mark_row, mark_down, mark_hash}

-- ---- Booleans

pub or_assoc : (x y z : Bool) → ((x || y) || z) ≡ (x || (y || z))
or_assoc true y z = refl
or_assoc false y z = refl

pub or_false : (x : Bool) → (x || false) ≡ x
or_false true = refl
or_false false = refl

or_again : (x y : Bool) → (x || (x && y)) ≡ x
or_again true y = refl
or_again false y = refl

-- ---- marks that are made anew

pub blank : (n size : ℕ) → n ≤ size → Blank n (replicate size false)
blank n size h = record { each = λ i l. get_or-replicate size i false false (omega arith) }

-- marks added to none
pub blank_or : (n : ℕ) (m r : List Bool) (p : ℕ → Bool) → Blank n m → Marks n r (λ i. get_or m i false || p i) → Marks n r p
blank_or n m r p b w = record { each = λ i h. w.each i h ∙ rw (b.each i h) }

-- ---- one mark, and the marks of a list

module _ (m : List Bool) (k : ℕ) where
  pub mark_at : (i : ℕ) → i < length m → get_or (set m k true) i false ≡ (get_or m i false || eqb i k)
  mark_at i h =
      split (eqb i k)
      (λ e.
      let q : i ≡ k = eqb-true i k e in
      let l : k < length m = omega arith in
      rw (e, q, get_or-set_same m k true false l) (sym (or_right (get_or m k false) true refl)))
      (λ e. rw (get_or-set_other m k i true false (eqb-false i k e), e) (sym (or_false (get_or m i false))))

pub length_mark_all : (m : List Bool) (ks : List ℕ) → length (mark_all m ks) ≡ length m
unfolding mark_all
length_mark_all m [] = refl
length_mark_all m (k ∷ ks) = length_mark_all (set m k true) ks ∙ length-set m k true

pub mark_all_lem : (m : List Bool) (ks : List ℕ) (i : ℕ) → i < length m → get_or (mark_all m ks) i false ≡ (get_or m i false || member i ks)
unfolding mark_all member
mark_all_lem m [] i h = sym (or_false (get_or m i false))
mark_all_lem m (k ∷ ks) i h =
    let l : i < length (set m k true) = rw length-set h in
    rw (mark_all_lem (set m k true) ks i l, mark_at m k i h) (or_assoc (get_or m i false) (eqb i k) (member i ks))

-- ---- passes over the rows before n, whose numbers are given

module _ (deps : ℕ → List ℕ) where
  pub length_mark_row : (i : ℕ) (m : List Bool) → length (mark_row false deps i m) ≡ length m
  unfolding mark_row
  length_mark_row i m = split (get_or m i false) (λ e. rw e (length_mark_all m (deps i))) (λ e. rw e)

  mark_row_lem : (j : ℕ) (m : List Bool) (i : ℕ) → i < length m
      → get_or (mark_row false deps j m) i false ≡ (get_or m i false || (get_or m j false && member i (deps j)))
  unfolding mark_row
  mark_row_lem j m i h = split (get_or m j false) (λ e. rw e (mark_all_lem m (deps j) i h)) (λ e. rw e (sym (or_false (get_or m i false))))

  module _ (every : Bool) (i : ℕ) (m : List Bool) (counts : Bool) (is : counts ≡ (every || get_or m i false)) where
    pub row_left : counts ≡ false → m ≡ mark_row every deps i m
    unfolding mark_row
    row_left e = rw (← is, e)

    pub row_marked : (r : List Bool) → counts ≡ true → r ≡ mark_all m (deps i) → r ≡ mark_row every deps i m
    unfolding mark_row
    row_marked r e q = rw (← is, e) q

  pub mark_needed : (n : ℕ) (m : List Bool) (i : ℕ) → i < length m
      → get_or (mark_down true deps n m) i false ≡ (get_or m i false || some_below n (λ k. member i (deps k)))
  unfolding mark_down mark_row some_below
  mark_needed zero m i h = sym (or_false (get_or m i false))
  mark_needed (suc n) m i h =
      let l : i < length (mark_all m (deps n)) = rw length_mark_all h in
      mark_needed n (mark_all m (deps n)) i l
      ∙ rw (mark_all_lem m (deps n) i h) (or_assoc (get_or m i false) (member i (deps n)) _)

  module _ (all : ℕ) (down : (k i : ℕ) → k < all → member i (deps k) ≡ true → i < k) where
    none_later : (x : ℕ → Bool) (n : ℕ) → n ≤ all → some_below n (λ k. x k && member n (deps k)) ≡ false
    none_later x n f =
        split (some_below n (λ k. x k && member n (deps k)))
        (λ e.
        let w = some_witness n (λ k. x k && member n (deps k)) e in
        absurd (omega (arith, down w.k n (omega (arith, w.less)) (both (x w.k) (member n (deps w.k)) w.is).1)))
        (λ e. e)

    mark_down_lem : (n : ℕ) (m : List Bool) → n ≤ all → n ≤ length m → (i : ℕ) → i < length m
        → get_or (mark_down false deps n m) i false ≡ (get_or m i false || some_below n (λ k. get_or (mark_down false deps n m) k false && member i (deps k)))
    unfolding mark_down some_below
    mark_down_lem zero m a f i h = sym (or_false (get_or m i false))
    mark_down_lem (suc n) m a f i h =
        let next = mark_row false deps n m in
        let l : length next ≡ length m = length_mark_row n m in
        let rest = mark_down_lem n next (omega arith) (omega arith) in
        let same : get_or (mark_down false deps n next) n false ≡ get_or m n false =
        rest n (omega arith)
        ∙ ap (λ (b : Bool). get_or next n false || b) (none_later (λ k. get_or (mark_down false deps n next) k false) n (omega arith))
        ∙ or_false (get_or next n false)
        ∙ mark_row_lem n m n (omega arith)
        ∙ or_again (get_or m n false) (member n (deps n)) in
        rest i (omega arith) ∙ rw (same, mark_row_lem n m i h) (or_assoc (get_or m i false) _ _)

    -- the marks that were, and what is reached from them
    pub marks_reach : (m : List Bool) → all ≤ length m → (i : ℕ) → i < all
        → get_or (mark_down false deps all m) i false ≡ reach all (λ k. get_or m k false) (λ k j. member j (deps k)) i
    marks_reach m f i h =
        reach_unique all (λ k. get_or m k false) (λ k j. member j (deps k)) down (λ k. get_or (mark_down false deps all m) k false)
        (λ j l. mark_down_lem all m (omega arith) f j (omega arith))
        i h

-- ---- a row's numbers, marked one after the other

module _ (s : List ℕ) (i count : ℕ) (c : count ≡ dep_count s i) where
  numbers_many : length (used_at s i) ≡ count
  numbers_many = length_used s i ∙ sym c

  module _ (j k : ℕ) (inside : j < count) (read : k ≡ u16_at s (number_place i j)) where
    pub number_is : get_or (used_at s i) j 0 ≡ k
    number_is = used_index s i j (omega arith) ∙ sym read

    pub number_member : member k (used_at s i) ≡ true
    number_member = rw number_is at (index_member (used_at s i) j (omega (arith, numbers_many)))

    -- the numbers from the j-th on
    pub numbers_more : drop j (used_at s i) ≡ k ∷ drop (j + 1) (used_at s i)
    numbers_more = rw (add-one j) (drop-cons (used_at s i) j 0 (omega (arith, numbers_many)) ∙ rw number_is)

  pub numbers_none : (j : ℕ) → count ≤ j → drop j (used_at s i) ≡ []
  numbers_none j h = drop_of_length-le (used_at s i) {i = j} (omega (arith, numbers_many))

  pub numbers_on : (m : List Bool) (j k : ℕ) → j < count → k ≡ u16_at s (number_place i j)
      → mark_all m (drop j (used_at s i)) ≡ mark_all (set m k true) (drop (j + 1) (used_at s i))
  unfolding mark_all
  numbers_on m j k h e = rw (numbers_more j k h e)

  pub numbers_done : (m : List Bool) (j : ℕ) → count ≤ j → mark_all m (drop j (used_at s i)) ≡ m
  unfolding mark_all
  numbers_done m j h = rw (numbers_none j h)

-- ---- the passes in terms of the rows of a table

module _ (s : List ℕ) (n : ℕ) where
  abbrev t : List Row
  t = rows_at s 0 n

  pub down_on : (every : Bool) (i : ℕ) (m r : List Bool) → 0 < i → i ≤ n → r ≡ mark_row every (used_at s) (i - 1) m
      → mark_down every (deps_of t) i m ≡ mark_down every (deps_of t) (i - 1) r
  unfolding mark_down mark_row
  down_on every i m r h l e =
      let last : i ≡ suc (i - 1) = omega arith in
      ap (λ (k : ℕ). mark_down every (deps_of t) k m) last ∙ down_row (i - 1) (omega arith) ∙ ap (mark_down every (deps_of t) (i - 1)) (sym e)
    where
      down_row : (k : ℕ) → k < n → mark_down every (deps_of t) (suc k) m ≡ mark_down every (deps_of t) k (mark_row every (used_at s) k m)
      down_row k f = ap (mark_down every (deps_of t) k) (rw (deps_of_row s n k f))

  pub down_done : (every : Bool) (i : ℕ) (m : List Bool) → i ≤ 0 → mark_down every (deps_of t) i m ≡ m
  unfolding mark_down
  down_done every i m h =
      let e : i ≡ 0 = omega arith in
      rw e

  module _ (g : GoodRows s n) where
    down_rows : (k i : ℕ) → k < n → member i (deps_of t k) ≡ true → i < k
    down_rows k i h e = good_down s n g k i h (rw (deps_of_row s n k h) at e)

    pub below_marked : (m r : List Bool) → n ≤ length m → r ≡ mark_down false (deps_of t) n m
        → Marks n r (reach n (λ k. get_or m k false) (λ k j. member j (deps_of t k)))
    below_marked m r f e = record { each = λ i h. rw e (marks_reach (deps_of t) n down_rows m f i h) }

  pub needed_marked : (m r : List Bool) → n ≤ length m → r ≡ mark_down true (deps_of t) n m → Marks n r (λ i. get_or m i false || needed t i)
  unfolding needed
  needed_marked m r f e = record { each = λ i h. rw (e, length_rows_at s 0 n) (mark_needed (deps_of t) n m i (omega arith)) }

-- ---- marks of a list's hashes

unfoldable pub mark_list : List ℕ → List Bool → List ℕ → List Bool
mark_list hs m [] = m
mark_list hs m (h ∷ l) = mark_list hs (mark_hash hs m h) l

module _ (hs : List ℕ) where
  length_mark_hash : (m : List Bool) (h : ℕ) → length (mark_hash hs m h) ≡ length m
  unfolding mark_hash
  length_mark_hash m h = split (ltb (index_in hs h) (length hs)) (λ e. rw e (length-set m (index_in hs h) true)) (λ e. rw e)

  module _ (once : Once hs) where
    mark_hash_lem : (m : List Bool) (h i : ℕ) → length hs ≤ length m → i < length hs → get_or (mark_hash hs m h) i false ≡ (get_or m i false || eqb (get_or hs i 0) h)
    unfolding mark_hash
    mark_hash_lem m h i f l =
        split (ltb (index_in hs h) (length hs))
        (λ e.
        let inside : index_in hs h < length hs = ltb-true _ _ e in
        let at : get_or hs (index_in hs h) 0 ≡ h = entry_at_index hs h inside in
        let same : eqb i (index_in hs h) ≡ eqb (get_or hs i 0) h =
        same_truth (eqb i (index_in hs h)) (eqb (get_or hs i 0) h)
        (λ q. eq-eqb (get_or hs i 0) h (ap (λ (k : ℕ). get_or hs k 0) (eqb-true i (index_in hs h) q) ∙ at))
        (λ q. eq-eqb i (index_in hs h) (once_index hs once i (index_in hs h) l inside (eqb-true (get_or hs i 0) h q ∙ sym at))) in
        rw e (mark_at m (index_in hs h) i (omega arith) ∙ rw same))
        (λ e.
        let none : eqb (get_or hs i 0) h ≡ false =
        ne_eqb (get_or hs i 0) h (λ q. let p = index_first hs h i l q in omega (arith, ltb-false (index_in hs h) (length hs) e)) in
        rw (e, none) (sym (or_false (get_or m i false))))

    pub mark_list_lem : (m : List Bool) (l : List ℕ) (i : ℕ) → length hs ≤ length m → i < length hs
        → get_or (mark_list hs m l) i false ≡ (get_or m i false || member (get_or hs i 0) l)
    unfolding mark_list member
    mark_list_lem m [] i f h = sym (or_false (get_or m i false))
    mark_list_lem m (x ∷ l) i f h =
        let k : length hs ≤ length (mark_hash hs m x) = rw (length_mark_hash m x) f in
        rw (mark_list_lem (mark_hash hs m x) l i k h, mark_hash_lem m x i f h) (or_assoc (get_or m i false) (eqb (get_or hs i 0) x) (member (get_or hs i 0) l))

module _ (s : List ℕ) (n : ℕ) where
  abbrev hs : List ℕ
  hs = rows (rows_at s 0 n)

  long : length hs ≡ n
  long = length_rows (rows_at s 0 n) ∙ length_rows_at s 0 n

  pub hash_held : (m : List Bool) (h row : ℕ) → row ≡ index_in hs h → row < n → set m row true ≡ mark_hash hs m h
  unfolding mark_hash
  hash_held m h row e l = rw (← e, long, lt-ltb row n l)

  pub hash_unknown : (m : List Bool) (h row : ℕ) → row ≡ index_in hs h → n ≤ row → m ≡ mark_hash hs m h
  unfolding mark_hash
  hash_unknown m h row e l = rw (← e, long, le-ltb row n l)

  module _ (l : List ℕ) (place count : ℕ) where
    pub list_start : (m : List Bool) → mark_list hs m (hashes_at l (place + sizes.hash * 0) (count - 0)) ≡ mark_list hs m (hashes_at l place count)
    list_start m =
        let a : place + sizes.hash * 0 ≡ place = omega arith in
        let b : count - 0 ≡ count = omega arith in
        rw (a, b)

    pub list_on : (m r : List Bool) (k : ℕ) → k < count → r ≡ mark_hash hs m (hash_at l (place + sizes.hash * k))
        → mark_list hs m (hashes_at l (place + sizes.hash * k) (count - k)) ≡ mark_list hs r (hashes_at l (place + sizes.hash * (k + 1)) (count - (k + 1)))
    unfolding mark_list hashes_at
    list_on m r k h e =
        let c : count - k ≡ suc (count - (k + 1)) = omega arith in
        let a : place + sizes.hash * (k + 1) ≡ place + sizes.hash * k + sizes.hash = omega arith in
        rw (c, a, e)

    pub list_done : (m : List Bool) (k : ℕ) → count ≤ k → mark_list hs m (hashes_at l (place + sizes.hash * k) (count - k)) ≡ m
    unfolding mark_list hashes_at
    list_done m k h =
        let c : count - k ≡ 0 = omega arith in
        rw c

    pub list_marked : GoodRows s n → (m r : List Bool) → n ≤ length m → r ≡ mark_list hs m (hashes_at l place count)
        → Marks n r (λ i. get_or m i false || member (hash_of (rows_at s 0 n) i) (hashes_at l place count))
    unfolding hash_of
    list_marked g m r f e =
        record {
          each =
              λ i h.
              rw e (mark_list_lem hs g.good.once m (hashes_at l place count) i (rw long f) (rw long h));
        }
