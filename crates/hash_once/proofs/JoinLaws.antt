-- Hashes counted once each beside others that ascend: along their order each adds one, unless it follows again or is one of the others. Assumes nothing.
use Prim.Native.Nat.{ℕ, ◌+◌, ◌-◌, ◌*◌, ◌≤◌, ◌<◌}
use mathlib.Core.Bool.{Bool, true, false, cond, ◌||◌, ◌&&◌}
use mathlib.Core.List.{List, [], ◌∷◌, ◌++◌, map}
use mathlib.Core.Path.{◌≡◌, refl, sym, ap, ◌∙◌}
use native.Mathlib.Nat.{zero-add}
use native.Mathlib.Omega.{arith}
use borrow.Author.Tests.{ltb-true, ltb-false, lt-ltb, le-ltb, eqb-true, eqb-false, eq-eqb}
use lib.Dec.{ltb, eqb}
use lib.ListN.{length, get_or}
use Rattle.hash_order.proofs.OrderLaws.{member_append, index_member, insert_there, insert_longer, ascend_ascends, ascend_members, ascend_same}
use Rattle.hash_order.specs.Order.{member, ascends, ascend, place_of}
use Rattle.rules.proofs.Cases.{split, both, true_false, and_true}
use Rattle.rules.proofs.Hash.{length_hashes_at}
use Rattle.rules.specs.Hash.{hash_at, hashes_at}
use Rattle.rules.specs.LittleEndian.{u16_at}
use Rattle.rules.specs.Sizes.{sizes}
use Rattle.table.specs.TableBytes.{u16s_at}
use Rattle.table_index.proofs.ByteLaws.{u16s_next, u16s_none}
use Rattle.table_index.proofs.IndexLaws.{index_rises}
use Rattle.table_index.proofs.ListLaws.{rises_tail, place_unknown}
use Rattle.table_index.specs.Index.{indexed, rises, record_hash}
use Rattle.hash_once.proofs.ApartLaws.{ascend_alike}
use Rattle.hash_once.proofs.CountLaws.{or_twice, none_behind, hashes_same}
use Rattle.hash_once.proofs.InsertLaws.{stands}
use Rattle.hash_once.specs.Internal.Count.{HashOrder, named_again, added_by}

-- ---- among the first hashes

-- what stands at the place of a hash tells whether it is one of them
pub among : (list : List ℕ) (count h k : ℕ) (t : Bool) → ascends (hashes_at list 0 count) ≡ true → k ≡ place_of h (hashes_at list 0 count)
    → t ≡ (ltb k count && eqb (hash_at list (sizes.hash * k)) h) → t ≡ member h (hashes_at list 0 count)
among list count h k t up place e =
    let long : length (hashes_at list 0 count) ≡ count = length_hashes_at list 0 count in
    split t
    (λ y.
    let z = both (ltb k count) (eqb (hash_at list (sizes.hash * k)) h) (sym e ∙ y) in
    let inside : k < count = ltb-true k count z.0 in
    let at : get_or (hashes_at list 0 count) k 0 ≡ h = stands list count h k inside ∙ eqb-true _ h z.1 in
    let there : member (get_or (hashes_at list 0 count) k 0) (hashes_at list 0 count) ≡ true = index_member (hashes_at list 0 count) k (omega arith) in
    y ∙ sym (rw at at there))
    (λ n.
    n
    ∙ sym
    (place_unknown (hashes_at list 0 count) h up
    (rw (← place)
    (λ b d.
    let inside : k < count = omega (arith, long) in
    let same : hash_at list (sizes.hash * k) ≡ h = sym (stands list count h k inside) ∙ d in
    true_false t (e ∙ and_true (ltb k count) _ (lt-ltb k count inside) (eq-eqb _ h same)) n))))

-- ---- along a list

-- how many the first one adds
unfoldable pub first : Bool → Bool → ℕ
first again there = cond again 0 (cond there 0 1)

module _ (f : ℕ → ℕ) (some : List ℕ) where
  -- how many numbers are added to some
  unfoldable pub joins : List ℕ → ℕ
  joins [] = 0
  joins (x ∷ []) = first false (member (f x) some)
  joins (x ∷ y ∷ l) = first (eqb (f x) (f y)) (member (f x) some) + joins (y ∷ l)

  -- a number that isn't behind adds one, unless it is one of them
  put_first : (h : ℕ) (l : List ℕ) → member h l ≡ false → length (ascend (h ∷ (l ++ some))) ≡ first false (member h some) + length (ascend (l ++ some))
  unfolding first ascend
  put_first h l new =
      let is : member h (ascend (l ++ some)) ≡ member h some = ascend_members h (l ++ some) ∙ member_append h l some ∙ rw new in
      split (member h some)
      (λ e. rw e (ap length (insert_there h (ascend (l ++ some)) (ascend_ascends (l ++ some)) (is ∙ e)) ∙ sym (zero-add _)))
      (λ e. rw e (omega (arith, insert_longer h (ascend (l ++ some)) (is ∙ e))))

  pub joined : (l : List ℕ) → rises (map f l) ≡ true → ascends some ≡ true → length (ascend (map f l ++ some)) ≡ length some + joins l
  unfolding joins first member
  joined [] up a = omega (arith, ap length (ascend_same some a))
  joined (x ∷ []) up a = omega (arith, put_first (f x) [] refl, ap length (ascend_same some a))
  joined (x ∷ y ∷ l) up a =
      let tail : rises (map f (y ∷ l)) ≡ true = rises_tail (f x) (map f (y ∷ l)) up in
      let rest : length (ascend (map f (y ∷ l) ++ some)) ≡ length some + joins (y ∷ l) = joined (y ∷ l) tail a in
      split (eqb (f x) (f y))
      (λ e.
      let same : ascend (map f (x ∷ y ∷ l) ++ some) ≡ ascend (map f (y ∷ l) ++ some) =
      ascend_alike (map f (x ∷ y ∷ l) ++ some) (map f (y ∷ l) ++ some) (λ z. rw (eqb-true (f x) (f y) e) (or_twice (eqb z (f y)) (member z (map f l ++ some))))
      in
      rw e (omega (arith, rest, ap length same)))
      (λ e. rw e (omega (arith, rest, put_first (f x) (map f (y ∷ l)) (none_behind f x y l up (eqb-false (f x) (f y) e)))))

-- ---- along the order of a list's hashes

-- how many the entries from the k-th on add
unfoldable pub joins_from : List ℕ → List ℕ → ℕ → List ℕ → ℕ → ℕ
joins_from list order count some k = joins (record_hash list sizes.hash) some (u16s_at order (2 * k) (count - k))

pub again_next : (list order : List ℕ) (count k : ℕ) (r : Bool) → k + 1 < count
    → r ≡ eqb (record_hash list sizes.hash (u16_at order (2 * k))) (record_hash list sizes.hash (u16_at order (2 * (k + 1))))
    → r ≡ named_again list order count k
unfolding named_again
again_next list order count k r b e = rw (lt-ltb (k + 1) count b) e

pub again_last : (list order : List ℕ) (count k : ℕ) → count ≤ k + 1 → false ≡ named_again list order count k
unfolding named_again
again_last list order count k b = rw (le-ltb (k + 1) count b)

module _ (list order : List ℕ) (count : ℕ) (some : List ℕ) (k : ℕ) where
  pub added_again : (r : Bool) → r ≡ named_again list order count k → r ≡ true → 0 ≡ added_by list order count some k
  unfolding added_by
  added_again r e y = rw (sym e ∙ y)

  module _ (r : Bool) (e : r ≡ named_again list order count k) (n : r ≡ false) (x : ℕ) (read : x ≡ u16_at order (2 * k)) (t : Bool)
      (is : t ≡ member (hash_at list (x * sizes.hash)) some) where
    pub added_there : t ≡ true → 0 ≡ added_by list order count some k
    unfolding added_by
    added_there y = let there : member (record_hash list sizes.hash (u16_at order (2 * k))) some ≡ true = sym (rw read at is) ∙ y in rw (sym e ∙ n, there)

    pub added_new : t ≡ false → 1 ≡ added_by list order count some k
    unfolding added_by
    added_new y = let there : member (record_hash list sizes.hash (u16_at order (2 * k))) some ≡ false = sym (rw read at is) ∙ y in rw (sym e ∙ n, there)

  most : added_by list order count some k ≤ 1
  unfolding added_by
  most =
      split (named_again list order count k) (λ e. rw e (omega arith))
      (λ e. split (member (record_hash list sizes.hash (u16_at order (2 * k))) some) (λ d. rw (e, d) (omega arith)) (λ d. rw (e, d) (omega arith)))

  pub added_most : (r : ℕ) → r ≡ added_by list order count some k → r ≤ 1
  added_most r e = omega (arith, most)

  joins_next : k < count → joins_from list order count some k ≡ added_by list order count some k + joins_from list order count some (k + 1)
  unfolding joins_from joins first added_by named_again
  joins_next b =
      let here = u16s_next order count k (u16_at order (2 * k)) b refl in
      split (ltb (k + 1) count)
      (λ e.
      let next = u16s_next order count (k + 1) (u16_at order (2 * (k + 1))) (ltb-true (k + 1) count e) refl in
      rw (here, next, e))
      (λ e. rw (here, u16s_none order count (k + 1) (ltb-false (k + 1) count e), e) (omega arith))

  pub joining_on : (done total r : ℕ) → k < count → r ≡ added_by list order count some k → done + joins_from list order count some k ≡ total
      → done + r + joins_from list order count some (k + 1) ≡ total
  joining_on done total r b e so = omega (arith, joins_next b)

module _ (list order : List ℕ) (count : ℕ) (o : HashOrder list order count) (some : List ℕ) where
  pub joining_starts : (before : ℕ) → length some ≡ before → ascends some ≡ true
      → before + joins_from list order count some 0 ≡ length (ascend (hashes_at list 0 count ++ some))
  unfolding joins_from
  joining_starts before long up =
      let start : 2 * 0 ≡ 0 = omega arith in
      let all : count - 0 ≡ count = omega arith in
      let same : ascend (map (record_hash list sizes.hash) (indexed (record_hash list sizes.hash) count) ++ some) ≡ ascend (hashes_at list 0 count ++ some) =
      ascend_alike (map (record_hash list sizes.hash) (indexed (record_hash list sizes.hash) count) ++ some) (hashes_at list 0 count ++ some)
      (λ h.
      member_append h (map (record_hash list sizes.hash) (indexed (record_hash list sizes.hash) count)) some
      ∙ ap (λ (z : Bool). z || member h some) (hashes_same list order count o h)
      ∙ sym (member_append h (hashes_at list 0 count) some))
      in
      rw (start, all, o.are)
      (omega (arith, joined (record_hash list sizes.hash) some (indexed (record_hash list sizes.hash) count) (index_rises (record_hash list sizes.hash) count) up, ap length same))

  pub joining_ends : (k done total : ℕ) → count ≤ k → done + joins_from list order count some k ≡ total → done ≡ total
  unfolding joins_from joins
  joining_ends k done total b so =
      let none : joins_from list order count some k ≡ 0 = rw (u16s_none order count k b) refl in
      omega arith
