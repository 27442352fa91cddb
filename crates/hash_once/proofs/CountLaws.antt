-- Hashes counted once each: along their order, as many of them as another one follows. Assumes nothing.
use Prim.Native.Nat.{ℕ, suc, ◌+◌, ◌-◌, ◌*◌, ◌≤◌, ◌<◌}
use mathlib.Core.Bool.{Bool, true, false, cond, ◌||◌}
use mathlib.Core.List.{List, [], ◌∷◌, map}
use mathlib.Core.Path.{◌≡◌, refl, sym, ap, ◌∙◌}
use native.Mathlib.Omega.{arith}
use borrow.Author.Tests.{ltb-true, ltb-false, eqb-true, eqb-false}
use lib.Dec.{ltb, eqb}
use lib.ListN.{length, get_or}
use Rattle.hash_order.proofs.OrderLaws.{member_here, member_behind, member_index, index_member, ascend_members, insert_longer}
use Rattle.hash_order.specs.Order.{member, ascend, insert_once}
use Rattle.rules.proofs.Cases.{split, same_truth}
use Rattle.rules.proofs.Hash.{length_hashes_at, hashes_index}
use Rattle.rules.specs.Hash.{hash_at, hashes_at}
use Rattle.rules.specs.LittleEndian.{u16_at}
use Rattle.rules.specs.Sizes.{sizes}
use Rattle.table.specs.TableBytes.{u16s_at}
use Rattle.table_index.proofs.ByteLaws.{length_u16s, u16s_next, u16s_none, entry}
use Rattle.table_index.proofs.IndexLaws.{index_rises, index_has, index_member_below, index_length}
use Rattle.table_index.proofs.ListLaws.{map_member, member_map, rises_tail, rises_first}
use Rattle.table_index.specs.Index.{indexed, rises, record_hash}
use Rattle.hash_once.proofs.ApartLaws.{ascend_alike}
use Rattle.hash_once.specs.Internal.Count.{HashOrder, named_again}

-- ---- along a list

-- how many numbers stand there again right behind
unfoldable pub repeats : (ℕ → ℕ) → List ℕ → ℕ
repeats f [] = 0
repeats f (x ∷ []) = 0
repeats f (x ∷ y ∷ l) = cond (eqb (f x) (f y)) (suc (repeats f (y ∷ l))) (repeats f (y ∷ l))

pub or_twice : (x y : Bool) → (x || (x || y)) ≡ (x || y)
or_twice true y = refl
or_twice false y = refl

module _ (f : ℕ → ℕ) where
  -- the same number again
  pub again : (x y : ℕ) (l : List ℕ) → f x ≡ f y → ascend (map f (x ∷ y ∷ l)) ≡ ascend (map f (y ∷ l))
  unfolding member
  again x y l e =
      ascend_alike (map f (x ∷ y ∷ l)) (map f (y ∷ l)) (λ z. rw e (or_twice (eqb z (f y)) (member z (map f l))))

  -- another one comes before all that follow, and isn't among them
  pub none_behind : (x y : ℕ) (l : List ℕ) → rises (map f (x ∷ y ∷ l)) ≡ true → (f x ≡ f y → ⊥) → member (f x) (map f (y ∷ l)) ≡ false
  none_behind x y l up other =
      let tail : rises (map f (y ∷ l)) ≡ true = rises_tail (f x) (map f (y ∷ l)) up in
      split (member (f x) (map f (y ∷ l)))
      (λ m.
      absurd
      (other
      (let low : f x ≤ f y = rises_first (f x) (map f (y ∷ l)) up (f y) (member_here (f y) (map f l)) in
      let high : f y ≤ f x = rises_first (f y) (map f l) tail (f x) (member_behind (f x) (f y) (map f l) m other) in
      omega arith)))
      (λ m. m)

  another : (x y : ℕ) (l : List ℕ) → rises (map f (x ∷ y ∷ l)) ≡ true → (f x ≡ f y → ⊥) → length (ascend (map f (x ∷ y ∷ l))) ≡ suc (length (ascend (map f (y ∷ l))))
  unfolding ascend
  another x y l up other =
      insert_longer (f x) (ascend (map f (y ∷ l))) (ascend_members (f x) (map f (y ∷ l)) ∙ none_behind x y l up other)

  pub once_and_again : (l : List ℕ) → rises (map f l) ≡ true → length l ≡ length (ascend (map f l)) + repeats f l
  unfolding repeats ascend insert_once
  once_and_again [] up = refl
  once_and_again (x ∷ []) up = refl
  once_and_again (x ∷ y ∷ l) up =
      let rest : length (y ∷ l) ≡ length (ascend (map f (y ∷ l))) + repeats f (y ∷ l) = once_and_again (y ∷ l) (rises_tail (f x) (map f (y ∷ l)) up) in
      split (eqb (f x) (f y))
      (λ e. rw e (omega (arith, rest, ap length (again x y l (eqb-true (f x) (f y) e)))))
      (λ e. rw e (omega (arith, rest, another x y l up (eqb-false (f x) (f y) e))))

-- ---- along the order of a list's hashes

-- how many stand there again, of the entries from the k-th on
unfoldable pub again_from : List ℕ → List ℕ → ℕ → ℕ → ℕ
again_from list order count k = repeats (record_hash list sizes.hash) (u16s_at order (2 * k) (count - k))

-- both entries' hashes compared
pub same_named : (s : List ℕ) (a b x y : ℕ) (r : Bool) → a ≡ x → b ≡ y → r ≡ eqb (hash_at s (a * sizes.hash)) (hash_at s (b * sizes.hash))
    → r ≡ eqb (record_hash s sizes.hash x) (record_hash s sizes.hash y)
same_named s a b x y r p q e = rw (p, q) at e

module _ (list order : List ℕ) (count : ℕ) (o : HashOrder list order count) where
  abbrev f : ℕ → ℕ
  f = record_hash list sizes.hash

  at_place : (k : ℕ) → k < count → get_or (hashes_at list 0 count) k 0 ≡ f k
  at_place k b =
      let e : 0 + sizes.hash * k ≡ k * sizes.hash = omega arith in
      rw e at (hashes_index list 0 count k b)

  pub hashes_same : (h : ℕ) → member h (map f (indexed f count)) ≡ member h (hashes_at list 0 count)
  hashes_same h =
      let long : length (hashes_at list 0 count) ≡ count = length_hashes_at list 0 count in
      same_truth (member h (map f (indexed f count))) (member h (hashes_at list 0 count))
      (λ e.
      let r = member_map f (indexed f count) h e in
      let b : r.0 < count = index_member_below f count r.0 r.1 in
      let is : get_or (hashes_at list 0 count) r.0 0 ≡ h = at_place r.0 b ∙ r.2 in
      rw is at (index_member (hashes_at list 0 count) r.0 (omega arith)))
      (λ e.
      let r = member_index h (hashes_at list 0 count) e in
      let b : r.0 < count = omega (arith, r.1) in
      let is : f r.0 ≡ h = sym (at_place r.0 b) ∙ r.2 in
      rw is at (map_member f (indexed f count) r.0 (index_has f count r.0 b)))

  -- an entry names a hash of the list
  pub entry_named : (k r : ℕ) → k < count → r ≡ u16_at order (2 * k) → r < count
  entry_named k r b read =
      let long : length (u16s_at order 0 count) ≡ count = length_u16s order 0 count in
      let named : member (get_or (u16s_at order 0 count) k 0) (indexed f count) ≡ true = rw (← o.are) (index_member (u16s_at order 0 count) k (omega arith)) in
      omega (arith, index_member_below f count (get_or (u16s_at order 0 count) k 0) named, entry order count k b)

  pub counting_starts : count ≡ length (ascend (hashes_at list 0 count)) + again_from list order count 0
  unfolding again_from
  counting_starts =
      let start : 2 * 0 ≡ 0 = omega arith in
      let all : count - 0 ≡ count = omega arith in
      let same : ascend (map f (indexed f count)) ≡ ascend (hashes_at list 0 count) = ascend_alike (map f (indexed f count)) (hashes_at list 0 count) hashes_same in
      rw (start, all, o.are) (omega (arith, once_and_again f (indexed f count) (index_rises f count), index_length f count, ap length same))

module _ (list order : List ℕ) (count : ℕ) where
  module _ (k : ℕ) (b : k < count) (r : Bool) (e : r ≡ named_again list order count k) where
    turn : again_from list order count k ≡ cond r (suc (again_from list order count (k + 1))) (again_from list order count (k + 1))
    unfolding again_from repeats named_again
    turn =
        let here = u16s_next order count k (u16_at order (2 * k)) b refl in
        split (ltb (k + 1) count)
        (λ t.
        let next = u16s_next order count (k + 1) (u16_at order (2 * (k + 1))) (ltb-true (k + 1) count t) refl in
        rw (here, next, e, t))
        (λ t. rw (here, u16s_none order count (k + 1) (ltb-false (k + 1) count t), e, t))

    pub counting_again : (total once : ℕ) → r ≡ true → once ≡ total + again_from list order count k → once ≡ total + again_from list order count (k + 1) + 1
    counting_again total once q so = let t : again_from list order count k ≡ suc (again_from list order count (k + 1)) = rw q at turn in omega arith

    pub counting_other : (total once : ℕ) → r ≡ false → once ≡ total + again_from list order count k → once ≡ total + again_from list order count (k + 1)
    counting_other total once q so = let t : again_from list order count k ≡ again_from list order count (k + 1) = rw q at turn in omega arith

  none_again : (k : ℕ) → count ≤ k → again_from list order count k ≡ 0
  unfolding again_from repeats
  none_again k b = rw (u16s_none order count k b)

  pub counting_ends : (k once total : ℕ) → count ≤ k → once ≡ total + again_from list order count k → once ≡ total
  counting_ends k once total b so = omega (arith, none_again k b)
