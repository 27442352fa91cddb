-- The index of a table. What fits names each row once, so no hash stands twice; the index of a table with no hash twice fits; and what fits is
-- the index: its hashes ascend over the same rows. Then what looking up by it finds, and how a row goes in.
use Prim.Native.Nat.{ℕ, zero, suc, ◌≤◌, ◌<◌}
use mathlib.Core.Bool.{Bool, true, false, ◌&&◌, ◌||◌}
use mathlib.Core.List.{List, [], ◌∷◌, ◌++◌, map}
use mathlib.Core.Path.{◌≡◌, refl, sym, ap, ◌∙◌}
use native.Mathlib.Nat.{not-suc-le-zero}
use native.Mathlib.Omega.{arith}
use borrow.Author.Tests.{ltb-true, ltb-false, lt-ltb, le-ltb, eq-eqb, ne_eqb, eqb-true, eqb-false}
use lib.Dec.{ltb, eqb}
use lib.ListN.{length, get_or, take, drop, length-map}
use lib.Seq.{ext_get_or}
use Rattle.hash_order.proofs.OrderLaws.{member_here, member_there, member_behind, member_none, member_index, index_member, ascends_index, insert_ascends, insert_longer, ascend_ascends, ascend_members, ascending_unique}
use Rattle.hash_order.specs.Order.{member, every, ascends, insert_once, place_of, ascend}
use Rattle.rules.proofs.Cases.{split, both, other, true_false, same_truth}
use Rattle.table_index.specs.Index.{put, indexed, fits_by, rises}
use Rattle.table_index.proofs.ListLaws.{compared, each_below, below_each, map_index, map_member, member_map, sorted_length, ascending_few, rises_tail, rises_first, rises_cons}

-- ---- what fits

pub record FittingNumbers (f : ℕ → ℕ) (n : ℕ) (l : List ℕ) : Type 0 where
  pub long : length l ≡ n
  pub below : (x : ℕ) → member x l ≡ true → x < n
  pub order : ascends (map f l) ≡ true

-- no two numbers below n have the same hash
abbrev pub Apart : (ℕ → ℕ) → ℕ → Type 0
Apart f n = (i j : ℕ) → i < n → j < n → f i ≡ f j → i ≡ j

module _ (f : ℕ → ℕ) (n : ℕ) (l : List ℕ) where
  pub fits_has : fits_by f n l ≡ true → FittingNumbers f n l
  unfolding fits_by
  fits_has e =
      let p = both (eqb (length l) n && every (λ i. ltb i n) l) (ascends (map f l)) e in
      let q = both (eqb (length l) n) (every (λ i. ltb i n) l) p.0 in
      record { long = eqb-true (length l) n q.0; below = each_below n l q.1; order = p.1 }

  pub has_fits : FittingNumbers f n l → fits_by f n l ≡ true
  unfolding fits_by
  has_fits w = rw (eq-eqb (length l) n w.long, below_each n l w.below) w.order

  module _ (w : FittingNumbers f n l) where
    -- n entries, all different, below n: each number below n is one
    pub each_named : (i : ℕ) → i < n → member i l ≡ true
    unfolding ascend
    each_named i b =
        split (member i l)
        (λ e. e)
        (λ e.
        let more : length (ascend (i ∷ l)) ≡ suc (length l) =
        insert_longer i (ascend l) (ascend_members i l ∙ e) ∙ ap suc (sorted_length f l w.order)
        in
        let few : length (ascend (i ∷ l)) ≤ n =
        ascending_few (ascend (i ∷ l)) n (ascend_ascends (i ∷ l))
        (λ x m.
        let m₂ : member x (i ∷ l) ≡ true = sym (ascend_members x (i ∷ l)) ∙ m in
        split (eqb x i)
        (λ q. omega (arith, eqb-true x i q))
        (λ q. w.below x (member_behind x i l m₂ (eqb-false x i q))))
        in
        absurd (omega (arith, w.long)))

    pub hashes_once : Apart f n
    hashes_once i j bi bj e =
        let p = member_index i l (each_named i bi) in
        let q = member_index j l (each_named j bj) in
        let fi : get_or (map f l) p.0 0 ≡ f i = map_index f l p.0 p.1 ∙ ap f p.2 in
        let fj : get_or (map f l) q.0 0 ≡ f j = map_index f l q.0 q.1 ∙ ap f q.2 in
        compared p.0 q.0
        (λ b.
        let c : q.0 < length (map f l) = omega (arith, q.1, length-map l f) in
        absurd (omega (arith, ascends_index (map f l) p.0 q.0 w.order b c)))
        (λ b. sym p.2 ∙ rw b q.2)
        (λ b.
        let c : p.0 < length (map f l) = omega (arith, p.1, length-map l f) in
        absurd (omega (arith, ascends_index (map f l) q.0 p.0 w.order b c)))

-- ---- a number put in

module _ (f : ℕ → ℕ) (i : ℕ) where
  pub put_length : (l : List ℕ) → length (put f i l) ≡ suc (length l)
  unfolding put
  put_length [] = refl
  put_length (x ∷ xs) = split (ltb (f x) (f i)) (λ e. rw (e, put_length xs)) (λ e. rw e)

  or_swap : (x y z : Bool) → (x || (y || z)) ≡ (y || (x || z))
  or_swap true true z = refl
  or_swap true false z = refl
  or_swap false true z = refl
  or_swap false false z = refl

  pub put_member : (l : List ℕ) (x : ℕ) → member x (put f i l) ≡ (eqb x i || member x l)
  unfolding put member
  put_member [] x = refl
  put_member (y ∷ ys) x =
      split (ltb (f y) (f i))
      (λ e. rw (e, put_member ys x) (or_swap (eqb x y) (eqb x i) (member x ys)))
      (λ e. rw e)

  -- where its hash isn't there yet the hashes are those with it put in
  pub put_hashes : (l : List ℕ) → member (f i) (map f l) ≡ false → map f (put f i l) ≡ insert_once (f i) (map f l)
  unfolding put insert_once member
  put_hashes [] m = refl
  put_hashes (x ∷ xs) m =
      compared (f x) (f i)
      (λ b.
      let d : eqb (f i) (f x) ≡ false = ne_eqb (f i) (f x) (omega arith) in
      rw (lt-ltb (f x) (f i) b, le-ltb (f i) (f x) (omega arith), d, put_hashes xs (rw d at m)))
      (λ b. absurd (true_false true refl (rw (eq-eqb (f i) (f x) (sym b)) at m)))
      (λ b. rw (le-ltb (f x) (f i) (omega arith), lt-ltb (f i) (f x) b))

  pub put_rises : (l : List ℕ) → rises (map f l) ≡ true → rises (map f (put f i l)) ≡ true
  unfolding put
  put_rises [] a = rises_cons (f i) [] a (λ y m. absurd (member_none y m))
  put_rises (x ∷ xs) a =
      split (ltb (f x) (f i))
      (λ e.
      let below : f x < f i = ltb-true (f x) (f i) e in
      rw e
      (rises_cons (f x) (map f (put f i xs)) (put_rises xs (rises_tail (f x) (map f xs) a))
      (λ y m.
      let r = member_map f (put f i xs) y m in
      let s : (eqb r.0 i || member r.0 xs) ≡ true = sym (put_member xs r.0) ∙ r.1 in
      split (eqb r.0 i)
      (λ q. let same : f r.0 ≡ f i = ap f (eqb-true r.0 i q) in omega (arith, r.2))
      (λ q. omega (arith, r.2, rises_first (f x) (map f xs) a (f r.0) (map_member f xs r.0 (other (eqb r.0 i) (member r.0 xs) s q)))))))
      (λ e.
      let above : f i ≤ f x = ltb-false (f x) (f i) e in
      rw e
      (rises_cons (f i) (map f (x ∷ xs)) a
      (λ y m.
      split (eqb y (f x))
      (λ q. omega (arith, eqb-true y (f x) q))
      (λ q. omega (arith, rises_first (f x) (map f xs) a y (member_behind y (f x) (map f xs) m (eqb-false y (f x) q)))))))

  -- it goes in behind as many as have a lower hash
  pub put_at : (l : List ℕ) → put f i l ≡ take (place_of (f i) (map f l)) l ++ (i ∷ drop (place_of (f i) (map f l)) l)
  unfolding put place_of
  put_at [] = refl
  put_at (x ∷ xs) = split (ltb (f x) (f i)) (λ e. rw (e, put_at xs)) (λ e. rw e)

-- ---- the index

module _ (f : ℕ → ℕ) where
  pub index_length : (n : ℕ) → length (indexed f n) ≡ n
  unfolding indexed
  index_length zero = refl
  index_length (suc n) = put_length f n (indexed f n) ∙ ap suc (index_length n)

  pub index_rises : (n : ℕ) → rises (map f (indexed f n)) ≡ true
  unfolding indexed rises
  index_rises zero = refl
  index_rises (suc n) = put_rises f n (indexed f n) (index_rises n)

  pub index_member_below : (n x : ℕ) → member x (indexed f n) ≡ true → x < n
  unfolding indexed
  index_member_below zero x m = absurd (member_none x m)
  index_member_below (suc n) x m =
      split (eqb x n)
      (λ e. omega (arith, eqb-true x n e))
      (λ e. omega (arith, index_member_below n x (other (eqb x n) (member x (indexed f n)) (sym (put_member f n (indexed f n) x) ∙ m) e)))

  pub index_has : (n x : ℕ) → x < n → member x (indexed f n) ≡ true
  unfolding indexed
  index_has zero x b = absurd (not-suc-le-zero b)
  index_has (suc n) x b =
      put_member f n (indexed f n) x
      ∙ split (eqb x n) (λ e. rw e) (λ e. rw e (index_has n x (let d : x ≡ n → ⊥ = eqb-false x n e in omega arith)))

  pub index_ascends : (n : ℕ) → Apart f n → ascends (map f (indexed f n)) ≡ true
  unfolding indexed ascends
  index_ascends zero once = refl
  index_ascends (suc n) once =
      let before : ascends (map f (indexed f n)) ≡ true = index_ascends n (λ i j bi bj e. once i j (omega arith) (omega arith) e) in
      let new : member (f n) (map f (indexed f n)) ≡ false =
      split (member (f n) (map f (indexed f n)))
      (λ m.
      let r = member_map f (indexed f n) (f n) m in
      let b : r.0 < n = index_member_below n r.0 r.1 in
      absurd (omega (arith, once r.0 n (omega arith) (omega arith) r.2)))
      (λ e. e)
      in
      rw (put_hashes f n (indexed f n) new) (insert_ascends (f n) (map f (indexed f n)) before)

  pub index_fits_lem : (n : ℕ) → Apart f n → fits_by f n (indexed f n) ≡ true
  index_fits_lem n once =
      has_fits f n (indexed f n) (record { long = index_length n; below = index_member_below n; order = index_ascends n once })

  -- what fits is the index
  pub fits_is : (n : ℕ) (l : List ℕ) → fits_by f n l ≡ true → l ≡ indexed f n
  fits_is n l e =
      let w = fits_has f n l e in
      let once = hashes_once f n l w in
      let v = fits_has f n (indexed f n) (index_fits_lem n once) in
      let same : map f l ≡ map f (indexed f n) =
      ascending_unique (map f l) (map f (indexed f n)) w.order v.order
      (λ h.
      same_truth (member h (map f l)) (member h (map f (indexed f n)))
      (λ m.
      let r = member_map f l h m in
      rw (← r.2) (map_member f (indexed f n) r.0 (index_has n r.0 (w.below r.0 r.1))))
      (λ m.
      let r = member_map f (indexed f n) h m in
      rw (← r.2) (map_member f l r.0 (each_named f n l w r.0 (v.below r.0 r.1)))))
      in
      ext_get_or 0 l (indexed f n) (w.long ∙ sym v.long)
      (λ k b.
      let c : k < length (indexed f n) = omega (arith, w.long, v.long) in
      once (get_or l k 0) (get_or (indexed f n) k 0)
      (w.below (get_or l k 0) (index_member l k b))
      (v.below (get_or (indexed f n) k 0) (index_member (indexed f n) k c))
      (sym (map_index f l k b) ∙ ap (λ (m : List ℕ). get_or m k 0) same ∙ map_index f (indexed f n) k c))

-- of hashes that agree below n the index is the same
pub index_same : (f g : ℕ → ℕ) (n : ℕ) → ((x : ℕ) → x < n → f x ≡ g x) → indexed f n ≡ indexed g n
unfolding indexed put
index_same f g zero e = refl
index_same f g (suc n) e =
    let before : indexed f n ≡ indexed g n = index_same f g n (λ x b. e x (omega arith)) in
    let p = index_member_below g n in
    rw before (put_same (indexed g n) (λ x m. omega (arith, p x m)))
  where
    put_same : (l : List ℕ) → ((x : ℕ) → member x l ≡ true → x < suc n) → put f n l ≡ put g n l
    put_same [] h = refl
    put_same (x ∷ xs) h =
        rw (e x (h x (member_here x xs)), e n (omega arith), put_same xs (λ y m. h y (member_there y x xs m)))
