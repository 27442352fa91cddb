-- Hashes taken one after the other: the list keeps ascending and what it has; what it has in the end was there or was wanted; and while it isn't full it
-- has all that was wanted. So it is the wanted hashes, each once, ascending, or it is full and those are no fewer.
use Prim.Native.Nat.{ℕ, suc, ◌≤◌, ◌<◌}
use mathlib.Core.Bool.{Bool, true, false}
use mathlib.Core.List.{List, [], ◌∷◌, ◌++◌}
use mathlib.Core.Path.{◌≡◌, refl, sym, ◌∙◌}
use native.Mathlib.Omega.{arith}
use borrow.Author.Tests.{ltb-false, eqb-true, eq-eqb}
use lib.Dec.{ltb, eqb}
use lib.ListN.{length}
use Rattle.hash_order.proofs.KeepLaws.{keep_member, every_member, every_one}
use Rattle.hash_order.proofs.OrderLaws.{insert_member, insert_ascends, insert_longer, insert_grows, up_to_fits, up_to_ascends, member_here, member_there, member_none, ascend_ascends, ascend_members, ascending_unique, ascending_shorter}
use Rattle.hash_order.specs.Order.{member, every, ascends, keep, ascend, insert_once, insert_up_to}
use Rattle.rules.proofs.Cases.{split, both, true_false, same_truth, either, or_right, and_true}
use Rattle.waiting_missing.specs.Internal.Take.{take_one, taking, UpTo}

-- ---- one hash

insert_no_shorter : (most h : ℕ) (l : List ℕ) → length l ≤ length (insert_up_to most h l)
unfolding insert_up_to
insert_no_shorter most h l = split (ltb (length l) most) (λ p. rw p (insert_grows h l)) (λ p. rw p (omega arith))

insert_kept : (most h x : ℕ) (l : List ℕ) → member x l ≡ true → member x (insert_up_to most h l) ≡ true
unfolding insert_up_to
insert_kept most h x l e =
    split (ltb (length l) most) (λ p. rw (p, insert_member x h l) (or_right (eqb x h) _ e)) (λ p. rw p e)

insert_of : {C : Type 0} (most h x : ℕ) (l : List ℕ) → member x (insert_up_to most h l) ≡ true → (x ≡ h → C) → (member x l ≡ true → C) → C
unfolding insert_up_to
insert_of most h x l e f g =
    split (ltb (length l) most)
    (λ p. either (eqb x h) (member x l) (sym (insert_member x h l) ∙ (rw p at e)) (λ q. f (eqb-true _ _ q)) g)
    (λ p. g (rw p at e))

insert_has : (most h : ℕ) (l : List ℕ) → length (insert_up_to most h l) < most → member h (insert_up_to most h l) ≡ true
unfolding insert_up_to
insert_has most h l s =
    split (ltb (length l) most)
    (λ p. rw (p, insert_member h h l, eq-eqb h h refl))
    (λ p. absurd (let z : length l < most = rw p at s in omega (arith, ltb-false (length l) most p)))

-- ---- hashes in turn

module _ (most : ℕ) (p : ℕ → Bool) where
  pub taking_append : (a b l : List ℕ) → taking most p (a ++ b) l ≡ taking most p b (taking most p a l)
  unfolding taking
  taking_append [] b l = refl
  taking_append (h ∷ hs) b l = taking_append hs b (take_one most p h l)

  take_ascends : (hs l : List ℕ) → ascends l ≡ true → ascends (taking most p hs l) ≡ true
  unfolding taking take_one
  take_ascends [] l a = a
  take_ascends (h ∷ hs) l a =
      take_ascends hs (take_one most p h l) (split (p h) (λ e. rw e (up_to_ascends most h l a)) (λ e. rw e a))

  take_within : (hs l : List ℕ) → length l ≤ most → length (taking most p hs l) ≤ most
  unfolding taking take_one
  take_within [] l a = a
  take_within (h ∷ hs) l a = take_within hs (take_one most p h l) (split (p h) (λ e. rw e (up_to_fits most h l a)) (λ e. rw e a))

  one_grows : (h : ℕ) (l : List ℕ) → length l ≤ length (take_one most p h l)
  unfolding take_one
  one_grows h l = split (p h) (λ e. rw e (insert_no_shorter most h l)) (λ e. rw e (omega arith))

  take_grows : (hs l : List ℕ) → length l ≤ length (taking most p hs l)
  unfolding taking
  take_grows [] l = omega arith
  take_grows (h ∷ hs) l = omega (arith, one_grows h l, take_grows hs (take_one most p h l))

  take_kept : (hs l : List ℕ) (x : ℕ) → member x l ≡ true → member x (taking most p hs l) ≡ true
  unfolding taking take_one
  take_kept [] l x m = m
  take_kept (h ∷ hs) l x m =
      take_kept hs (take_one most p h l) x (split (p h) (λ e. rw e (insert_kept most h x l m)) (λ e. rw e m))

  one_of : {C : Type 0} (h x : ℕ) (l : List ℕ) → member x (take_one most p h l) ≡ true → (member x l ≡ true → C) → (p x ≡ true → x ≡ h → C) → C
  unfolding take_one
  one_of h x l m f g =
      split (p h)
      (λ e. insert_of most h x l (rw e at m) (λ q. g (rw q e) q) f)
      (λ e. f (rw e at m))

  take_of : {C : Type 0} (hs l : List ℕ) (x : ℕ) → member x (taking most p hs l) ≡ true → (member x l ≡ true → C)
      → (p x ≡ true → member x hs ≡ true → C)
      → C
  unfolding taking
  take_of [] l x m f g = f m
  take_of (h ∷ hs) l x m f g =
      take_of hs (take_one most p h l) x m
      (λ n. one_of h x l n f (λ a q. g a (rw q (member_here h hs))))
      (λ a n. g a (member_there x h hs n))

  one_has : (h : ℕ) (l : List ℕ) → length (take_one most p h l) < most → p h ≡ true → member h (take_one most p h l) ≡ true
  unfolding take_one
  one_has h l s e = rw e (insert_has most h l (rw e at s))

  take_has : (hs l : List ℕ) → length (taking most p hs l) < most → (x : ℕ) → member x hs ≡ true → p x ≡ true → member x (taking most p hs l) ≡ true
  unfolding taking member
  take_has [] l s x m e = absurd (true_false false m refl)
  take_has (h ∷ hs) l s x m e =
      either (eqb x h) (member x hs) m
      (λ q.
      let same : x ≡ h = eqb-true x h q in
      take_kept hs (take_one most p h l) x
      (rw same (one_has h l (omega (arith, take_grows hs (take_one most p h l))) (rw same at e))))
      (λ q. take_has hs (take_one most p h l) s x q e)

  -- From nothing: what is wanted, each once, ascending, as much of it as there is room for.
  module _ (hs : List ℕ) where
    taken_wanted : (x : ℕ) → member x (taking most p hs []) ≡ true → member x (ascend (keep p hs)) ≡ true
    taken_wanted x m =
        ascend_members x (keep p hs)
        ∙ keep_member p hs x
        ∙ take_of hs [] x m (λ n. absurd (member_none x n)) (λ a n. and_true (p x) (member x hs) a n)

    taken_ascends : ascends (taking most p hs []) ≡ true
    unfolding ascends
    taken_ascends = take_ascends hs [] refl

    pub taken_up_to : UpTo most (ascend (keep p hs)) (taking most p hs [])
    taken_up_to =
        record {
          within = take_within hs [] (omega arith);
          all =
              λ s.
              ascending_unique (taking most p hs []) (ascend (keep p hs)) taken_ascends (ascend_ascends (keep p hs))
              (λ x.
              same_truth _ _ (taken_wanted x)
              (λ m.
              let w = both (p x) (member x hs) (sym (keep_member p hs x) ∙ sym (ascend_members x (keep p hs)) ∙ m) in
              take_has hs [] s x w.1 w.0));
          full =
              λ q.
              omega (arith, q, ascending_shorter (taking most p hs []) (ascend (keep p hs)) taken_ascends (ascend_ascends (keep p hs)) taken_wanted);
        }

  -- ---- more hashes in turn

  module _ (hs more : List ℕ) where
    abbrev first : List ℕ
    first = taking most p hs []

    abbrev whole : List ℕ
    whole = taking most p more first

    first_ascends : ascends first ≡ true
    first_ascends = taken_ascends hs

    -- one that the first don't have makes them longer
    one_longer : (x : ℕ) → member x first ≡ false → member x whole ≡ true → suc (length first) ≤ length whole
    one_longer x n m =
        let longer = ascending_shorter (insert_once x first) whole (insert_ascends x first first_ascends) (take_ascends more first first_ascends)
        (λ y e.
        either (eqb y x) (member y first) (sym (insert_member y x first) ∙ e)
        (λ q. rw (eqb-true y x q) m)
        (λ q. take_kept more first y q))
        in
        omega (arith, longer, insert_longer x first n)

    -- where they are as many as before, none is new
    none_new : length first ≡ length whole → (x : ℕ) → member x whole ≡ true → member x hs ≡ true
    none_new e x m =
        split (member x first)
        (λ q. take_of hs [] x q (λ n. absurd (member_none x n)) (λ a n. n))
        (λ q. absurd (omega (arith, one_longer x q m)))

    wanted : (x : ℕ) → member x whole ≡ true → p x ≡ true
    wanted x m = take_of more first x m (λ n. take_of hs [] x n (λ z. absurd (member_none x z)) (λ a _. a)) (λ a _. a)

    -- and where all of them stand in the first list, they are as many as before
    all_first : length whole < most → every (λ h. member h hs) whole ≡ true → length first ≡ length whole
    all_first s e =
        let shorter = ascending_shorter whole first (take_ascends more first first_ascends) first_ascends
        (λ x m. take_has hs [] (omega (arith, take_grows more first)) x (every_member (λ h. member h hs) whole e x m) (wanted x m))
        in
        omega (arith, shorter, take_grows more first)

    -- Hashes that are taken after those of a list are all of that list exactly if they are no more.
    pub taken_own : length whole < most → eqb (length first) (length whole) ≡ every (λ h. member h hs) whole
    taken_own s =
        same_truth _ _
        (λ e. every_one (λ h. member h hs) whole (none_new (eqb-true _ _ e)))
        (λ e. eq-eqb _ _ (all_first s e))
