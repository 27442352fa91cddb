-- What is missing, as a relation and as a list: both have the same members. A hash that is asked for on the way is one of the list's or of the
-- asks of an asked row, and an asked row's asks lead back to the list.
use Prim.Native.Nat.{ℕ, zero, suc, ◌+◌, ◌<◌}
use mathlib.Core.Bool.{Bool, true, false, not, ◌&&◌}
use mathlib.Core.List.{List, [], ◌∷◌, ◌++◌}
use mathlib.Core.Path.{◌≡◌, sym, ◌∙◌}
use native.Mathlib.Nat.{not-suc-le-zero, add-zero, zero-add}
use native.Mathlib.Omega.{arith}
use borrow.Author.Tests.{not-true}
use lib.ListN.{length, get_or}
use Rattle.hash_order.proofs.KeepLaws.{keep_member, no_members, hashes_member, hashes_each}
use Rattle.hash_order.proofs.OrderLaws.{ascend_ascends, ascend_members, member_append, member_none}
use Rattle.hash_order.proofs.ReachLaws.{reach_base, reach_closed, reach_least}
use Rattle.hash_order.specs.Order.{member, ascends, keep, Once}
use Rattle.rules.proofs.Cases.{split, both, true_false, either, or_left, or_right, and_true}
use Rattle.rules.specs.Hash.{AreHashes}
use Rattle.table.proofs.TableLaws.{index_of_member, entry_at_index, member_at_lem, index_of_entry}
use Rattle.table.specs.Table.{Row, held, index_in}
use Rattle.waiting.proofs.WaitingLaws.{length_waiting}
use Rattle.waiting.specs.Waiting.{Waiting, no_waiting, waiting, asks, asks_of}
use Rattle.waiting_missing.specs.Missing.{unknown, Missing, itself, through, asked_row, asks_from, missing}

-- What is missing from a part is missing from the whole.
pub more_missing : {t : List Row} {w : List Waiting} {l l' : List ℕ} {x : ℕ} → ((u : ℕ) → member u l ≡ true → member u l' ≡ true)
    → Missing t w l x → Missing t w l' x
more_missing f (itself a b) = itself (f _ a) b
more_missing f (through g a b c d) = through g (f g a) b c d

-- ---- members of what rows ask for

asks_in : (p : ℕ → Bool) (g : ℕ) (w : List Waiting) (i k : ℕ) → k < length w → p (i + k) ≡ true → member g (asks_of w k) ≡ true
    → member g (asks_from i w p) ≡ true
unfolding asks_from asks_of
asks_in p g [] i k h a e = absurd (not-suc-le-zero h)
asks_in p g (r ∷ rs) i zero h a e =
    let b : p i ≡ true = rw add-zero at a in
    rw (b, member_append g r.asks (asks_from (suc i) rs p)) (or_left _ _ e)
asks_in p g (r ∷ rs) i (suc k) h a e =
    let n : i + suc k ≡ suc i + k = omega arith in
    let more = asks_in p g rs (suc i) k (omega arith) (rw n at a) e in
    split (p i)
    (λ q. rw (q, member_append g r.asks (asks_from (suc i) rs p)) (or_right (member g r.asks) _ more))
    (λ q. rw q more)

asks_out : {C : Type 0} (p : ℕ → Bool) (g : ℕ) (w : List Waiting) (i : ℕ) → member g (asks_from i w p) ≡ true
    → ((k : ℕ) → k < length w → p (i + k) ≡ true → member g (asks_of w k) ≡ true → C)
    → C
unfolding asks_from asks_of
asks_out p g [] i e f = absurd (member_none g e)
asks_out p g (r ∷ rs) i e f =
    let next : (k : ℕ) → k < length rs → p (suc i + k) ≡ true → member g (get_or rs k no_waiting).asks ≡ true → _ =
    λ k h a b. f (suc k) (omega arith) (let n : i + suc k ≡ suc i + k = omega arith in rw n a) b
    in
    split (p i)
    (λ q.
    either (member g r.asks) (member g (asks_from (suc i) rs p)) (sym (member_append g r.asks (asks_from (suc i) rs p)) ∙ (rw q at e))
    (λ a. f 0 (omega arith) (rw add-zero q) a)
    (λ a. asks_out p g rs (suc i) a next))
    (λ q. asks_out p g rs (suc i) (rw q at e) next)

-- the same, rows counted from 0
some_asks : (p : ℕ → Bool) (g : ℕ) (w : List Waiting) (k : ℕ) → k < length w → p k ≡ true → member g (asks_of w k) ≡ true
    → member g (asks_from 0 w p) ≡ true
some_asks p g w k h a e = asks_in p g w 0 k h (rw zero-add a) e

asks_some : {C : Type 0} (p : ℕ → Bool) (g : ℕ) (w : List Waiting) → member g (asks_from 0 w p) ≡ true
    → ((k : ℕ) → k < length w → p k ≡ true → member g (asks_of w k) ≡ true → C)
    → C
asks_some p g w e f = asks_out p g w 0 e (λ k h a b. f k h (rw zero-add at a) b)

module _ (t : List Row) (w : List Waiting) where
  pub unknown_not_held : (h : ℕ) → unknown t w h ≡ true → held t h ≡ false
  unfolding unknown
  unknown_not_held h e = not-true _ (both (not (held t h)) (not (member h (waiting w))) e).0

  pub unknown_not_waiting : (h : ℕ) → unknown t w h ≡ true → member h (waiting w) ≡ false
  unfolding unknown
  unknown_not_waiting h e = not-true _ (both (not (held t h)) (not (member h (waiting w))) e).1

  module _ (l : List ℕ) where
    -- the list, and what the asked rows ask for
    asked_for : List ℕ
    asked_for = l ++ asks_from 0 w (asked_row t w l)

    -- what is missing from what an asked row asks for is missing from the list, where no hash waits twice
    module _ (once : Once (waiting w)) where
      climb : (i : ℕ) → i < length w → (hs : List ℕ) → member (get_or (waiting w) i 0) hs ≡ true → not (held t (get_or (waiting w) i 0)) ≡ true
          → (x : ℕ) → Missing t w (asks_of w i) x → Missing t w hs x
      unfolding asks
      climb i b hs m n x d =
          let in-waiting : i < length (waiting w) = rw length_waiting b in
          let own : index_in (waiting w) (get_or (waiting w) i 0) ≡ i =
          index_of_entry (waiting w) once i in-waiting
          in
          through {h = x} (get_or (waiting w) i 0) m (not-true _ n) (member_at_lem (waiting w) i in-waiting) (rw own d)

      row_missing : (k : ℕ) → k < length w → asked_row t w l k ≡ true → (x : ℕ) → Missing t w (asks_of w k) x → Missing t w l x
      unfolding asked_row
      row_missing k h e =
          reach_least (length w) _ _
          (λ i. (x : ℕ) → Missing t w (asks_of w i) x → Missing t w l x)
          (λ i b q. let a = both (member (get_or (waiting w) i 0) l) (not (held t (get_or (waiting w) i 0))) q in climb i b l a.0 a.1)
          (λ i j b c f q x d.
          let a = both (member (get_or (waiting w) j 0) (asks_of w i)) (not (held t (get_or (waiting w) j 0))) q in
          f x (climb j c (asks_of w i) a.0 a.1 x d))
          k h e

    -- a waiting hash that is asked for has an asked row
    row_asked : (u : ℕ) → member u asked_for ≡ true → held t u ≡ false → member u (waiting w) ≡ true
        → asked_row t w l (index_in (waiting w) u) ≡ true
    unfolding asked_row asked_for
    row_asked u e a b =
        let in-waiting = index_of_member (waiting w) u b in
        let inside : index_in (waiting w) u < length w = rw length_waiting at in-waiting in
        let at : get_or (waiting w) (index_in (waiting w) u) 0 ≡ u = entry_at_index (waiting w) u in-waiting in
        either (member u l) (member u (asks_from 0 w (asked_row t w l))) (sym (member_append u l (asks_from 0 w (asked_row t w l))) ∙ e)
        (λ p. reach_base (length w) _ _ (index_in (waiting w) u) inside (rw (at, p, a)))
        (λ p. asks_some (asked_row t w l) u w p
        (λ k h q r. reach_closed (length w) _ _ k (index_in (waiting w) u) h inside q (rw (at, r, a))))

    -- what is missing from hashes that are asked for is kept
    missing_kept : {hs : List ℕ} {x : ℕ} → Missing t w hs x → ((g : ℕ) → member g hs ≡ true → member g asked_for ≡ true)
        → member x (keep (unknown t w) asked_for) ≡ true
    unfolding asks asked_for
    missing_kept (itself {l = hs} {h = x} a b) f = rw (keep_member (unknown t w) asked_for x) (and_true _ _ b (f x a))
    missing_kept (through {l = hs} {h = x} u a b c d) f =
        missing_kept d
        (λ g e.
        let inside : index_in (waiting w) u < length w = rw length_waiting at (index_of_member (waiting w) u c) in
        rw (member_append g l (asks_from 0 w (asked_row t w l)))
        (or_right (member g l) _ (some_asks (asked_row t w l) g w (index_in (waiting w) u) inside (row_asked u (f u a) b c) e)))

    -- An unknown hash that is missing from H is one of the list.
    pub missing_member : {x : ℕ} → Missing t w l x → member x (missing t w l) ≡ true
    unfolding missing asked_for
    missing_member {x} d =
        ascend_members x (keep (unknown t w) asked_for)
        ∙ missing_kept d (λ g e. member_append g l (asks_from 0 w (asked_row t w l)) ∙ or_left _ _ e)

    kept_of_missing : (x : ℕ) → member x (missing t w l) ≡ true → (unknown t w x && member x asked_for) ≡ true
    unfolding missing asked_for
    kept_of_missing x e = sym (keep_member (unknown t w) asked_for x) ∙ sym (ascend_members x (keep (unknown t w) asked_for)) ∙ e

    -- What is missing is neither held nor waiting.
    pub missing_unknown : (x : ℕ) → member x (missing t w l) ≡ true → unknown t w x ≡ true
    missing_unknown x e = (both (unknown t w x) (member x asked_for) (kept_of_missing x e)).0

    -- What is missing stands in the list, or among what an asked row asks for.
    pub missing_among : {C : Type 0} (x : ℕ) → member x (missing t w l) ≡ true → (member x l ≡ true → C)
        → ((k : ℕ) → k < length w → asked_row t w l k ≡ true → member x (asks_of w k) ≡ true → C)
        → C
    unfolding asked_for
    missing_among x e f g =
        either (member x l) (member x (asks_from 0 w (asked_row t w l)))
        (sym (member_append x l (asks_from 0 w (asked_row t w l))) ∙ (both (unknown t w x) (member x asked_for) (kept_of_missing x e)).1)
        f
        (λ p. asks_some (asked_row t w l) x w p g)

    -- If the list is of hashes, and all that rows ask for, then what is missing is too.
    pub missing_are_hashes : AreHashes l → ((k : ℕ) → k < length w → AreHashes (asks_of w k)) → AreHashes (missing t w l)
    missing_are_hashes a f =
        hashes_each (missing t w l)
        (λ x e. missing_among x e (hashes_member l a x) (λ k h q r. hashes_member (asks_of w k) (f k h) x r))

    -- Each once, ascending.
    pub missing_ascends : ascends (missing t w l) ≡ true
    unfolding missing
    missing_ascends = ascend_ascends _

    -- And back, where no hash waits twice.
    module _ (once : Once (waiting w)) where
      pub member_missing : (x : ℕ) → member x (missing t w l) ≡ true → Missing t w l x
      member_missing x e =
          missing_among x e (λ p. itself p (missing_unknown x e)) (λ k h q r. row_missing once k h q x (itself r (missing_unknown x e)))

  -- what holds of a list, and passes to what waiting hashes ask for, holds along the relation
  missing_passes : {l : List ℕ} {x : ℕ} (P : ℕ → Type 0)
      → ((g : ℕ) → member g (waiting w) ≡ true → held t g ≡ false → P g → (d : ℕ) → member d (asks w g) ≡ true → P d)
      → Missing t w l x → ((h : ℕ) → member h l ≡ true → P h) → P x
  missing_passes P step (itself {l} {h} a b) f = f h a
  missing_passes P step (through {l} {h} g a b c d) f = missing_passes P step d (step g c b (f g a))

  -- Nothing is missing from held hashes.
  module _ (l : List ℕ) (have : (h : ℕ) → member h l ≡ true → held t h ≡ true) where
    none_asked : (k : ℕ) → k < length w → asked_row t w l k ≡ true → ⊥
    unfolding asked_row
    none_asked k h e =
        reach_least (length w) _ _ (λ i. ⊥)
        (λ i b q.
        let a = both (member (get_or (waiting w) i 0) l) (not (held t (get_or (waiting w) i 0))) q in
        true_false _ (have _ a.0) (not-true _ a.1))
        (λ i j b c f q. f)
        k h e

    pub missing_held : missing t w l ≡ []
    missing_held =
        no_members (missing t w l)
        (λ x e.
        missing_among l x e
        (λ p. true_false (held t x) (have x p) (unknown_not_held x (missing_unknown l x e)))
        (λ k h q r. none_asked k h q))

  pub missing_of_nothing : missing t w [] ≡ []
  missing_of_nothing = missing_held [] (λ h m. absurd (member_none h m))

  module _ (once : Once (waiting w)) where
    -- What is missing from a list is missing from one that has its members.
    pub missing_grows : (l l' : List ℕ) → ((g : ℕ) → member g l ≡ true → member g l' ≡ true)
        → (x : ℕ) → member x (missing t w l) ≡ true → member x (missing t w l') ≡ true
    missing_grows l l' f x e = missing_member l' (more_missing f (member_missing l once x e))

    -- What holds of the list, and passes from a waiting hash to what its row asks for, holds of all that is missing.
    pub missing_induction : (P : ℕ → Type 0) (l : List ℕ) → ((h : ℕ) → member h l ≡ true → P h)
        → ((g : ℕ) → member g (waiting w) ≡ true → held t g ≡ false → P g → (d : ℕ) → member d (asks w g) ≡ true → P d)
        → (x : ℕ) → member x (missing t w l) ≡ true → P x
    missing_induction P l base step x e = missing_passes P step (member_missing l once x e) base
