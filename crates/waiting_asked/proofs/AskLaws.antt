-- What asking leaves: marks stay; whatever was asked and waits is marked, and so is all that a newly marked row asks for; and a newly marked row is
-- one that was asked, or that such a row asks for.
use Prim.Native.Nat.{ℕ, zero, suc, ◌+◌, ◌-◌, ◌*◌, ◌≤◌, ◌<◌}
use mathlib.Core.Bool.{Bool, true, false, cond}
use mathlib.Core.List.{List, [], ◌∷◌}
use mathlib.Core.Path.{◌≡◌, refl, ap, ◌∙◌}
use native.Mathlib.Nat.{not-suc-le-zero}
use native.Mathlib.Omega.{arith}
use borrow.Author.Tests.{eqb-true}
use lib.Dec.{eqb}
use lib.ListN.{length, get_or, set, length-set}
use lib.Seq.{get_or-set_same}
use Rattle.hash_order.proofs.OrderLaws.{member_here, member_there}
use Rattle.hash_order.specs.Order.{member}
use Rattle.rules.proofs.Cases.{split, either}
use Rattle.rules.specs.Hash.{hash_at, hashes_at}
use Rattle.rules.specs.Sizes.{sizes}
use Rattle.table.specs.Table.{index_in}
use Rattle.waiting.proofs.WaitingLaws.{length_waitings_at}
use Rattle.waiting.specs.WaitingBytes.{waitings_at}
use Rattle.waiting.specs.Waiting.{Waiting, waiting, asks_of}
use Rattle.waiting_asked.specs.Asking.{Request, change, list, Asks, away, marked, waits, none, more, Askable}

true_false : {C : Type 0} (x : Bool) → x ≡ true → x ≡ false → C
true_false x p q = absurd (let z : ◌≡◌ {A = ℕ} 0 1 = cc in omega arith)

-- ---- marks

unfoldable pub unmarked : List Bool → ℕ
unmarked [] = 0
unmarked (b ∷ bs) = cond b 0 1 + unmarked bs

set_kept : (m : List Bool) (p k : ℕ) → get_or m k false ≡ true → get_or (set m p true) k false ≡ true
set_kept [] p k e = e
set_kept (b ∷ bs) zero zero e = refl
set_kept (b ∷ bs) zero (suc k) e = e
set_kept (b ∷ bs) (suc p) zero e = e
set_kept (b ∷ bs) (suc p) (suc k) e = set_kept bs p k e

set_new : (m : List Bool) (p k : ℕ) → get_or (set m p true) k false ≡ true → get_or m k false ≡ false → k ≡ p
set_new [] p k e f = true_false _ e f
set_new (b ∷ bs) zero zero e f = refl
set_new (b ∷ bs) zero (suc k) e f = true_false _ e f
set_new (b ∷ bs) (suc p) zero e f = true_false _ e f
set_new (b ∷ bs) (suc p) (suc k) e f = ap suc (set_new bs p k e f)

pub unmarked_set : (m : List Bool) (p : ℕ) → p < length m → get_or m p false ≡ false → suc (unmarked (set m p true)) ≡ unmarked m
unfolding unmarked
unmarked_set [] p h e = absurd (not-suc-le-zero h)
unmarked_set (b ∷ bs) zero h e = rw e (omega arith)
unmarked_set (b ∷ bs) (suc p) h e = omega (arith, unmarked_set bs p (omega arith) e)

unmarked_less : (m : List Bool) (p : ℕ) → unmarked (set m p true) ≤ unmarked m
unfolding unmarked
unmarked_less [] p = omega arith
unmarked_less (b ∷ bs) zero = omega arith
unmarked_less (b ∷ bs) (suc p) = omega (arith, unmarked_less bs p)

-- ---- what is asked

-- Something holds of the row that a request asks, if there is such a row, or of each row that has one of its hashes.
unfoldable pub EachAsked : List Waiting → (ℕ → Type 0) → Request → Type 0
EachAsked w P (change k) = k < length w → P k
EachAsked w P (list hs) = (g : ℕ) → member g hs ≡ true → index_in (waiting w) g < length w → P (index_in (waiting w) g)

module _ {w : List Waiting} where
  pub marks_kept : {q : Request} {m m' : List Bool} → Asks w q m m' → (k : ℕ) → get_or m k false ≡ true → get_or m' k false ≡ true
  marks_kept (away a) k e = e
  marks_kept (marked a) k e = e
  marks_kept (waits {k = j} {m} a i c d) k e = marks_kept d k (set_kept m j k e)
  marks_kept none k e = e
  marks_kept (more d f) k e = marks_kept f k (marks_kept d k e)

  pub as_many_marks : {q : Request} {m m' : List Bool} → Asks w q m m' → length m' ≡ length m
  as_many_marks (away a) = refl
  as_many_marks (marked a) = refl
  as_many_marks (waits {k = j} {m} a i c d) = as_many_marks d ∙ length-set m j true
  as_many_marks none = refl
  as_many_marks (more d f) = as_many_marks f ∙ as_many_marks d

  pub fewer_unmarked : {q : Request} {m m' : List Bool} → Asks w q m m' → unmarked m' ≤ unmarked m
  fewer_unmarked (away a) = omega arith
  fewer_unmarked (marked a) = omega arith
  fewer_unmarked (waits {k = j} {m} a i c d) = let p = fewer_unmarked d in let r = unmarked_less m j in omega (arith, p, r)
  fewer_unmarked none = omega arith
  fewer_unmarked (more d f) = let p = fewer_unmarked d in let r = fewer_unmarked f in omega (arith, p, r)

  -- What is asked is marked.
  pub asked_marked : {q : Request} {m m' : List Bool} → Asks w q m m' → EachAsked w (λ k. get_or m' k false ≡ true) q
  unfolding EachAsked member
  asked_marked (away a) = λ b. absurd (omega (arith, a, b))
  asked_marked (marked a) = λ b. a
  asked_marked (waits {k = j} {m} a i c d) = λ b. marks_kept d j (get_or-set_same m j true false i)
  asked_marked none = λ g e b. true_false false e refl
  asked_marked (more {h} {hs} d f) =
      λ g e b.
      either (eqb g h) (member g hs) e
      (λ p.
      let same : g ≡ h = eqb-true g h p in
      marks_kept f _ (rw same (asked_marked d (rw same at b))))
      (λ p. asked_marked f g p b)

  -- So is what a newly marked row asks for.
  pub newly_closed : {q : Request} {m m' : List Bool} → Asks w q m m' → (k : ℕ) → get_or m k false ≡ false → get_or m' k false ≡ true
      → (g : ℕ) → member g (asks_of w k) ≡ true → index_in (waiting w) g < length w → get_or m' (index_in (waiting w) g) false ≡ true
  unfolding EachAsked
  newly_closed (away a) k x y g e b = true_false _ y x
  newly_closed (marked a) k x y g e b = true_false _ y x
  newly_closed (waits {k = j} {m} {m'} a i c d) k x y g e b =
      split (get_or (set m j true) k false)
      (λ p. asked_marked d g (rw (set_new m j k p x) at e) b)
      (λ p. newly_closed d k p y g e b)
  newly_closed none k x y g e b = true_false _ y x
  newly_closed (more {h} {hs} {m} {m'} {m''} d f) k x y g e b =
      split (get_or m' k false)
      (λ p. marks_kept f _ (newly_closed d k x p g e b))
      (λ p. newly_closed f k p y g e b)

  -- What holds of what is asked, and passes from a row to those that it asks for, holds of the newly marked rows.
  module _ (P : ℕ → Type 0) (passes : (k : ℕ) → k < length w → P k → EachAsked w P (list (asks_of w k))) where
    pub newly_marked : {q : Request} {m m' : List Bool} → Asks w q m m' → EachAsked w P q
        → (k : ℕ) → get_or m k false ≡ false → get_or m' k false ≡ true → P k
    unfolding EachAsked member
    newly_marked (away a) r k x y = true_false _ y x
    newly_marked (marked a) r k x y = true_false _ y x
    newly_marked (waits {k = j} {m} {m'} a i c d) r k x y =
        split (get_or (set m j true) k false)
        (λ p. rw (set_new m j k p x) (r a))
        (λ p. newly_marked d (passes j a (r a)) k p y)
    newly_marked none r k x y = true_false _ y x
    newly_marked (more {h} {hs} {m} {m'} {m''} d f) r k x y =
        split (get_or m' k false)
        (λ p. newly_marked d (λ b. r h (member_here h hs) b) k x p)
        (λ p. newly_marked f (λ g e b. r g (member_there g h hs e) b) k p y)

-- ---- over the bytes

-- A row that gets its mark: one less has none.
pub one_less : (marks : List Bool) (k t : ℕ) → k < length marks → get_or marks k false ≡ false → 2 * unmarked marks ≡ t
    → suc (2 * unmarked (set marks k true)) < t
one_less marks k t b e q = omega (arith, unmarked_set marks k b e)

module _ {waitings order : List ℕ} {m : ℕ} {marks : List Bool} (a : Askable waitings order m marks) where
  pub mark_set : (k : ℕ) → Askable waitings order m (set marks k true)
  mark_set k = record { sorted = a.sorted; few = a.few; rows = a.rows; marked = rw length-set a.marked }

  pub still_askable : {marks' : List Bool} → length marks' ≡ length marks → Askable waitings order m marks'
  still_askable p = record { sorted = a.sorted; few = a.few; rows = a.rows; marked = rw p a.marked }

module _ (waitings : List ℕ) (m : ℕ) where
  pub row_away : {k : ℕ} {marks : List Bool} → m ≤ k → Asks (waitings_at waitings 0 m) (change k) marks marks
  row_away {k} b = away {k = k} (rw (length_waitings_at waitings 0 m) b)

  pub row_waits : {k : ℕ} {marks marks' : List Bool} → k < m → m ≤ length marks → get_or marks k false ≡ false
      → Asks (waitings_at waitings 0 m) (list (asks_of (waitings_at waitings 0 m) k)) (set marks k true) marks'
      → Asks (waitings_at waitings 0 m) (change k) marks marks'
  row_waits {k} {marks} b l e d = waits {k = k} {m = marks} (rw (length_waitings_at waitings 0 m) b) (omega (arith, b, l)) e d

  pub list_ends : (s : List ℕ) (place left : ℕ) {marks : List Bool} → left ≡ 0
      → Asks (waitings_at waitings 0 m) (list (hashes_at s place left)) marks marks
  unfolding hashes_at
  list_ends s place left e = rw e none

  pub list_on : (s : List ℕ) (place i entries k : ℕ) {marks marks' marks'' : List Bool} → i < entries
      → k ≡ index_in (waiting (waitings_at waitings 0 m)) (hash_at s (place + sizes.hash * i))
      → Asks (waitings_at waitings 0 m) (change k) marks marks'
      → Asks (waitings_at waitings 0 m) (list (hashes_at s (place + sizes.hash * (i + 1)) (entries - (i + 1)))) marks' marks''
      → Asks (waitings_at waitings 0 m) (list (hashes_at s (place + sizes.hash * i) (entries - i))) marks marks''
  unfolding hashes_at
  list_on s place i entries k b e d f =
      let a : entries - i ≡ suc (entries - (i + 1)) = omega arith in
      let p : place + sizes.hash * (i + 1) ≡ place + sizes.hash * i + sizes.hash = omega arith in
      rw a (more (rw e at d) (rw p at f))
