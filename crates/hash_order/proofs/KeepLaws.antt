-- What is kept of a list, every number of a list, and lists that name each number once. How often a number stands in a list adds up along it, so
-- counting is by lengths: what is kept and what isn't make the whole, and a list that names each number once is no longer than one that has all
-- its members.
use Prim.Native.Nat.{ℕ, zero, suc, ◌+◌, ◌≤◌, ◌<◌}
use mathlib.Core.Bool.{Bool, true, false, not, ◌||◌, ◌&&◌}
use mathlib.Core.List.{List, [], ◌∷◌, ◌++◌}
use mathlib.Core.Path.{◌≡◌, refl, sym, ap, ◌∙◌}
use native.Mathlib.Nat.{not-suc-le-zero, suc_inj}
use native.Mathlib.Omega.{arith}
use borrow.Author.Tests.{eqb-true, eqb-false, eq-eqb}
use lib.Dec.{eqb}
use lib.ListN.{length, get_or, take}
use Rattle.rules.specs.Hash.{IsHash, AreHashes}
use Rattle.hash_order.specs.Order.{member, keep, every, often, Once, ascends}
use Rattle.rules.proofs.Cases.{split, both, true_false, or_left, and_true}
use Rattle.hash_order.proofs.OrderLaws.{member_here, member_there, member_behind, member_none, member_index, index_member, ascends_tail, ascends_first, ascends_cons}

-- ---- members

pub member_long : (h : ℕ) (l : List ℕ) → member h l ≡ true → 0 < length l
member_long h [] m = absurd (member_none h m)
member_long h (x ∷ xs) m = omega arith

pub no_members : (l : List ℕ) → ((h : ℕ) → member h l ≡ true → ⊥) → l ≡ []
no_members [] f = refl
no_members (x ∷ xs) f = absurd (f x (member_here x xs))

-- ---- what is kept

pub keep_member : (p : ℕ → Bool) (l : List ℕ) (h : ℕ) → member h (keep p l) ≡ (p h && member h l)
unfolding keep member
keep_member p [] h = split (p h) (λ e. rw e) (λ e. rw e)
keep_member p (x ∷ xs) h =
    split (eqb h x)
    (λ q.
    let same : h ≡ x = eqb-true h x q in
    split (p h)
    (λ e. let f : p x ≡ true = rw same at e in rw (f, e, q))
    (λ e. let f : p x ≡ false = rw same at e in rw (f, e) (keep_member p xs h ∙ rw e)))
    (λ q. split (p x) (λ e. rw (e, q) (keep_member p xs h)) (λ e. rw (e, q) (keep_member p xs h)))

pub keep_append : (p : ℕ → Bool) (a b : List ℕ) → keep p (a ++ b) ≡ keep p a ++ keep p b
unfolding keep
keep_append p [] b = refl
keep_append p (x ∷ a) b = split (p x) (λ e. rw (e, keep_append p a b)) (λ e. rw e (keep_append p a b))

-- two tests that agree on the list keep the same
pub keep_same : (p q : ℕ → Bool) (l : List ℕ) → ((h : ℕ) → member h l ≡ true → p h ≡ q h) → keep p l ≡ keep q l
unfolding keep
keep_same p q [] f = refl
keep_same p q (x ∷ xs) f =
    let rest : keep p xs ≡ keep q xs = keep_same p q xs (λ h m. f h (member_there h x xs m)) in
    let here : p x ≡ q x = f x (member_here x xs) in
    rw (here, rest)

pub keep_keep : (p q : ℕ → Bool) (l : List ℕ) → keep p (keep q l) ≡ keep (λ h. q h && p h) l
unfolding keep
keep_keep p q [] = refl
keep_keep p q (x ∷ xs) =
    split (q x) (λ e. split (p x) (λ d. rw (e, d, keep_keep p q xs)) (λ d. rw (e, d) (keep_keep p q xs))) (λ e. rw e (keep_keep p q xs))

pub keep_most : (p : ℕ → Bool) (l : List ℕ) → length (keep p l) ≤ length l
unfolding keep
keep_most p [] = omega arith
keep_most p (x ∷ xs) = split (p x) (λ e. rw e (omega (arith, keep_most p xs))) (λ e. rw e (omega (arith, keep_most p xs)))

pub keep_ascends : (p : ℕ → Bool) (l : List ℕ) → ascends l ≡ true → ascends (keep p l) ≡ true
unfolding keep ascends
keep_ascends p [] a = refl
keep_ascends p (x ∷ xs) a =
    let rest : ascends (keep p xs) ≡ true = keep_ascends p xs (ascends_tail x xs a) in
    split (p x)
    (λ e. rw e (ascends_cons x (keep p xs) rest (λ y m. ascends_first x xs a y (both (p y) (member y xs) (sym (keep_member p xs y) ∙ m)).1)))
    (λ e. rw e rest)

pub keep_none : (p : ℕ → Bool) (l : List ℕ) → ((h : ℕ) → member h l ≡ true → p h ≡ false) → keep p l ≡ []
unfolding keep
keep_none p [] f = refl
keep_none p (x ∷ xs) f = rw (f x (member_here x xs)) (keep_none p xs (λ h m. f h (member_there h x xs m)))

-- what is kept and what isn't make the whole
pub keep_parts : (p : ℕ → Bool) (l : List ℕ) → length (keep p l) + length (keep (λ h. not (p h)) l) ≡ length l
unfolding keep
keep_parts p [] = refl
keep_parts p (x ∷ xs) = split (p x) (λ e. rw e (omega (arith, keep_parts p xs))) (λ e. rw e (omega (arith, keep_parts p xs)))

-- ---- every number of a list

pub every_member : (p : ℕ → Bool) (l : List ℕ) → every p l ≡ true → (h : ℕ) → member h l ≡ true → p h ≡ true
unfolding every
every_member p [] e h m = absurd (member_none h m)
every_member p (x ∷ xs) e h m =
    let b = both (p x) (every p xs) e in
    split (eqb h x) (λ q. rw (eqb-true h x q) b.0) (λ q. every_member p xs b.1 h (member_behind h x xs m (eqb-false h x q)))

pub every_one : (p : ℕ → Bool) (l : List ℕ) → ((h : ℕ) → member h l ≡ true → p h ≡ true) → every p l ≡ true
unfolding every
every_one p [] f = refl
every_one p (x ∷ xs) f = and_true (p x) (every p xs) (f x (member_here x xs)) (every_one p xs (λ h m. f h (member_there h x xs m)))

pub not_every : (p : ℕ → Bool) (l : List ℕ) → every p l ≡ false → (h : ℕ) × (member h l ≡ true) × (p h ≡ false)
unfolding every
not_every p [] e = absurd (true_false true refl e)
not_every p (x ∷ xs) e =
    split (p x)
    (λ q. let w = not_every p xs (rw q at e) in (w.0, member_there w.0 x xs w.1, w.2))
    (λ q. (x, member_here x xs, q))

pub every_append : (p : ℕ → Bool) (a b : List ℕ) → every p (a ++ b) ≡ (every p a && every p b)
unfolding every
every_append p [] b = refl
every_append p (x ∷ a) b = split (p x) (λ e. rw e (every_append p a b)) (λ e. rw e)

-- all of a list is kept
pub keep_all : (p : ℕ → Bool) (l : List ℕ) → every p l ≡ true → keep p l ≡ l
unfolding keep every
keep_all p [] e = refl
keep_all p (x ∷ xs) e = let b = both (p x) (every p xs) e in rw (b.0, keep_all p xs b.1)

-- ---- how often

pub often_append : (h : ℕ) (a b : List ℕ) → often h (a ++ b) ≡ often h a + often h b
unfolding often
often_append h [] b = omega arith
often_append h (x ∷ a) b = split (eqb h x) (λ e. rw e (omega (arith, often_append h a b))) (λ e. rw e (often_append h a b))

pub often_none : (h : ℕ) (l : List ℕ) → member h l ≡ false → often h l ≡ 0
unfolding often member
often_none h [] m = refl
often_none h (x ∷ xs) m =
    split (eqb h x) (λ e. absurd (true_false (eqb h x || member h xs) (or_left (eqb h x) (member h xs) e) m)) (λ e. rw e (often_none h xs (rw e at m)))

pub often_some : (h : ℕ) (l : List ℕ) → member h l ≡ true → 1 ≤ often h l
unfolding often
often_some h [] m = absurd (member_none h m)
often_some h (x ∷ xs) m =
    split (eqb h x) (λ e. rw e (omega arith)) (λ e. rw e (often_some h xs (member_behind h x xs m (eqb-false h x e))))

pub often_most : (h : ℕ) (l : List ℕ) → often h l ≤ length l
unfolding often
often_most h [] = omega arith
often_most h (x ∷ xs) = split (eqb h x) (λ e. rw e (omega (arith, often_most h xs))) (λ e. rw e (omega (arith, often_most h xs)))

pub often_keep : (p : ℕ → Bool) (h : ℕ) (l : List ℕ) → often h (keep p l) ≤ often h l
unfolding often keep
often_keep p h [] = omega arith
often_keep p h (x ∷ xs) =
    split (p x)
    (λ q. split (eqb h x) (λ e. rw (q, e) (omega (arith, often_keep p h xs))) (λ e. rw (q, e) (often_keep p h xs)))
    (λ q. split (eqb h x) (λ e. rw (q, e) (omega (arith, often_keep p h xs))) (λ e. rw (q, e) (often_keep p h xs)))

-- ---- each number once

pub once_none : Once []
unfolding often
once_none h = omega arith

pub once_first : (x : ℕ) (xs : List ℕ) → Once (x ∷ xs) → member x xs ≡ false
unfolding often
once_first x xs o =
    split (member x xs) (λ m. absurd (omega (arith, rw (eq-eqb x x refl) at (o x), often_some x xs m))) (λ m. m)

pub once_tail : (x : ℕ) (xs : List ℕ) → Once (x ∷ xs) → Once xs
unfolding often
once_tail x xs o h = split (eqb h x) (λ e. omega (arith, rw e at (o h))) (λ e. rw e at (o h))

pub once_cons : (x : ℕ) (xs : List ℕ) → member x xs ≡ false → Once xs → Once (x ∷ xs)
unfolding often
once_cons x xs m o h =
    split (eqb h x)
    (λ e. let none : often h xs ≡ 0 = rw (eqb-true h x e) (often_none x xs m) in rw e (omega (arith, none)))
    (λ e. rw e (o h))

-- part of a list
pub once_keep : (p : ℕ → Bool) (l : List ℕ) → Once l → Once (keep p l)
once_keep p l o h = omega (arith, often_keep p h l, o h)

-- two lists that share no number
pub once_append : (a b : List ℕ) → Once a → Once b → ((h : ℕ) → member h a ≡ true → member h b ≡ false) → Once (a ++ b)
once_append a b p q f h =
    rw (often_append h a b)
    (split (member h a)
    (λ m. omega (arith, p h, often_none h b (f h m)))
    (λ m. omega (arith, q h, often_none h a m)))

-- the first numbers of a list
often_take : (k h : ℕ) (l : List ℕ) → often h (take k l) ≤ often h l
unfolding often
often_take zero h l = omega arith
often_take (suc k) h [] = omega arith
often_take (suc k) h (x ∷ xs) = split (eqb h x) (λ e. rw e (omega (arith, often_take k h xs))) (λ e. rw e (often_take k h xs))

pub once_take : (k : ℕ) (l : List ℕ) → Once l → Once (take k l)
once_take k l o h = omega (arith, often_take k h l, o h)

pub once_ascends : (l : List ℕ) → ascends l ≡ true → Once l
once_ascends [] a = once_none
once_ascends (x ∷ xs) a =
    let none : member x xs ≡ false =
    split (member x xs) (λ m. let b : x < x = ascends_first x xs a x m in absurd (omega arith)) (λ m. m)
    in
    once_cons x xs none (once_ascends xs (ascends_tail x xs a))

-- by index: no number stands at two of them
pub index_once : (l : List ℕ) → ((i j : ℕ) → i < length l → j < length l → get_or l i 0 ≡ get_or l j 0 → i ≡ j) → Once l
index_once [] f = once_none
index_once (x ∷ xs) f =
    let none : member x xs ≡ false =
    split (member x xs)
    (λ m.
    let w = member_index x xs m in
    absurd (omega (arith, f 0 (suc w.0) (omega arith) (omega (arith, w.1)) (sym w.2))))
    (λ m. m)
    in
    once_cons x xs none (index_once xs (λ i j h k e. suc_inj (f (suc i) (suc j) (omega arith) (omega arith) e)))

pub once_index : (l : List ℕ) → Once l → (i j : ℕ) → i < length l → j < length l → get_or l i 0 ≡ get_or l j 0 → i ≡ j
once_index [] o i j h k q = absurd (not-suc-le-zero h)
once_index (x ∷ xs) o zero zero h k q = refl
once_index (x ∷ xs) o zero (suc j) h k q =
    absurd (true_false (member x xs) (rw (sym q) at (index_member xs j (omega arith))) (once_first x xs o))
once_index (x ∷ xs) o (suc i) zero h k q = absurd (true_false (member x xs) (rw q at (index_member xs i (omega arith))) (once_first x xs o))
once_index (x ∷ xs) o (suc i) (suc j) h k q = ap suc (once_index xs (once_tail x xs o) i j (omega arith) (omega arith) q)

-- a list that names each number once is no longer than one that has all of them
pub once_inside : (a b : List ℕ) → Once a → ((h : ℕ) → member h a ≡ true → member h b ≡ true) → length a ≤ length b
once_inside [] b o f = omega arith
once_inside (x ∷ xs) b o f =
    let others : List ℕ = keep (λ h. not (eqb h x)) b in
    let rest : length xs ≤ length others =
    once_inside xs others (once_tail x xs o)
    (λ h m.
    let differs : eqb h x ≡ false =
    split (eqb h x) (λ e. absurd (true_false (member x xs) (rw (eqb-true h x e) at m) (once_first x xs o))) (λ e. e)
    in
    keep_member (λ k. not (eqb k x)) b h ∙ rw differs (f h (member_there h x xs m)))
    in
    let here : 0 < length (keep (λ h. eqb h x) b) =
    member_long x (keep (λ h. eqb h x) b) (keep_member (λ h. eqb h x) b x ∙ rw (eq-eqb x x refl) (f x (member_here x xs)))
    in
    omega (arith, keep_parts (λ h. eqb h x) b, rest, here)

-- two of the same members are of the same length
pub once_same : (a b : List ℕ) → Once a → Once b → ((h : ℕ) → member h a ≡ member h b) → length a ≡ length b
once_same a b o q f = omega (arith, once_inside a b o (λ h m. sym (f h) ∙ m), once_inside b a q (λ h m. f h ∙ m))

-- ---- lists of hashes

pub hashes_member : (l : List ℕ) → AreHashes l → (h : ℕ) → member h l ≡ true → IsHash h
unfolding AreHashes
hashes_member [] a h m = absurd (member_none h m)
hashes_member (x ∷ xs) a h m =
    split (eqb h x) (λ e. rw (eqb-true h x e) a.0) (λ e. hashes_member xs a.1 h (member_behind h x xs m (eqb-false h x e)))

pub hashes_each : (l : List ℕ) → ((h : ℕ) → member h l ≡ true → IsHash h) → AreHashes l
unfolding AreHashes
hashes_each [] f = tt
hashes_each (x ∷ xs) f = (f x (member_here x xs), hashes_each xs (λ h m. f h (member_there h x xs m)))

-- a list whose members are all among hashes
pub hashes_inside : (a b : List ℕ) → AreHashes b → ((h : ℕ) → member h a ≡ true → member h b ≡ true) → AreHashes a
hashes_inside a b p f = hashes_each a (λ h m. hashes_member b p h (f h m))
