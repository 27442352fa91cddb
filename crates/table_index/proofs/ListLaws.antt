-- Lists of numbers through a function, lists that don't fall, and where a number has its place in one.
use Prim.Native.Nat.{ℕ, zero, suc, ◌≤◌, ◌<◌}
use mathlib.Core.Bool.{true, false}
use mathlib.Core.List.{List, [], ◌∷◌, map}
use mathlib.Core.Path.{◌≡◌, refl, sym, ap, ◌∙◌}
use native.Mathlib.Nat.{not-suc-le-zero}
use native.Mathlib.Omega.{arith}
use borrow.Author.Tests.{ltb-true, ltb-false, leb-true, lt-ltb, le-ltb, le-leb, eqb-true, eqb-false}
use lib.Dec.{ltb, leb, eqb}
use lib.ListN.{length, get_or, length-map}
use Rattle.hash_order.proofs.KeepLaws.{once_none, once_cons}
use Rattle.hash_order.proofs.OrderLaws.{member_here, member_there, member_behind, member_none, member_index, index_member, ascends_tail, ascends_first, ascends_index, insert_longer, ascend_members}
use Rattle.hash_order.specs.Order.{member, every, Once, ascends, place_of, ascend}
use Rattle.rules.proofs.Cases.{split, both}
use Rattle.table_index.specs.Index.{rises}

-- less, equal or greater, scrutinee first
pub compared {ℓ} : {C : Type ℓ} (x y : ℕ) → (x < y → C) → (x ≡ y → C) → (y < x → C) → C
compared x y f g h =
    split (ltb x y)
    (λ e. f (ltb-true x y e))
    (λ e. split (ltb y x) (λ d. h (ltb-true y x d)) (λ d. g (omega (arith, ltb-false x y e, ltb-false y x d))))

-- ---- each below a number

pub each_below : (n : ℕ) (l : List ℕ) → every (λ i. ltb i n) l ≡ true → (x : ℕ) → member x l ≡ true → x < n
unfolding every
each_below n [] e x m = absurd (member_none x m)
each_below n (y ∷ ys) e x m =
    let parts = both (ltb y n) (every (λ i. ltb i n) ys) e in
    split (eqb x y)
    (λ q. omega (arith, eqb-true x y q, ltb-true y n parts.0))
    (λ q. each_below n ys parts.1 x (member_behind x y ys m (eqb-false x y q)))

pub below_each : (n : ℕ) (l : List ℕ) → ((x : ℕ) → member x l ≡ true → x < n) → every (λ i. ltb i n) l ≡ true
unfolding every
below_each n [] h = refl
below_each n (y ∷ ys) h = rw (lt-ltb y n (h y (member_here y ys))) (below_each n ys (λ x m. h x (member_there x y ys m)))

pub below_index : (n : ℕ) (l : List ℕ) → every (λ i. ltb i n) l ≡ true → (k : ℕ) → k < length l → get_or l k 0 < n
below_index n l e k b = each_below n l e (get_or l k 0) (index_member l k b)

-- ---- through a function

module _ (f : ℕ → ℕ) where
  pub map_index : (l : List ℕ) (k : ℕ) → k < length l → get_or (map f l) k 0 ≡ f (get_or l k 0)
  map_index [] k b = absurd (not-suc-le-zero b)
  map_index (x ∷ xs) zero b = refl
  map_index (x ∷ xs) (suc k) b = map_index xs k (omega arith)

  pub map_member : (l : List ℕ) (x : ℕ) → member x l ≡ true → member (f x) (map f l) ≡ true
  map_member [] x m = absurd (member_none x m)
  map_member (y ∷ ys) x m =
      split (eqb x y)
      (λ e. rw (eqb-true x y e) (member_here (f y) (map f ys)))
      (λ e. member_there (f x) (f y) (map f ys) (map_member ys x (member_behind x y ys m (eqb-false x y e))))

  pub member_map : (l : List ℕ) (h : ℕ) → member h (map f l) ≡ true → (x : ℕ) × (member x l ≡ true) × (f x ≡ h)
  member_map l h m =
      let r = member_index h (map f l) m in
      let b : r.0 < length l = omega (arith, r.1, length-map l f) in
      (get_or l r.0 0, index_member l r.0 b, sym (map_index l r.0 b) ∙ r.2)

  -- where the values ascend no number stands twice
  pub first_once : (x : ℕ) (xs : List ℕ) → ascends (map f (x ∷ xs)) ≡ true → member x xs ≡ false
  first_once x xs a =
      split (member x xs)
      (λ m. absurd (let b : f x < f x = ascends_first (f x) (map f xs) a (f x) (map_member xs x m) in omega arith))
      (λ e. e)

  pub sorted_once : (l : List ℕ) → ascends (map f l) ≡ true → Once l
  sorted_once [] a = once_none
  sorted_once (x ∷ xs) a = once_cons x xs (first_once x xs a) (sorted_once xs (ascends_tail (f x) (map f xs) a))

  pub sorted_length : (l : List ℕ) → ascends (map f l) ≡ true → length (ascend l) ≡ length l
  unfolding ascend
  sorted_length [] a = refl
  sorted_length (x ∷ xs) a =
      insert_longer x (ascend xs) (ascend_members x xs ∙ first_once x xs a) ∙ ap suc (sorted_length xs (ascends_tail (f x) (map f xs) a))

-- two functions that agree below a number
pub map_same : (f g : ℕ → ℕ) (n : ℕ) (l : List ℕ) → ((x : ℕ) → x < n → f x ≡ g x) → ((x : ℕ) → member x l ≡ true → x < n) → map f l ≡ map g l
map_same f g n [] e h = refl
map_same f g n (x ∷ xs) e h =
    rw (e x (h x (member_here x xs)), map_same f g n xs e (λ y m. h y (member_there y x xs m)))

-- ---- an ascending list below n has at most n numbers

ascending_least : (l : List ℕ) → ascends l ≡ true → (k : ℕ) → k < length l → k ≤ get_or l k 0
ascending_least l a zero b = omega arith
ascending_least l a (suc k) b = omega (arith, ascending_least l a k (omega arith), ascends_index l k (suc k) a (omega arith) b)

pub ascending_few : (l : List ℕ) (n : ℕ) → ascends l ≡ true → ((x : ℕ) → member x l ≡ true → x < n) → length l ≤ n
ascending_few [] n a h = omega arith
ascending_few (x ∷ xs) n a h =
    omega (
      arith,
      ascending_least (x ∷ xs) a (length xs) (omega arith),
      h (get_or (x ∷ xs) (length xs) 0) (index_member (x ∷ xs) (length xs) (omega arith)),
    )

-- ---- lists that don't fall

pub ascends_rises : (l : List ℕ) → ascends l ≡ true → rises l ≡ true
unfolding ascends rises
ascends_rises [] a = refl
ascends_rises (x ∷ []) a = refl
ascends_rises (x ∷ y ∷ ys) a =
    let parts = both (ltb x y) (ascends (y ∷ ys)) a in
    let below : x < y = ltb-true x y parts.0 in
    rw (le-leb x y (omega arith)) (ascends_rises (y ∷ ys) parts.1)

pub rises_tail : (x : ℕ) (xs : List ℕ) → rises (x ∷ xs) ≡ true → rises xs ≡ true
unfolding rises
rises_tail x [] a = refl
rises_tail x (y ∷ ys) a = (both (leb x y) (rises (y ∷ ys)) a).1

pub rises_first : (x : ℕ) (xs : List ℕ) → rises (x ∷ xs) ≡ true → (y : ℕ) → member y xs ≡ true → x ≤ y
unfolding rises
rises_first x [] a y m = absurd (member_none y m)
rises_first x (z ∷ zs) a y m =
    let parts = both (leb x z) (rises (z ∷ zs)) a in
    let h : x ≤ z = leb-true x z parts.0 in
    split (eqb y z)
    (λ e. omega (arith, eqb-true y z e))
    (λ e. omega (arith, rises_first z zs parts.1 y (member_behind y z zs m (eqb-false y z e))))

pub rises_cons : (x : ℕ) (xs : List ℕ) → rises xs ≡ true → ((y : ℕ) → member y xs ≡ true → x ≤ y) → rises (x ∷ xs) ≡ true
unfolding rises
rises_cons x [] a f = refl
rises_cons x (y ∷ ys) a f = rw (le-leb x y (f y (member_here y ys))) a

-- ---- the place of a number: how many at the start are less

pub place_low : (l : List ℕ) (h k : ℕ) → k < length l → h ≤ get_or l k 0 → place_of h l ≤ k
unfolding place_of
place_low [] h k b e = absurd (not-suc-le-zero b)
place_low (x ∷ xs) h zero b e = rw (le-ltb x h e) (omega arith)
place_low (x ∷ xs) h (suc k) b e =
    split (ltb x h) (λ q. rw q (omega (arith, place_low xs h k (omega arith) e))) (λ q. rw q (omega arith))

pub place_high : (l : List ℕ) (h k : ℕ) → rises l ≡ true → k < length l → get_or l k 0 < h → k < place_of h l
unfolding place_of
place_high [] h k a b e = absurd (not-suc-le-zero b)
place_high (x ∷ xs) h zero a b e = rw (lt-ltb x h e) (omega arith)
place_high (x ∷ xs) h (suc k) a b e =
    let first : x ≤ get_or xs k 0 = rises_first x xs a (get_or xs k 0) (index_member xs k (omega arith)) in
    rw (lt-ltb x h (omega arith)) (omega (arith, place_high xs h k (rises_tail x xs a) (omega arith) e))

-- one that doesn't stand at its place stands nowhere
pub place_unknown : (l : List ℕ) (h : ℕ) → ascends l ≡ true → (place_of h l < length l → get_or l (place_of h l) 0 ≡ h → ⊥) → member h l ≡ false
place_unknown l h a other =
    split (member h l)
    (λ m.
    let r = member_index h l m in
    let low : place_of h l ≤ r.0 = place_low l h r.0 r.1 (omega (arith, r.2)) in
    absurd
    (compared (place_of h l) r.0
    (λ b.
    let less : get_or l (place_of h l) 0 < h = omega (arith, ascends_index l (place_of h l) r.0 a b r.1, r.2) in
    let c = place_high l h (place_of h l) (ascends_rises l a) (omega (arith, r.1)) less in
    omega (arith, c))
    (λ b. other (omega (arith, r.1)) (rw b r.2))
    (λ b. omega (arith, low))))
    (λ e. e)
