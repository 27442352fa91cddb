-- A table with rows added at its end: the old rows keep their numbers, hashes and dependencies. A row that may stand there makes a good table of
-- a good one, and the first rows of a good table are one.
use Prim.Native.Nat.{ℕ, zero, suc, ◌+◌, ◌≤◌, ◌<◌}
use mathlib.Core.Bool.{true, false, ◌||◌}
use mathlib.Core.List.{List, [], ◌∷◌, ◌++◌, map}
use mathlib.Core.Path.{◌≡◌, refl, ap, ap₂, ◌∙◌}
use native.Mathlib.Omega.{arith}
use borrow.Author.Tests.{ltb-true, ltb-false, eqb-true}
use lib.Dec.{eqb, ltb}
use lib.ListN.{length, get_or, take, length-append, length-take, get_or-append}
use lib.Seq.{get_or-append_seam, get_or-take}
use Rattle.hash_order.proofs.KeepLaws.{once_append, once_cons, once_none, once_take}
use Rattle.hash_order.proofs.OrderLaws.{member_append, member_here, member_there, member_none}
use Rattle.hash_order.specs.Order.{member, ascends}
use Rattle.rules.proofs.Cases.{split, either, true_false}
use Rattle.table.specs.Table.{Row, no_row, rows, hash_of, deps_of, GoodTable, index_in, row_number, held, deps}
use Rattle.table.proofs.TableLaws.{length_rows, row_of_held}

pub rows_append : (t u : List Row) → rows (t ++ u) ≡ rows t ++ rows u
unfolding rows
rows_append [] u = refl
rows_append (r ∷ t) u = ap (λ (l : List ℕ). r.hash ∷ l) (rows_append t u)

pub held_append : (t u : List Row) (h : ℕ) → held (t ++ u) h ≡ (held t h || held u h)
unfolding held
held_append t u h = ap (member h) (rows_append t u) ∙ member_append h (rows t) (rows u)

pub hash_stays : (t u : List Row) (i : ℕ) → i < length t → hash_of (t ++ u) i ≡ hash_of t i
unfolding hash_of
hash_stays t u i h =
    let inside : i < length (rows t) = omega (arith, length_rows t) in
    ap (λ (l : List ℕ). get_or l i 0) (rows_append t u) ∙ get_or-append (rows t) (rows u) 0 i inside

pub row_deps_stay : (t u : List Row) (i : ℕ) → i < length t → deps_of (t ++ u) i ≡ deps_of t i
unfolding deps_of
row_deps_stay t u i h = ap (λ (r : Row). r.deps) (get_or-append t u no_row i h)

index_before : (a b : List ℕ) (h : ℕ) → index_in a h < length a → index_in (a ++ b) h ≡ index_in a h
unfolding index_in
index_before [] b h l = absurd (omega arith)
index_before (x ∷ a) b h l =
    split (eqb x h)
    (λ e. rw e)
    (λ e.
    let rest : index_in a h < length a = omega (arith, rw e at l) in
    rw e (ap suc (index_before a b h rest)))

pub number_stays : (t u : List Row) (h : ℕ) → held t h ≡ true → row_number (t ++ u) h ≡ row_number t h
unfolding row_number
number_stays t u h e =
    let inside : index_in (rows t) h < length (rows t) = omega (arith, length_rows t, row_of_held t h e) in
    ap (λ (l : List ℕ). index_in l h) (rows_append t u) ∙ index_before (rows t) (rows u) h inside

-- functions that agree on a list's members give the same list
map_same : (f g : ℕ → ℕ) (l : List ℕ) → ((k : ℕ) → member k l ≡ true → f k ≡ g k) → map f l ≡ map g l
map_same f g [] e = refl
map_same f g (k ∷ l) e = ap₂ ◌∷◌ (e k (member_here k l)) (map_same f g l (λ j m. e j (member_there j k l m)))

pub deps_stay : (t u : List Row) → GoodTable t → (h : ℕ) → held t h ≡ true → deps (t ++ u) h ≡ deps t h
unfolding deps
deps_stay t u good h e =
    let inside : row_number t h < length t = row_of_held t h e in
    rw (number_stays t u h e, row_deps_stay t u (row_number t h) inside)
    (map_same (hash_of (t ++ u)) (hash_of t) (deps_of t (row_number t h))
    (λ k m. hash_stays t u k (omega (arith, good.down (row_number t h) k inside m))))

-- ---- one row more

row_there : (t : List Row) (r : Row) (i : ℕ) → i < length (t ++ r ∷ []) → length t ≤ i → i ≡ length t
row_there t r i b h = let long : length (t ++ r ∷ []) ≡ length t + 1 = length-append t (r ∷ []) in omega arith

-- the new row's dependencies
pub last_deps : (t : List Row) (r : Row) → deps_of (t ++ r ∷ []) (length t) ≡ r.deps
unfolding deps_of
last_deps t r = ap (λ (x : Row). x.deps) (get_or-append_seam t r [] no_row)

-- a new hash, with row numbers that ascend and are those of rows
pub good_append : (t : List Row) (r : Row) → GoodTable t → held t r.hash ≡ false → ascends r.deps ≡ true
    → ((k : ℕ) → member k r.deps ≡ true → k < length t)
    → GoodTable (t ++ r ∷ [])
unfolding held rows member
good_append t r good new order below =
    record {
      once =
          rw (rows_append t (r ∷ []))
          (once_append (rows t) (r.hash ∷ []) good.once (once_cons r.hash [] refl once_none)
          (λ h m.
          split (member h (r.hash ∷ []))
          (λ e.
          either (eqb h r.hash) (member h []) e
          (λ q. absurd (true_false (member h (rows t)) m (rw (eqb-true h r.hash q) new)))
          (λ q. absurd (member_none h q)))
          (λ e. e)));
      down =
          λ i k b m.
          split (ltb i (length t))
          (λ e. let l : i < length t = ltb-true _ _ e in good.down i k l (rw (row_deps_stay t (r ∷ []) i l) at m))
          (λ e.
          let same : i ≡ length t = row_there t r i b (ltb-false _ _ e) in
          let is : deps_of (t ++ r ∷ []) i ≡ r.deps = ap (deps_of (t ++ r ∷ [])) same ∙ last_deps t r in
          omega (arith, same, below k (rw is at m)));
      ordered =
          λ i b.
          split (ltb i (length t))
          (λ e. let l : i < length t = ltb-true _ _ e in rw (row_deps_stay t (r ∷ []) i l) (good.ordered i l))
          (λ e.
          let same : i ≡ length t = row_there t r i b (ltb-false _ _ e) in
          ap (λ (j : ℕ). ascends (deps_of (t ++ r ∷ []) j)) same ∙ ap ascends (last_deps t r) ∙ order);
    }

-- ---- the first rows

pub rows_take : (k : ℕ) (t : List Row) → rows (take k t) ≡ take k (rows t)
unfolding rows
rows_take zero t = refl
rows_take (suc k) [] = refl
rows_take (suc k) (r ∷ t) = ap (λ (l : List ℕ). r.hash ∷ l) (rows_take k t)

deps_take : (k : ℕ) (t : List Row) (i : ℕ) → i < k → deps_of (take k t) i ≡ deps_of t i
unfolding deps_of
deps_take k t i h = ap (λ (r : Row). r.deps) (get_or-take k t i no_row h)

pub good_take : (k : ℕ) (t : List Row) → GoodTable t → GoodTable (take k t)
good_take k t good =
    record {
      once = rw (rows_take k t) (once_take k (rows t) good.once);
      down =
          λ i j b m.
          let l : i < k = omega (arith, rw length-take at b) in
          good.down i j (omega (arith, rw length-take at b)) (rw (deps_take k t i l) at m);
      ordered =
          λ i b.
          let l : i < k = omega (arith, rw length-take at b) in
          rw (deps_take k t i l) (good.ordered i (omega (arith, rw length-take at b)));
    }
