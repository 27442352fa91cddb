-- Tables one row on, and waiting tables that are made from a list of hashes. A new row takes the next number, so its dependencies are the hashes at its
-- row numbers, and those are the old rows'. Assumes nothing.
use Prim.Native.Nat.{ℕ, zero, suc, ◌<◌}
use mathlib.Core.Bool.{Bool, true, ◌||◌}
use mathlib.Core.List.{List, [], ◌∷◌, ◌++◌, map}
use mathlib.Core.Path.{◌≡◌, refl, sym, ap, ap₂, ◌∙◌}
use native.Mathlib.Nat.{not-suc-le-zero}
use native.Mathlib.Omega.{arith}
use lib.Dec.{eqb}
use lib.ListN.{length, get_or, length-append}
use lib.Seq.{get_or-append_seam}
use Rattle.table_graph.proofs.MarkLaws.{or_false}
use Rattle.hash_order.proofs.OrderLaws.{member_here, member_there}
use Rattle.hash_order.specs.Order.{member}
use Rattle.table.proofs.ExtendLaws.{rows_append, held_append, hash_stays, last_deps}
use Rattle.table.proofs.TableLaws.{length_rows, number_of_row, index_of_member, entry_at_index}
use Rattle.table.specs.Table.{Row, rows, hash_of, deps_of, GoodTable, row_number, held, deps, index_in}
use Rattle.waiting.specs.Waiting.{Waiting, waiting, asks, asks_of}

-- functions that agree on a list's members give the same list
map_same : (f g : ℕ → ℕ) (l : List ℕ) → ((k : ℕ) → member k l ≡ true → f k ≡ g k) → map f l ≡ map g l
map_same f g [] e = refl
map_same f g (k ∷ l) e = ap₂ ◌∷◌ (e k (member_here k l)) (map_same f g l (λ j m. e j (member_there j k l m)))

-- ---- one row more

pub held_added : (t : List Row) (r : Row) (h : ℕ) → held (t ++ r ∷ []) h ≡ (held t h || eqb h r.hash)
unfolding held rows member
held_added t r h = held_append t (r ∷ []) h ∙ ap (λ (b : Bool). member h (map (λ (r : Row). r.hash) t) || b) (or_false (eqb h r.hash))

last_hash : (t : List Row) (r : Row) → hash_of (t ++ r ∷ []) (length t) ≡ r.hash
unfolding hash_of rows
last_hash t r =
    ap (λ (l : List ℕ). get_or l (length t) 0) (rows_append t (r ∷ []))
    ∙ ap (λ (n : ℕ). get_or (rows t ++ r.hash ∷ []) n 0) (sym (length_rows t))
    ∙ get_or-append_seam (rows t) r.hash [] 0

last_number : (t : List Row) (r : Row) → GoodTable (t ++ r ∷ []) → row_number (t ++ r ∷ []) r.hash ≡ length t
last_number t r good =
    let long : length (t ++ r ∷ []) ≡ suc (length t) = omega (arith, length-append t (r ∷ [])) in
    ap (row_number (t ++ r ∷ [])) (sym (last_hash t r)) ∙ number_of_row (t ++ r ∷ []) good (length t) (omega arith)

-- the new row's dependencies, as hashes of the old rows
pub added_deps : (t : List Row) (r : Row) → GoodTable (t ++ r ∷ []) → ((i : ℕ) → member i r.deps ≡ true → i < length t)
    → deps (t ++ r ∷ []) r.hash ≡ map (hash_of t) r.deps
unfolding deps
added_deps t r good low =
    ap (λ (n : ℕ). map (hash_of (t ++ r ∷ [])) (deps_of (t ++ r ∷ []) n)) (last_number t r good)
    ∙ ap (map (hash_of (t ++ r ∷ []))) (last_deps t r)
    ∙ map_same (hash_of (t ++ r ∷ [])) (hash_of t) r.deps (λ i m. hash_stays t (r ∷ []) i (low i m))

-- ---- a waiting table from hashes, each with what f says it asks for

unfoldable pub waiting_for : (ℕ → List ℕ) → List ℕ → List Waiting
waiting_for f [] = []
waiting_for f (h ∷ hs) = record { hash = h; asks = f h } ∷ waiting_for f hs

pub waiting_for_lem : (f : ℕ → List ℕ) (l : List ℕ) → waiting (waiting_for f l) ≡ l
unfolding waiting_for waiting
waiting_for_lem f [] = refl
waiting_for_lem f (h ∷ hs) = ap (λ (l : List ℕ). h ∷ l) (waiting_for_lem f hs)

row_asks : (f : ℕ → List ℕ) (l : List ℕ) (i : ℕ) → i < length l → asks_of (waiting_for f l) i ≡ f (get_or l i 0)
unfolding waiting_for asks_of
row_asks f [] i h = absurd (not-suc-le-zero h)
row_asks f (x ∷ xs) zero h = refl
row_asks f (x ∷ xs) (suc i) h = row_asks f xs i (omega arith)

pub asks_for : (f : ℕ → List ℕ) (l : List ℕ) (h : ℕ) → member h l ≡ true → asks (waiting_for f l) h ≡ f h
unfolding asks
asks_for f l h m =
    let inside = index_of_member l h m in
    ap (λ (u : List ℕ). asks_of (waiting_for f l) (index_in u h)) (waiting_for_lem f l)
    ∙ row_asks f l (index_in l h) inside
    ∙ ap f (entry_at_index l h inside)
