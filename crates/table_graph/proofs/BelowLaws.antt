-- Rows, what is below a list and the rows beyond it, by hash: a good table's row numbers and its hashes tell each other, so what holds of row
-- numbers (ReachLaws) holds of hashes.
use Prim.Native.Nat.{ℕ, zero, suc, ◌≤◌, ◌<◌}
use mathlib.Core.Bool.{Bool, true, false, not, ◌&&◌, ◌||◌}
use mathlib.Core.List.{List, [], ◌∷◌, map}
use mathlib.Core.Path.{◌≡◌, refl, sym, ap, subst, ◌∙◌}
use native.Mathlib.Nat.{not-suc-le-zero}
use native.Mathlib.Omega.{arith}
use borrow.Author.Tests.{eqb-true, eq-eqb, not-true}
use lib.Dec.{eqb}
use lib.ListN.{length, get_or, get_or-eq_default}
use Rattle.hash_order.proofs.OrderLaws.{member_none}
use Rattle.hash_order.proofs.ReachLaws.{reach_equation, reach_base, reach_closed, reach_least}
use Rattle.hash_order.specs.Order.{member}
use Rattle.hash_order.specs.Reach.{some_below}
use Rattle.rules.proofs.Cases.{split, both, true_false, either, or_left, or_right}
use Rattle.rules.specs.Hash.{AreHashes}
use Rattle.table.proofs.TableLaws.{length_rows, number_of_row, held_row, row_of_held, hash_of_held, index_of_unknown}
use Rattle.table.specs.Table.{Row, no_row, rows, hash_of, deps_of, GoodTable, index_in, row_number, held, deps}
use Rattle.table_graph.specs.Graph.{below_row, below, beyond}
use Rattle.table_graph.proofs.PickLaws.{rows_where_lem, rows_most, chosen_hashes}

-- ---- members of a list that a function gives

pub member_map : (f : ℕ → ℕ) (l : List ℕ) (k : ℕ) → member k l ≡ true → member (f k) (map f l) ≡ true
unfolding member
member_map f [] k m = m
member_map f (x ∷ xs) k m =
    either (eqb k x) (member k xs) m (λ e. or_left (eqb (f k) (f x)) _ (eq-eqb (f k) (f x) (ap f (eqb-true k x e))))
    (λ e. or_right (eqb (f k) (f x)) _ (member_map f xs k e))

pub map_member : (f : ℕ → ℕ) (l : List ℕ) (g : ℕ) → member g (map f l) ≡ true → record { k : ℕ; there : member k l ≡ true; is : f k ≡ g }
unfolding member
map_member f [] g m = absurd (true_false false m refl)
map_member f (x ∷ xs) g m =
    either (eqb g (f x)) (member g (map f xs)) m
    (λ e. record { k = x; there = or_left (eqb x x) _ (eq-eqb x x refl); is = sym (eqb-true g (f x) e) })
    (λ e.
    let w = map_member f xs g e in
    record { k = w.k; there = or_right (eqb w.k x) _ w.there; is = w.is })

-- ---- rows

pub no_deps : (t : List Row) (h : ℕ) → held t h ≡ false → deps t h ≡ []
unfolding deps deps_of row_number held
no_deps t h e =
    let p : index_in (rows t) h ≡ length t = index_of_unknown (rows t) h e ∙ length_rows t in
    let none : get_or t (length t) no_row ≡ no_row = get_or-eq_default t no_row (omega arith) in
    ap (λ (k : ℕ). map (hash_of t) (get_or t k no_row).deps) p ∙ ap (λ (r : Row). map (hash_of t) r.deps) none

-- a dependency is a row before the one that names it
pub record Dependency (t : List Row) (h g : ℕ) : Type 0 where
  pub row : ℕ
  pub there : member row (deps_of t (row_number t h)) ≡ true
  pub is : hash_of t row ≡ g
  pub less : row < row_number t h
  pub inside : row_number t h < length t

module _ (t : List Row) (good : GoodTable t) where
  pub only_rows : (h g : ℕ) → member g (deps t h) ≡ true → held t h ≡ true
  only_rows h g m = split (held t h) (λ e. e) (λ e. absurd (member_none g (rw (no_deps t h e) at m)))

  pub dependency : (h g : ℕ) → member g (deps t h) ≡ true → Dependency t h g
  unfolding deps
  dependency h g m =
      let inside = row_of_held t h (only_rows h g m) in
      let w = map_member (hash_of t) (deps_of t (row_number t h)) g m in
      record { row = w.k; there = w.there; is = w.is; less = good.down (row_number t h) w.k inside w.there; inside = inside }

  pub deps_held : (h g : ℕ) → member g (deps t h) ≡ true → held t g ≡ true
  deps_held h g m =
      let d = dependency h g m in
      let less : d.row < length t = omega (arith, d.less, d.inside) in
      rw d.is at (held_row t d.row less)

  -- a row's number and what its row names, as hashes
  pub deps_of_hash : (i k : ℕ) → i < length t → member k (deps_of t i) ≡ true → member (hash_of t k) (deps t (hash_of t i)) ≡ true
  unfolding deps
  deps_of_hash i k h m = rw (number_of_row t good i h) (member_map (hash_of t) (deps_of t i) k m)

  -- what holds of a row if it holds of all that the row depends on holds of every row
  module _ (P : ℕ → Type 0) (step : (h : ℕ) → held t h ≡ true → ((g : ℕ) → member g (deps t h) ≡ true → P g) → P h) where
    from_first : (n h : ℕ) → row_number t h < n → held t h ≡ true → P h
    from_first zero h l e = absurd (not-suc-le-zero l)
    from_first (suc n) h l e =
        step h e
        (λ g m.
        let d = dependency h g m in
        let less : d.row < length t = omega (arith, d.less, d.inside) in
        let at : row_number t g ≡ d.row = ap (row_number t) (sym d.is) ∙ number_of_row t good d.row less in
        from_first n g (omega (arith, d.less)) (deps_held h g m))

    pub row_induction : (h : ℕ) → held t h ≡ true → P h
    row_induction h e = from_first (suc (row_number t h)) h (omega arith) e

-- ---- below

module _ (t : List Row) (good : GoodTable t) (l : List ℕ) where
  pub below_row_lem : (h : ℕ) → held t h ≡ true → below t l h ≡ below_row t l (row_number t h)
  unfolding below
  below_row_lem h e = rw e

  pub below_held : (h : ℕ) → below t l h ≡ true → held t h ≡ true
  unfolding below
  below_held h b = split (held t h) (λ e. e) (λ e. absurd (true_false false (rw e at b) refl))

  -- by row number: a row is below if it is L's or some row that is below depends on it
  pub below_equation : (i : ℕ) → i < length t
      → below_row t l i ≡ (member (hash_of t i) l || some_below (length t) (λ k. below_row t l k && member i (deps_of t k)))
  unfolding below_row
  below_equation i h = reach_equation (length t) (λ k. member (hash_of t k) l) (λ k j. member j (deps_of t k)) i h

  -- L's known hashes are below
  pub below_listed : (h : ℕ) → held t h ≡ true → member h l ≡ true → below t l h ≡ true
  unfolding below_row
  below_listed h e m =
      below_row_lem h e
      ∙ reach_base (length t) (λ k. member (hash_of t k) l) (λ k j. member j (deps_of t k)) (row_number t h) (row_of_held t h e) (rw (hash_of_held t h e) m)

  -- dependencies of what is below are below
  pub below_deps : (h g : ℕ) → below t l h ≡ true → member g (deps t h) ≡ true → below t l g ≡ true
  unfolding below_row
  below_deps h g b m =
      let d = dependency t good h g m in
      let less : d.row < length t = omega (arith, d.less, d.inside) in
      let at : row_number t g ≡ d.row = ap (row_number t) (sym d.is) ∙ number_of_row t good d.row less in
      below_row_lem g (deps_held t good h g m)
      ∙ rw at
      (reach_closed (length t) (λ k. member (hash_of t k) l) (λ k j. member j (deps_of t k)) (row_number t h) d.row d.inside less
      (sym (below_row_lem h (below_held h b)) ∙ b)
      d.there)

  -- what holds of L's known hashes and passes to dependencies holds of all below
  pub below_least : (P : ℕ → Type 0)
      → ((h : ℕ) → held t h ≡ true → member h l ≡ true → P h)
      → ((h g : ℕ) → held t h ≡ true → P h → member g (deps t h) ≡ true → P g)
      → (h : ℕ) → below t l h ≡ true → P h
  unfolding below_row
  below_least P base step h b =
      let e = below_held h b in
      subst P (hash_of_held t h e)
      (reach_least (length t) (λ k. member (hash_of t k) l) (λ k j. member j (deps_of t k))
      (λ i. P (hash_of t i))
      (λ i f m. base (hash_of t i) (held_row t i f) m)
      (λ k i f u q m. step (hash_of t k) (hash_of t i) (held_row t k f) q (deps_of_hash t good k i f m))
      (row_number t h)
      (row_of_held t h e)
      (sym (below_row_lem h e) ∙ b))

  -- ancestors of a closed part stay in it
  pub below_stays : (part : ℕ → Bool)
      → ((h : ℕ) → held t h ≡ true → member h l ≡ true → part h ≡ true)
      → ((h g : ℕ) → held t h ≡ true → part h ≡ true → member g (deps t h) ≡ true → part g ≡ true)
      → (h : ℕ) → below t l h ≡ true → part h ≡ true
  below_stays part = below_least (λ (h : ℕ). part h ≡ true)

  -- ---- beyond

  -- the rows that aren't below
  pub beyond_rows : (h : ℕ) → member h (beyond t l) ≡ (held t h && not (below t l h))
  unfolding beyond
  beyond_rows h =
      rows_where_lem t good (λ i. not (below_row t l i)) h
      ∙ split (held t h) (λ e. rw (e, below_row_lem h e)) (λ e. rw e)

  pub beyond_held : (h : ℕ) → member h (beyond t l) ≡ true → held t h ≡ true
  beyond_held h m = (both (held t h) (not (below t l h)) (sym (beyond_rows h) ∙ m)).0

  pub beyond_not_below : (h : ℕ) → member h (beyond t l) ≡ true → below t l h ≡ false
  beyond_not_below h m = not-true (below t l h) (both (held t h) (not (below t l h)) (sym (beyond_rows h) ∙ m)).1

  pub not_below_beyond : (h : ℕ) → held t h ≡ true → below t l h ≡ false → member h (beyond t l) ≡ true
  not_below_beyond h e b = beyond_rows h ∙ rw (e, b)

  -- a row that depends on one beyond L is beyond L
  pub beyond_upward : (h g : ℕ) → member g (deps t h) ≡ true → member g (beyond t l) ≡ true → member h (beyond t l) ≡ true
  beyond_upward h g m b =
      split (below t l h)
      (λ e. absurd (true_false (below t l g) (below_deps h g e m) (beyond_not_below g b)))
      (λ e. not_below_beyond h (only_rows t good h g m) e)

-- hashes of rows being hashes, so are those beyond, and no more than the rows
pub beyond_hashes : (t : List Row) (l : List ℕ) → AreHashes (rows t) → AreHashes (beyond t l)
unfolding beyond
beyond_hashes t l a = chosen_hashes t (λ i. not (below_row t l i)) a

pub beyond_few : (t : List Row) (l : List ℕ) → length (beyond t l) ≤ length t
unfolding beyond
beyond_few t l = rows_most t (λ i. not (below_row t l i))
