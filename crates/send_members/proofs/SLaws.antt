-- What S is, by hash and for any good table, so that callers open none of the_s, in_the_s, missed and candidate.
use Prim.Native.Nat.{ℕ, ◌≤◌, ◌<◌}
use mathlib.Core.Bool.{true, false, not, ◌||◌, ◌&&◌}
use mathlib.Core.List.{List, [], ◌∷◌, append-nil}
use mathlib.Core.Path.{◌≡◌, refl, sym, ap, subst, ◌∙◌}
use native.Mathlib.Omega.{arith}
use borrow.Author.Tests.{not-true}
use lib.ListN.{length}
use Rattle.bloom.specs.Have.{Have}
use Rattle.table_graph.proofs.BelowLaws.{below_row_lem, below_deps, dependency, only_rows, deps_of_hash}
use Rattle.table_graph.proofs.PickLaws.{rows_where_lem, rows_once, rows_most, chosen_hashes}
use Rattle.table_graph.specs.Graph.{below}
use Rattle.hash_order.proofs.KeepLaws.{no_members}
use Rattle.hash_order.proofs.ReachLaws.{reach_least}
use Rattle.hash_order.specs.Order.{member, Once}
use Rattle.bloom_probe.specs.Contains.{any_contains}
use Rattle.rules.proofs.Cases.{split, both, true_false, or_left, or_right, and_true}
use Rattle.rules.specs.Hash.{AreHashes}
use Rattle.table.proofs.TableLaws.{number_of_row, held_row, row_of_held, hash_of_held}
use Rattle.table.specs.Table.{Row, GoodTable, rows, hash_of, deps_of, row_number, held, deps}
use Rattle.send_members.specs.Internal.Members.{last_syncs, filters, candidate, missed, in_the_s, the_s, some_of}
use Rattle.send_members.proofs.MemberLaws.{s_equation, some_of_lem}

-- ---- one have

pub last_syncs_one : (h : Have) → last_syncs (h ∷ []) ≡ h.last_sync
unfolding last_syncs
last_syncs_one h = append-nil h.last_sync

pub filters_one : (h : Have) → filters (h ∷ []) ≡ h.filter ∷ []
unfolding filters
filters_one h = refl

-- ---- as a list

-- hashes of rows being hashes, so are those of S, and no more than the rows
pub s_hashes : (t : List Row) (haves : List Have) → AreHashes (rows t) → AreHashes (the_s t haves)
unfolding the_s
s_hashes t haves a = chosen_hashes t (in_the_s t haves) a

pub s_few : (t : List Row) (haves : List Have) → length (the_s t haves) ≤ length t
unfolding the_s
s_few t haves = rows_most t (in_the_s t haves)

-- ---- by hash

module _ (t : List Row) (good : GoodTable t) (haves : List Have) where
  -- a row of S: held, and a member by its number
  pub s_rows : (h : ℕ) → member h (the_s t haves) ≡ (held t h && in_the_s t haves (row_number t h))
  unfolding the_s
  s_rows h = rows_where_lem t good (in_the_s t haves) h

  pub s_held : (h : ℕ) → member h (the_s t haves) ≡ true → held t h ≡ true
  s_held h m = (both (held t h) (in_the_s t haves (row_number t h)) (sym (s_rows h) ∙ m)).0

  pub s_row : (h : ℕ) → member h (the_s t haves) ≡ true → in_the_s t haves (row_number t h) ≡ true
  s_row h m = (both (held t h) (in_the_s t haves (row_number t h)) (sym (s_rows h) ∙ m)).1

  pub s_once : Once (the_s t haves)
  unfolding the_s
  s_once = rows_once t good (in_the_s t haves)

  -- the equation of each row, by row number
  pub s_equation_of : (i : ℕ) → i < length t
      → in_the_s t haves i ≡ (candidate t haves i && (some_of (in_the_s t haves) (deps_of t i) || not (any_contains (filters haves) (hash_of t i))))
  s_equation_of i h = s_equation t haves good.down i h

  -- candidates by hash: rows beyond all last-sync hashes
  pub candidate_row : (h : ℕ) → held t h ≡ true → candidate t haves (row_number t h) ≡ not (below t (last_syncs haves) h)
  unfolding candidate
  candidate_row h e = ap not (sym (below_row_lem t good (last_syncs haves) h e))

  pub s_candidate_row : (i : ℕ) → i < length t → in_the_s t haves i ≡ true → candidate t haves i ≡ true
  s_candidate_row i h e = (both (candidate t haves i) _ (sym (s_equation_of i h) ∙ e)).0

  -- members of S are candidates
  pub s_beyond : (h : ℕ) → member h (the_s t haves) ≡ true → below t (last_syncs haves) h ≡ false
  s_beyond h m =
      not-true (below t (last_syncs haves) h)
      (sym (candidate_row h (s_held h m)) ∙ s_candidate_row (row_number t h) (row_of_held t h (s_held h m)) (s_row h m))

  -- a candidate that every filter misses is a member
  pub s_missed : (h : ℕ) → held t h ≡ true → below t (last_syncs haves) h ≡ false → any_contains (filters haves) h ≡ false
      → member h (the_s t haves) ≡ true
  s_missed h e b f =
      let less = row_of_held t h e in
      let c : candidate t haves (row_number t h) ≡ true = candidate_row h e ∙ rw b in
      let none : not (any_contains (filters haves) (hash_of t (row_number t h))) ≡ true = rw (hash_of_held t h e, f) in
      s_rows h
      ∙ and_true (held t h) (in_the_s t haves (row_number t h)) e
      (s_equation_of (row_number t h) less ∙ and_true _ _ c (or_right (some_of (in_the_s t haves) (deps_of t (row_number t h))) _ none))

  -- a row that depends on a candidate is one
  pub candidate_upward : (h g : ℕ) → member g (deps t h) ≡ true → below t (last_syncs haves) g ≡ false → below t (last_syncs haves) h ≡ false
  candidate_upward h g m b =
      split (below t (last_syncs haves) h)
      (λ e. absurd (true_false (below t (last_syncs haves) g) (below_deps t good (last_syncs haves) h g e m) b))
      (λ e. e)

  -- S is closed: a row that depends on a member is a member
  pub s_closed : (h g : ℕ) → member g (deps t h) ≡ true → member g (the_s t haves) ≡ true → member h (the_s t haves) ≡ true
  s_closed h g m s =
      let d = dependency t good h g m in
      let e = only_rows t good h g m in
      let less : d.row < length t = omega (arith, d.less, d.inside) in
      let at : row_number t g ≡ d.row = ap (row_number t) (sym d.is) ∙ number_of_row t good d.row less in
      let in' : in_the_s t haves d.row ≡ true = rw at at (s_row g s) in
      let c : candidate t haves (row_number t h) ≡ true = candidate_row h e ∙ rw (candidate_upward h g m (s_beyond g s)) in
      s_rows h
      ∙ and_true (held t h) (in_the_s t haves (row_number t h)) e
      (s_equation_of (row_number t h) d.inside
      ∙ and_true _ _ c (or_left _ _ (some_of_lem (in_the_s t haves) (deps_of t (row_number t h)) d.row d.there in')))

  -- S is least, by row number: what holds of missed candidates and passes to candidates that depend on it holds of every member
  pub s_least_row : (P : ℕ → Type 0)
      → ((i : ℕ) → i < length t → missed t haves i ≡ true → P i)
      → ((k i : ℕ) → k < length t → i < length t → P k → candidate t haves i ≡ true → member k (deps_of t i) ≡ true → P i)
      → (i : ℕ) → i < length t → in_the_s t haves i ≡ true → P i
  unfolding in_the_s
  s_least_row P base step i h e =
      reach_least (length t) (missed t haves) (λ k j. candidate t haves j && member k (deps_of t j)) P base
      (λ k j f g q m. let b = both (candidate t haves j) (member k (deps_of t j)) m in step k j f g q b.0 b.1)
      i h e

  -- and by hash
  pub s_least : (P : ℕ → Type 0)
      → ((h : ℕ) → held t h ≡ true → below t (last_syncs haves) h ≡ false → any_contains (filters haves) h ≡ false → P h)
      → ((h g : ℕ) → held t h ≡ true → below t (last_syncs haves) h ≡ false → member g (deps t h) ≡ true → P g → P h)
      → (h : ℕ) → member h (the_s t haves) ≡ true → P h
  unfolding missed
  s_least P base step h m =
      let e = s_held h m in
      subst P (hash_of_held t h e)
      (s_least_row (λ i. P (hash_of t i))
      (λ i f q.
      let b = both (candidate t haves i) (not (any_contains (filters haves) (hash_of t i))) q in
      base (hash_of t i) (held_row t i f) (outside i f b.0) (not-true _ b.1))
      (λ k i f g q c d. step (hash_of t i) (hash_of t k) (held_row t i g) (outside i g c) (deps_of_hash t good i k g d) q)
      (row_number t h)
      (row_of_held t h e)
      (s_row h m))
    where
      outside : (i : ℕ) → i < length t → candidate t haves i ≡ true → below t (last_syncs haves) (hash_of t i) ≡ false
      outside i f c =
          not-true (below t (last_syncs haves) (hash_of t i))
          (sym (candidate_row (hash_of t i) (held_row t i f)) ∙ rw (number_of_row t good i f) c)

  -- where every candidate is in some filter, S is empty
  pub s_empty : ((h : ℕ) → held t h ≡ true → below t (last_syncs haves) h ≡ false → any_contains (filters haves) h ≡ true) → the_s t haves ≡ []
  s_empty f =
      no_members (the_s t haves)
      (λ h m. s_least (λ x. ⊥) (λ g e b c. true_false (any_contains (filters haves) g) (f g e b) c) (λ g k e b d p. p) h m)
