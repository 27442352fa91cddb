-- The members of S as the code finds them: the rows of all last-sync lists, marked list by list, and one pass upward. A row's dependencies have
-- smaller numbers, so when its turn comes their marks are final, and the equation of what is reached says whether it joins.
use Prim.Native.Nat.{ℕ, suc, ◌+◌, ◌-◌, ◌*◌, ◌≤◌, ◌<◌}
use mathlib.Core.Bool.{Bool, true, false, not, ◌||◌, ◌&&◌}
use mathlib.Core.List.{List, [], ◌∷◌}
use mathlib.Core.Path.{◌≡◌, refl, sym, ap, ◌∙◌}
use native.Mathlib.Numerals.{add-one}
use native.Mathlib.Omega.{arith}
use borrow.Author.Tests.{eqb-true, eq-eqb}
use lib.Dec.{eqb}
use lib.ListN.{length, get_or, set, drop}
use Rattle.bloom.proofs.HaveLaws.{filters_of_haves}
use Rattle.bloom.specs.Have.{Have, have_count, sync_place, sync_count, have_in, haves_from, haves_of, filters_of}
use Rattle.table_graph.proofs.MarkLaws.{or_assoc, or_false, numbers_more, numbers_none}
use Rattle.table_graph.proofs.TurnLaws.{Turned, turn_set, turn_done}
use Rattle.table_graph.specs.Graph.{below_row}
use Rattle.table_graph.specs.Internal.Marks.{Marks}
use Rattle.hash_order.proofs.OrderLaws.{member_append}
use Rattle.hash_order.proofs.ReachLaws.{some_below_lem, some_witness, reach_equation}
use Rattle.hash_order.specs.Order.{member}
use Rattle.hash_order.specs.Reach.{some_below, reach}
use Rattle.bloom_probe.specs.Contains.{any_contains}
use Rattle.rules.proofs.Cases.{both, true_false, same_truth, either, or_left, or_right, and_true}
use Rattle.rules.specs.Hash.{hash_at, hashes_at}
use Rattle.rules.specs.LittleEndian.{u16_at}
use Rattle.table.proofs.GoodLaws.{good_down}
use Rattle.table.proofs.TableLaws.{length_rows_at, deps_of_row, hash_of_row, number_place}
use Rattle.table.specs.TableBytes.{row_size, dep_count, used_at, rows_at, GoodRows}
use Rattle.table.specs.Table.{Row, hash_of, deps_of}
use Rattle.send_members.specs.Internal.Members.{last_syncs, filters, candidate, missed, in_the_s, some_of}

-- ---- numbers of a list that are some of p

pub some_of_lem : (p : ℕ → Bool) (l : List ℕ) (k : ℕ) → member k l ≡ true → p k ≡ true → some_of p l ≡ true
unfolding some_of member
some_of_lem p [] k m e = absurd (true_false false m refl)
some_of_lem p (x ∷ xs) k m e =
    either (eqb k x) (member k xs) m
    (λ q. or_left (p x) (some_of p xs) (sym (ap p (eqb-true k x q)) ∙ e))
    (λ q. or_right (p x) (some_of p xs) (some_of_lem p xs k q e))

pub some_of_is : (p : ℕ → Bool) (l : List ℕ) → some_of p l ≡ true → record { k : ℕ; there : member k l ≡ true; is : p k ≡ true }
unfolding some_of member
some_of_is p [] e = absurd (true_false false e refl)
some_of_is p (x ∷ xs) e =
    either (p x) (some_of p xs) e
    (λ q. record { k = x; there = or_left (eqb x x) (member x xs) (eq-eqb x x refl); is = q })
    (λ q.
    let w = some_of_is p xs q in
    record { k = w.k; there = or_right (eqb w.k x) (member w.k xs) w.there; is = w.is })

some_of_same : (p q : ℕ → Bool) (l : List ℕ) → ((k : ℕ) → member k l ≡ true → p k ≡ q k) → some_of p l ≡ some_of q l
some_of_same p q l f =
    same_truth (some_of p l) (some_of q l)
    (λ e. let w = some_of_is p l e in some_of_lem q l w.k w.there (sym (f w.k w.there) ∙ w.is))
    (λ e. let w = some_of_is q l e in some_of_lem p l w.k w.there (f w.k w.there ∙ w.is))

-- over a row's numbers, from the j-th on
pub numbers_from : List ℕ → ℕ → (ℕ → Bool) → ℕ → Bool
numbers_from s i p j = some_of p (drop j (used_at s i))

module _ (s : List ℕ) (i count : ℕ) (p : ℕ → Bool) (c : count ≡ dep_count s i) where
  pub numbers_start : numbers_from s i p 0 ≡ some_of p (used_at s i)
  unfolding numbers_from
  numbers_start = refl

  module _ (j k : ℕ) (inside : j < count) (read : k ≡ u16_at s (number_place i j)) where
    pub numbers_found : p k ≡ true → numbers_from s i p j ≡ true
    unfolding numbers_from some_of
    numbers_found e = rw (numbers_more s i count c j k inside read, e)

    pub numbers_on : p k ≡ false → numbers_from s i p j ≡ numbers_from s i p (j + 1)
    unfolding numbers_from some_of
    numbers_on e = rw (numbers_more s i count c j k inside read, e)

  pub numbers_done : (j : ℕ) → count ≤ j → numbers_from s i p j ≡ false
  unfolding numbers_from some_of
  numbers_done j h = rw (numbers_none s i count c j h)

-- ---- the last-sync hashes of all haves, list by list

module _ (s haves : List ℕ) (total : ℕ) where
  -- those of the haves from record i on
  pub syncs_from : ℕ → List ℕ
  syncs_from i = last_syncs (haves_from s haves i (total - i))

  pub syncs_start : total ≡ have_count haves → (h : ℕ) (a : Bool) → a ≡ false → (a || member h (syncs_from 0)) ≡ member h (last_syncs (haves_of s haves))
  unfolding syncs_from haves_of
  syncs_start e h a none =
      let d : total - 0 ≡ total = omega arith in
      rw (none, d, e)

  pub syncs_on : (i h place count : ℕ) (a b : Bool) → i < total → place ≡ sync_place haves i → count ≡ sync_count haves i
      → b ≡ (a || member h (hashes_at s place count))
      → (b || member h (syncs_from (i + 1))) ≡ (a || member h (syncs_from i))
  unfolding syncs_from haves_from have_in last_syncs
  syncs_on i h place count a b l p c e =
      let d : total - i ≡ suc (total - (i + 1)) = omega arith in
      rw (e, p, c, d, add-one i, member_append) (or_assoc a _ _)

  pub syncs_done : (i h : ℕ) (a : Bool) → total ≤ i → (a || member h (syncs_from i)) ≡ a
  unfolding syncs_from haves_from last_syncs member
  syncs_done i h a l =
      let d : total - i ≡ 0 = omega arith in
      rw d (or_false a)

-- ---- the equation of S

or_and : (c x y : Bool) → ((c && x) || (c && y)) ≡ (c && (y || x))
or_and true true true = refl
or_and true true false = refl
or_and true false true = refl
or_and true false false = refl
or_and false x y = refl

some_step : (n : ℕ) (p : ℕ → Bool) (c : Bool) (l : List ℕ) → ((k : ℕ) → member k l ≡ true → k < n)
    → some_below n (λ k. p k && (c && member k l)) ≡ (c && some_of p l)
some_step n p c l f =
    same_truth (some_below n (λ k. p k && (c && member k l))) (c && some_of p l)
    (λ e.
    let w = some_witness n (λ k. p k && (c && member k l)) e in
    let a = both (p w.k) (c && member w.k l) w.is in
    let b = both c (member w.k l) a.1 in
    and_true c (some_of p l) b.0 (some_of_lem p l w.k b.1 a.0))
    (λ e.
    let b = both c (some_of p l) e in
    let w = some_of_is p l b.1 in
    some_below_lem n (λ k. p k && (c && member k l)) w.k (f w.k w.there)
    (and_true (p w.k) (c && member w.k l) w.is (and_true c (member w.k l) b.0 w.there)))

-- a row is a member if it is a candidate and depends on a member or is missed by all filters
pub s_equation : (t : List Row) (haves : List Have)
    → ((i k : ℕ) → i < length t → member k (deps_of t i) ≡ true → k < i)
    → (i : ℕ) → i < length t
    → in_the_s t haves i ≡ (candidate t haves i && (some_of (in_the_s t haves) (deps_of t i) || not (any_contains (filters haves) (hash_of t i))))
unfolding in_the_s missed
s_equation t haves down i h =
    let to : ℕ → ℕ → Bool = λ k j. candidate t haves j && member k (deps_of t j) in
    let base : Bool = candidate t haves i && not (any_contains (filters haves) (hash_of t i)) in
    let known : ℕ → Bool = reach (length t) (missed t haves) to in
    reach_equation (length t) (missed t haves) to i h
    ∙ ap (λ (b : Bool). base || b)
    (some_step (length t) known (candidate t haves i) (deps_of t i) (λ k m. let l = down i k h m in omega arith))
    ∙ or_and (candidate t haves i) (not (any_contains (filters haves) (hash_of t i))) (some_of known (deps_of t i))

-- ---- the pass upward

pub member_at : List Row → List Have → ℕ → Bool → Bool
member_at t haves k b = in_the_s t haves k

module _ (table s haves : List ℕ) (n : ℕ) (g : GoodRows table n) where
  abbrev t : List Row
  t = rows_at table 0 n

  abbrev hv : List Have
  hv = haves_of s haves

  down_rows : (i k : ℕ) → i < length t → member k (deps_of t i) ≡ true → k < i
  down_rows i k h m =
      let l : i < n = rw (length_rows_at table 0 n) at h in
      good_down table n g i k l (rw (deps_of_row table n i l) at m)

  joined : (i : ℕ) → i < n → (synced next : List Bool) (here : Bool) → Marks n synced (below_row t (last_syncs hv))
      → ((k : ℕ) → k < i → get_or next k false ≡ in_the_s t hv k)
      → here ≡ (not (get_or synced i false) && (some_of (λ k. get_or next k false) (used_at table i) || not (any_contains (filters_of s haves) (hash_at table (i * row_size)))))
      → here ≡ in_the_s t hv i
  unfolding candidate filters
  joined i h synced next here marks before e =
      let l : i < length t = rw (length_rows_at table 0 n) h in
      let same : some_of (λ k. get_or next k false) (used_at table i) ≡ some_of (in_the_s t hv) (deps_of t i) =
      ap (some_of (λ k. get_or next k false)) (sym (deps_of_row table n i h))
      ∙ some_of_same (λ k. get_or next k false) (in_the_s t hv) (deps_of t i) (λ k m. before k (down_rows i k l m)) in
      e
      ∙ rw (marks.each i h, same, ← filters_of_haves s haves, ← hash_of_row table n i h)
      (sym (s_equation t hv down_rows i l))

  -- the marks before row i are those of members, the others are as they were
  pub joins_on : (i : ℕ) → i < n → (synced old next : List Bool) (here : Bool) → i < length next → Marks n synced (below_row t (last_syncs hv))
      → Turned (member_at t hv) i old next
      → here ≡ (not (get_or synced i false) && (some_of (λ k. get_or next k false) (used_at table i) || not (any_contains (filters_of s haves) (hash_at table (i * row_size)))))
      → Turned (member_at t hv) (i + 1) old (set next i here)
  unfolding member_at
  joins_on i h synced old next here l marks w e = turn_set (member_at t hv) i old next w here l (joined i h synced next here marks (λ k f. w.done k f) e)

  pub joins_done : (i : ℕ) → n ≤ i → (old next : List Bool) → Turned (member_at t hv) i old next → Marks n next (in_the_s t hv)
  unfolding member_at
  joins_done i h old next w = turn_done (member_at t hv) i old next w n h
