-- One walk along two indexes. Hashes ascend along both, so the place of the next of the one in the other isn't before that of the last; and what stands at
-- its place tells whether a hash is held.
use Prim.Native.Nat.{ℕ, ◌+◌, ◌*◌, ◌≤◌, ◌<◌}
use mathlib.Core.Bool.{Bool, true, false}
use mathlib.Core.List.{List, [], ◌∷◌, map}
use mathlib.Core.Path.{◌≡◌, refl, sym, ap, ◌∙◌}
use native.Mathlib.Omega.{arith}
use borrow.Author.Tests.{ltb-true, ltb-false, lt-ltb, eqb-true, eqb-false}
use lib.Dec.{ltb, eqb}
use lib.ListN.{length, get_or, set, length-map}
use lib.Seq.{get_or-set_same, get_or-set_other}
use Rattle.hash_order.proofs.OrderLaws.{ascends_index, member_index}
use Rattle.hash_order.specs.Order.{place_of}
use Rattle.rules.proofs.Cases.{split}
use Rattle.rules.specs.Hash.{hash_at}
use Rattle.rules.specs.LittleEndian.{u16_at}
use Rattle.rules.specs.Sizes.{sizes}
use Rattle.table.proofs.TableLaws.{length_rows, length_rows_at, hash_of_row, member_of_index, unknown_of_index}
use Rattle.table.specs.Table.{rows, held, hash_of, index_in}
use Rattle.table.specs.TableBytes.{u16s_at, rows_at, row_size}
use Rattle.table_graph.specs.Internal.Marks.{Marks}
use Rattle.table_index.proofs.ByteLaws.{length_u16s, entry}
use Rattle.table_index.proofs.HalveLaws.{record-inside, rows_are_records, fit_records, look_ordered, look_end, look_here, look_other, entry_below, halve_up, halve_down, halve_most}
use Rattle.table_index.proofs.IndexLaws.{FittingNumbers, fits_has, each_named}
use Rattle.table_index.proofs.ListLaws.{map_index}
use Rattle.table_index.specs.Index.{Indexed, Ordered, hashes_from, record_hash}
use Rattle.counts.specs.Internal.Walked.{hashes_along}

-- a greater hash isn't placed before
place_later : (l : List ℕ) (x y : ℕ) → x ≤ y → place_of x l ≤ place_of y l
unfolding place_of
place_later [] x y h = omega arith
place_later (z ∷ zs) x y h =
    split (ltb z x)
    (λ e. rw (e, lt-ltb z y (omega (arith, ltb-true z x e))) (omega (arith, place_later zs x y h)))
    (λ e. rw e (omega arith))

module _ (s x : List ℕ) (n : ℕ) (good : Indexed s x n) where
  along : FittingNumbers (record_hash s row_size) n (u16s_at x 0 n)
  along = fits_has (record_hash s row_size) n (u16s_at x 0 n) (fit_records s x n good.fit)

  ordered : Ordered (record_hash s row_size) n (u16s_at x 0 n)
  ordered = look_ordered (record_hash s row_size) x n (fit_records s x n good.fit)

  -- the row that an entry names, whose hash stands in the table
  pub names_row : (k r : ℕ) → k < n → r ≡ u16_at x (2 * k) → r < n
  names_row k r b e = entry_below (record_hash s row_size) x n ordered k r b e

  pub row_stands : (k r : ℕ) → k < n → r ≡ u16_at x (2 * k) → r * row_size + sizes.hash ≤ length s
  row_stands k r b e = record-inside r n row_size (length s) (names_row k r b e) good.rows.inside (omega arith)

  -- ---- a place that is walked on to

  module _ (h : ℕ) where
    pub place_most : place_of h (hashes_along s x n) ≤ n
    place_most = halve_most (record_hash s row_size) x n h

    module _ (k r : ℕ) (inside : k < n) (read : r ≡ u16_at x (2 * k)) where
      pub walked_on : ltb (record_hash s row_size r) h ≡ true → k + 1 ≤ place_of h (hashes_along s x n)
      walked_on e = halve_up (record_hash s row_size) x n ordered k r inside read h e

      pub walked_up : ltb (record_hash s row_size r) h ≡ false → place_of h (hashes_along s x n) ≤ k
      walked_up e = halve_down (record_hash s row_size) x n ordered k r inside read h e

    -- ---- what stands there

    found_held : (i : ℕ) → i < n → i ≡ index_in (hashes_from (record_hash s row_size) 0 n) h → held (rows_at s 0 n) h ≡ true
    unfolding held
    found_held i b e =
        member_of_index (rows (rows_at s 0 n)) h
        (rw (length_rows (rows_at s 0 n), length_rows_at s 0 n, rows_are_records s n, ← e) b)

    none_held : n ≡ index_in (hashes_from (record_hash s row_size) 0 n) h → held (rows_at s 0 n) h ≡ false
    unfolding held
    none_held e =
        unknown_of_index (rows (rows_at s 0 n)) h
        (rw (length_rows (rows_at s 0 n), length_rows_at s 0 n, rows_are_records s n) (sym e))

    module _ (k : ℕ) (place : k ≡ place_of h (hashes_along s x n)) where
      pub held_past : n ≤ k → false ≡ held (rows_at s 0 n) h
      held_past b = sym (none_held (look_end (record_hash s row_size) x n (fit_records s x n good.fit) h k place b))

      pub held_there : (r : ℕ) → k < n → r ≡ u16_at x (2 * k) → eqb (record_hash s row_size r) h ≡ held (rows_at s 0 n) h
      held_there r b e =
          let fit = fit_records s x n good.fit in
          split (eqb (record_hash s row_size r) h)
          (λ t. t ∙ sym (found_held r (names_row k r b e) (look_here (record_hash s row_size) x n fit h k place r b e (eqb-true _ _ t))))
          (λ t. t ∙ sym (none_held (look_other (record_hash s row_size) x n fit h k place r b e (eqb-false _ _ t))))

  -- ---- the rows along an index

  -- hashes ascend along it
  pub later_greater : (i j p q : ℕ) → i < j → j < n → p ≡ u16_at x (2 * i) → q ≡ u16_at x (2 * j) → record_hash s row_size p ≤ record_hash s row_size q
  later_greater i j p q b c d e =
      let f = record_hash s row_size in
      let l = u16s_at x 0 n in
      let long : length l ≡ n = length_u16s x 0 n in
      let up = ascends_index (map (record_hash s row_size) l) i j along.order b (omega (arith, length-map l f)) in
      let hi : get_or (map (record_hash s row_size) l) i 0 ≡ f p = map_index f l i (omega arith) ∙ ap (record_hash s row_size) (entry x n i (omega arith) ∙ sym d) in
      let hj : get_or (map (record_hash s row_size) l) j 0 ≡ f q = map_index f l j (omega arith) ∙ ap (record_hash s row_size) (entry x n j c ∙ sym e) in
      omega (arith, up, hi, hj)

  -- each row is named
  pub row_comes : (r : ℕ) → r < n → (j : ℕ) × (j < n) × (u16_at x (2 * j) ≡ r)
  row_comes r b =
      let m = member_index r (u16s_at x 0 n) (each_named (record_hash s row_size) n (u16s_at x 0 n) along r b) in
      let inside : m.0 < n = omega (arith, m.1, length_u16s x 0 n) in
      (m.0, inside, sym (entry x n m.0 inside) ∙ m.2)

-- ---- marks

-- Marks of the rows that the first i entries name.
pub record MarkedAlong (x : List ℕ) (i : ℕ) (marks : List Bool) (p : ℕ → Bool) : Type 0 where
  pub each : (j : ℕ) → j < i → get_or marks (u16_at x (2 * j)) false ≡ p (u16_at x (2 * j))

pub marked_none : (x : List ℕ) (marks : List Bool) (p : ℕ → Bool) → MarkedAlong x 0 marks p
marked_none x marks p = record { each = λ j b. absurd (omega arith) }

pub marked_next : (x : List ℕ) (i r : ℕ) (marks : List Bool) (p : ℕ → Bool) (b : Bool) → r ≡ u16_at x (2 * i) → r < length marks → b ≡ p r
    → MarkedAlong x i marks p
    → MarkedAlong x (i + 1) (set marks r b) p
marked_next x i r marks p b read inside is w =
    record {
      each =
          λ j c.
          split (eqb (u16_at x (2 * j)) r)
          (λ e.
          let same : u16_at x (2 * j) ≡ r = eqb-true _ _ e in
          rw same (get_or-set_same marks r b false inside ∙ is))
          (λ e.
          let other = eqb-false (u16_at x (2 * j)) r e in
          let before : j < i =
          split (ltb j i)
          (λ t. ltb-true j i t)
          (λ t. let same : j ≡ i = omega (arith, ltb-false j i t) in absurd (other (ap (λ (y : ℕ). u16_at x (2 * y)) same ∙ sym read)))
          in
          get_or-set_other marks r (u16_at x (2 * j)) b false other ∙ w.each j before);
    }

pub marked_all : (s x : List ℕ) (n : ℕ) → Indexed s x n → (i : ℕ) (marks : List Bool) (p : ℕ → Bool) → n ≤ i
    → MarkedAlong x i marks (λ r. p (hash_at s (r * row_size)))
    → Marks n marks (λ r. p (hash_of (rows_at s 0 n) r))
marked_all s x n good i marks p all w =
    record {
      each =
          λ r b.
          let c = row_comes s x n good r b in
          rw (c.2, ← hash_of_row s n r b) at (w.each c.0 (omega (arith, c.1)));
    }

-- the place of what comes next
pub next_place : (s x : List ℕ) (n : ℕ) → Indexed s x n → (l : List ℕ) (i r k : ℕ) → i < n → r ≡ u16_at x (2 * i) → k ≡ place_of (hash_at s (r * row_size)) l
    → (j : ℕ) → i + 1 ≤ j → j < n
    → k ≤ place_of (hash_at s (u16_at x (2 * j) * row_size)) l
next_place s x n good l i r k b read is j c d =
    rw is (place_later l _ _ (later_greater s x n good i j r (u16_at x (2 * j)) (omega arith) d read refl))
