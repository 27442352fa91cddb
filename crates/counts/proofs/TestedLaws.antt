-- Rows tested one by one, in table order: what is counted of a row and of those behind it is what is counted of all.
use Prim.Native.Nat.{ℕ, suc, ◌+◌, ◌-◌, ◌*◌, ◌≤◌, ◌<◌}
use mathlib.Core.Bool.{Bool, true, false}
use mathlib.Core.List.{List, ◌∷◌}
use mathlib.Core.Path.{◌≡◌, refl, sym, ap, ap₂, ◌∙◌}
use native.Mathlib.Omega.{arith}
use lib.ListN.{length, get_or}
use Rattle.hash_order.specs.Order.{keep}
use Rattle.rules.proofs.Cases.{split}
use Rattle.rules.specs.Hash.{hash_at}
use Rattle.table.proofs.TableLaws.{length_rows, length_rows_at, hash_of_row}
use Rattle.table.specs.Table.{rows, hash_of}
use Rattle.table.specs.TableBytes.{rows_of, row_of, rows_at, row_size}
use Rattle.table_graph.specs.Internal.Marks.{Marks}
use Rattle.counts.specs.Internal.Walked.{tested_next, tested_of, TestedBy}
use Rattle.counts.specs.declared.tested.Tested.{Tested}

made : (a b c d : ℕ) → a ≡ b → c ≡ d → ◌≡◌ {A = Tested} (record { rows = a; contained = c }) (record { rows = b; contained = d })
made a b c d e f = ap₂ (λ (x y : ℕ). record { rows = x; contained = y }) e f

-- ---- a row

module _ (t : Tested) (h c : Bool) where
  pub next_held : h ≡ true → t ≡ tested_next t h c
  unfolding tested_next
  next_held e = rw e (made _ _ _ _ (omega arith) (omega arith))

  pub next_contained : h ≡ false → c ≡ true → record { rows = t.rows + 1; contained = t.contained + 1 } ≡ tested_next t h c
  unfolding tested_next
  next_contained e f = rw (e, f)

  pub next_missed : h ≡ false → c ≡ false → record { rows = t.rows + 1; contained = t.contained } ≡ tested_next t h c
  unfolding tested_next
  next_missed e f = rw (e, f) (made _ _ _ _ refl (omega arith))

  pub next_few : (i : ℕ) → t.rows ≤ i → (tested_next t h c).rows ≤ i + 1
  unfolding tested_next
  next_few i b = split h (λ e. rw e (omega arith)) (λ e. rw e (omega arith))

  pub next_fewer : (i : ℕ) → t.contained ≤ i → (tested_next t h c).contained ≤ i + 1
  unfolding tested_next
  next_fewer i b =
      split h (λ e. rw e (omega arith)) (λ e. split c (λ f. rw (e, f) (omega arith)) (λ f. rw (e, f) (omega arith)))

-- ---- all rows

-- Counts of a part added to those of another.
abbrev plus : Tested → Tested → Tested
plus a b = record { rows = a.rows + b.rows; contained = a.contained + b.contained }

-- a hash before others
first_tested : (p q : ℕ → Bool) (t : Tested) (h : ℕ) (hs : List ℕ)
    → plus t (tested_of p q (h ∷ hs)) ≡ plus (tested_next t (p h) (q h)) (tested_of p q hs)
unfolding tested_next keep
first_tested p q t h hs =
    split (p h)
    (λ e. rw e (made _ _ _ _ (omega arith) (omega arith)))
    (λ e. split (q h) (λ f. rw (e, f) (made _ _ _ _ (omega arith) (omega arith))) (λ f. rw (e, f) (made _ _ _ _ (omega arith) (omega arith))))

-- The rows before row i are counted, and those from it on are left.
pub record Counting (marks : List Bool) (q : ℕ → Bool) (s : List ℕ) (n i : ℕ) (t : Tested) : Type 0 where
  pub rest : (p : ℕ → Bool) → Marks n marks (λ k. p (hash_of (rows_at s 0 n) k))
      → plus t (tested_of p q (rows (rows_at s i (n - i)))) ≡ tested_of p q (rows (rows_at s 0 n))

module _ (marks : List Bool) (q : ℕ → Bool) (s : List ℕ) (n : ℕ) where
  pub counting_starts : Counting marks q s n 0 (record { rows = 0; contained = 0 })
  counting_starts =
      record {
        rest = λ p m. let e : n - 0 ≡ n = omega arith in rw e (made _ _ _ _ (omega arith) (omega arith));
      }

  row_first : (i k : ℕ) → n - i ≡ suc k → rows (rows_at s i (n - i)) ≡ hash_at s (i * row_size) ∷ rows (rows_at s (suc i) k)
  unfolding rows rows_of row_of
  row_first i k e = rw e

  pub counting_on : (i : ℕ) (t : Tested) → i < n → Counting marks q s n i t
      → Counting marks q s n (i + 1) (tested_next t (get_or marks i false) (q (hash_at s (i * row_size))))
  counting_on i t b w =
      record {
        rest =
            λ p m.
            let e : n - i ≡ suc (n - (i + 1)) = omega arith in
            let next : i + 1 ≡ suc i = omega arith in
            let mark : get_or marks i false ≡ p (hash_at s (i * row_size)) = m.each i b ∙ ap p (hash_of_row s n i b) in
            let here : plus t (tested_of p q (hash_at s (i * row_size) ∷ rows (rows_at s (suc i) (n - (i + 1))))) ≡ tested_of p q (rows (rows_at s 0 n)) =
            rw (row_first i (n - (i + 1)) e) at (w.rest p m)
            in
            rw mark (rw (← next) at (sym (first_tested p q t (hash_at s (i * row_size)) (rows (rows_at s (suc i) (n - (i + 1))))) ∙ here));
      }

  pub counting_ends : (i : ℕ) (t : Tested) → i ≤ n → n ≤ i → Counting marks q s n i t → TestedBy marks q (rows (rows_at s 0 n)) t
  unfolding rows rows_of keep hash_of
  counting_ends i t b c w =
      record {
        counted =
            λ p m.
            let e : n - i ≡ 0 = omega arith in
            let long : length (rows (rows_at s 0 n)) ≡ n = length_rows (rows_at s 0 n) ∙ length_rows_at s 0 n in
            made _ _ _ _ (omega arith) (omega arith) ∙ (rw e at (w.rest p (rw long at m)));
      }
