-- The marked rows of a table one after the other: none stands before the next one, so adding its hash leaves those behind it to be added.
use Prim.Native.Nat.{ℕ, zero, suc, ◌+◌, ◌-◌, ◌*◌, ◌≤◌, ◌<◌}
use mathlib.Core.Bool.{Bool, true, false}
use mathlib.Core.List.{List, ◌∷◌}
use mathlib.Core.Path.{◌≡◌, sym, ap, ◌∙◌}
use native.Mathlib.Nat.{add-zero}
use native.Mathlib.Omega.{arith}
use lib.ListN.{length, get_or}
use Rattle.table_graph.specs.Internal.Marks.{marked, picked}
use Rattle.table_graph.proofs.GraphMarks.{many_rows}
use Rattle.table_graph.proofs.MarkedRows.{row_taken, row_passed, rows_none}
use Rattle.table_graph.proofs.PickLaws.{pick_left, left_all, picked_count}
use Rattle.bloom_probe.specs.Build.{add_hash, add_hashes}
use Rattle.rules.specs.Hash.{hash_at}
use Rattle.table.specs.TableBytes.{row_size, rows_at}
use Rattle.table.specs.Table.{rows}
use Rattle.plan_put.specs.Internal.PlanPut.{NextMarked}

module _ (s : List ℕ) (n : ℕ) (m : List Bool) where
  abbrev hs : List ℕ
  hs = rows (rows_at s 0 n)

  left_behind : (d i : ℕ) → i + d ≤ n → ((k : ℕ) → i ≤ k → k < i + d → get_or m k false ≡ false) → pick_left hs m i ≡ pick_left hs m (i + d)
  left_behind zero i h f = rw add-zero
  left_behind (suc d) i h f =
      let e : i + suc d ≡ (i + 1) + d = omega arith in
      row_passed s n m i (omega arith) (f i (omega arith) (omega arith))
      ∙ rw e (left_behind d (i + 1) (omega arith) (λ k a b. f k (omega arith) (omega arith)))

  -- the marked rows from a row on are those from the next marked one on
  left_next : (i r : ℕ) → NextMarked n m i r → pick_left hs m i ≡ pick_left hs m r
  left_next i r next =
      let e : i + (r - i) ≡ r = omega (arith, next.from) in
      let rest = left_behind (r - i) i (omega (arith, next.upto)) (λ k a b. next.passed k a (omega (arith, e))) in
      rw e at rest

  -- all of them, from the first one on
  pub first_rest : (p r : ℕ) (field : List ℕ) → NextMarked n m 0 r → add_hashes p field (pick_left hs m r) ≡ add_hashes p field (picked hs m)
  first_rest p r field next = ap (add_hashes p field) (sym (left_next 0 r next) ∙ left_all hs m)

  pub first_few : (r room : ℕ) → marked n m ≤ room → NextMarked n m 0 r → length (pick_left hs m r) ≤ room
  first_few r room h next =
      let e : length (pick_left hs m r) ≡ length (picked hs m) = ap length (sym (left_next 0 r next) ∙ left_all hs m) in
      omega (arith, e, picked_count hs m n (many_rows s n))

  -- one of them, and those from the next one on
  module _ (row r : ℕ) (less : row < n) (is : get_or m row false ≡ true) (next : NextMarked n m (row + 1) r) where
    row_next : pick_left hs m row ≡ hash_at s (row * row_size) ∷ pick_left hs m r
    row_next = row_taken s n m row less is ∙ rw (left_next (row + 1) r next)

    pub next_rest : (p : ℕ) (field more : List ℕ) → more ≡ add_hash p field (hash_at s (row * row_size))
        → add_hashes p more (pick_left hs m r) ≡ add_hashes p field (pick_left hs m row)
    unfolding add_hashes
    next_rest p field more e = rw (row_next, e)

    pub next_few : (room : ℕ) → length (pick_left hs m row) ≤ room → length (pick_left hs m r) ≤ room
    next_few room h = let e = ap length row_next in omega (arith, e)

  -- a row that is left wants a bit
  pub some_room : (row room : ℕ) → row < n → get_or m row false ≡ true → length (pick_left hs m row) ≤ room → 0 < room
  some_room row room less is h = let e = ap length (row_taken s n m row less is) in omega (arith, e)

  pub none_left : (p row : ℕ) (field : List ℕ) → n ≤ row → field ≡ add_hashes p field (pick_left hs m row)
  unfolding add_hashes
  none_left p row field h = rw (rows_none s n m row h)
