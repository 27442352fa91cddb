-- Rows put as rows of another width: a row by its two parts, and rows one after the other, where each law is one turn or one end of the loop.
use Prim.Native.Nat.{ℕ, zero, suc, ◌+◌, ◌-◌, ◌*◌, ◌≤◌, ◌<◌}
use mathlib.Core.List.{List, ◌++◌}
use mathlib.Core.Path.{◌≡◌, sym, ap, ◌∙◌}
use native.Mathlib.Numerals.{add-one}
use native.Mathlib.Omega.{arith}
use lib.ListN.{length, take, drop, replicate, length-append}
use lib.Seq.{sets, slice}
use Rattle.rules.proofs.Hash.{take_drop, length_slice_of}
use Rattle.rules.proofs.Outputs.{sets_append}
use Rattle.rules.specs.Hash.{Bytes}
use Rattle.rules.specs.Sizes.{sizes}
use Rattle.table.proofs.TableLaws.{length_used_of}
use Rattle.table.proofs.WrittenLaws.{row_as, row_long_lem}
use Rattle.table.specs.TableBytes.{row_size_of, count_of, row_of, rows_of}
use Rattle.table.specs.TableWritten.{row_bytes_of, table_bytes_of}
use Rattle.table_convert.specs.Internal.RowsPut.{Fitting}

-- ---- a row

-- the bytes up to the last number in use, then zeros
pub row_put : (from to : ℕ) (s out next last : List ℕ) (i count start place used : ℕ) → Bytes s → (i + 1) * row_size_of from ≤ length s
    → count ≡ count_of from s i
    → count ≤ from
    → start ≡ i * row_size_of from
    → place ≡ i * row_size_of to
    → used ≡ sizes.hash + 2 + 2 * count
    → next ≡ sets out place (take (start + used - start) (drop start s))
    → last ≡ sets next (place + used) (replicate (2 * (to - count)) 0)
    → last ≡ sets out (i * row_size_of to) (row_bytes_of to (row_of from s i))
row_put from to s out next last i count start place used b l e few p q u first rest =
    let end : i * row_size_of from + used ≡ i * row_size_of from + sizes.hash + 2 + 2 * count = omega arith in
    let part : take (start + used - start) (drop start s) ≡ slice (i * row_size_of from) (i * row_size_of from + used) s =
    rw (let z : start + used - start ≡ used = omega arith in z) (take_drop used start s) ∙ ap (λ (n : ℕ). slice n (n + used) s) p
    in
    let long : length (slice (i * row_size_of from) (i * row_size_of from + used) s) ≡ used =
    length_slice_of used s (i * row_size_of from) (omega arith)
    in
    let copied : next ≡ sets out (i * row_size_of to) (slice (i * row_size_of from) (i * row_size_of from + used) s) = rw (q, part) at first in
    let put : last ≡ sets (sets out (i * row_size_of to) (slice (i * row_size_of from) (i * row_size_of from + used) s)) (i * row_size_of to + used) (replicate (2 * (to - count)) 0) =
    rw (q, copied) at rest
    in
    put
    ∙ ap (λ (n : ℕ). sets (sets out (i * row_size_of to) (slice (i * row_size_of from) (i * row_size_of from + used) s)) (i * row_size_of to + n) (replicate (2 * (to - count)) 0)) (sym long)
    ∙ sets_append (slice (i * row_size_of from) (i * row_size_of from + used) s) (replicate (2 * (to - count)) 0) out (i * row_size_of to)
    ∙ ap (λ (n : ℕ). sets out (i * row_size_of to) (slice (i * row_size_of from) n s ++ replicate (2 * (to - count)) 0)) end
    ∙ ap (sets out (i * row_size_of to)) (sym (row_as from to s i count b l e few))

-- ---- rows

module _ (from to : ℕ) (s : List ℕ) where
  -- a row that fits is as long as a row
  row_size_lem : (i : ℕ) → count_of from s i ≤ to → length (row_bytes_of to (row_of from s i)) ≡ row_size_of to
  unfolding row_of
  row_size_lem i few = row_long_lem to (row_of from s i) (omega (arith, length_used_of from s i))

  -- the buffer with the rows that are left put
  pub rows_left : ℕ → List ℕ → ℕ → List ℕ
  rows_left n out i = sets out (i * row_size_of to) (table_bytes_of to (rows_of from s i (n - i)))

  module _ (n : ℕ) (out : List ℕ) where
    pub rows_start : rows_left n out 0 ≡ sets out 0 (table_bytes_of to (rows_of from s 0 n))
    unfolding rows_left
    rows_start =
        let start : 0 * row_size_of to ≡ 0 = omega arith in
        let all : n - 0 ≡ n = omega arith in
        rw (start, all)

    module _ (i : ℕ) where
      pub rows_more : (next : List ℕ) → i < n → count_of from s i ≤ to → next ≡ sets out (i * row_size_of to) (row_bytes_of to (row_of from s i))
          → rows_left n next (i + 1) ≡ rows_left n out i
      unfolding rows_left rows_of table_bytes_of
      rows_more next h few e =
          let left : n - i ≡ suc (n - (i + 1)) = omega arith in
          let A : List ℕ = row_bytes_of to (row_of from s i) in
          let B : List ℕ = table_bytes_of to (rows_of from s (i + 1) (n - (i + 1))) in
          let place : (i + 1) * row_size_of to ≡ i * row_size_of to + length A = omega (arith, row_size_lem i few) in
          let whole : sets next ((i + 1) * row_size_of to) B ≡ sets out (i * row_size_of to) (A ++ B) =
          rw (e, place) (sets_append A B out (i * row_size_of to))
          in
          rw left (whole ∙ ap (λ (k : ℕ). sets out (i * row_size_of to) (A ++ table_bytes_of to (rows_of from s k (n - (i + 1))))) (add-one i))

      pub rows_all : n ≤ i → out ≡ rows_left n out i
      unfolding rows_left rows_of table_bytes_of
      rows_all h =
          let none : n - i ≡ 0 = omega arith in
          rw none

  -- the bytes of n rows
  rows_long : (n i : ℕ) → ((j : ℕ) → i ≤ j → j < i + n → count_of from s j ≤ to) → length (table_bytes_of to (rows_of from s i n)) ≡ n * row_size_of to
  unfolding rows_of table_bytes_of
  rows_long zero i f = omega arith
  rows_long (suc n) i f =
      length-append (row_bytes_of to (row_of from s i)) (table_bytes_of to (rows_of from s (suc i) n))
      ∙ (let a = row_size_lem i (f i (omega arith) (omega arith)) in
      let b = rows_long n (suc i) (λ j h l. f j (omega arith) (omega arith)) in
      let z : length (row_bytes_of to (row_of from s i)) + length (table_bytes_of to (rows_of from s (suc i) n)) ≡ suc n * row_size_of to = omega arith in
      z)

  pub fit_long : (n size : ℕ) → Fitting from to s n → size ≡ n * row_size_of to → size ≡ length (table_bytes_of to (rows_of from s 0 n))
  fit_long n size fit e = e ∙ sym (rows_long n 0 (λ j h l. fit.narrow j (omega arith)))
