-- What has been checked keeps the one precondition of what computes over it, and so do its first rows: dependencies stand before their row, no
-- hash stands at two rows, and hashes of rows are hashes.
use Prim.Native.Nat.{ℕ, zero, suc, ◌*◌, ◌≤◌, ◌<◌}
use mathlib.Core.Bool.{true}
use mathlib.Core.List.{List}
use mathlib.Core.Path.{◌≡◌, sym, ◌∙◌}
use native.Mathlib.Omega.{arith}
use lib.ListN.{length}
use Rattle.hash_order.proofs.KeepLaws.{once_index}
use Rattle.hash_order.specs.Order.{member}
use Rattle.rules.proofs.Hash.{hash_is_hash}
use Rattle.rules.specs.Hash.{Bytes, AreHashes, hash_at}
use Rattle.rules.specs.Sizes.{sizes}
use Rattle.table.specs.TableBytes.{row_size_of, row_of, rows_of, row_size, used_at, rows_at, table_checked, GoodRows}
use Rattle.table.specs.Table.{rows, hash_of}
use Rattle.table.proofs.ExtendLaws.{good_take}
use Rattle.table.proofs.TableLaws.{table_good, row_has, length_rows, length_rows_at, deps_of_row, hash_of_row, take_rows_at}
use Rattle.std.specs.Prelude.{Ok}

-- an accepted table
pub accepted_rows : (s : List ℕ) (n : ℕ) → table_checked s ≡ Ok n → GoodRows s n
accepted_rows s n e =
    let d = table_good s n e in
    record {
      few = d.few;
      inside = omega (arith, d.whole);
      counts = λ i h. (row_has s i (d.each i h)).count;
      good = rw d.is at d.good;
    }

-- its first rows
pub good_part : (s : List ℕ) (n k : ℕ) → GoodRows s n → k ≤ n → GoodRows s k
good_part s n k g h =
    record {
      few = omega (arith, g.few);
      inside = omega (arith, g.inside);
      counts = λ i l. g.counts i (omega arith);
      good = rw (take_rows_at s 0 k n h) at (good_take k (rows_at s 0 n) g.good);
    }

-- a dependency stands before its row
pub good_down : (s : List ℕ) (n : ℕ) → GoodRows s n → (i k : ℕ) → i < n → member k (used_at s i) ≡ true → k < i
good_down s n g i k h m = g.good.down i k (rw (length_rows_at s 0 n) h) (rw (deps_of_row s n i h) m)

-- no hash stands at two rows
pub good_differ : (s : List ℕ) (n : ℕ) → GoodRows s n → (i j : ℕ) → i < n → j < n → hash_at s (i * row_size) ≡ hash_at s (j * row_size) → i ≡ j
unfolding hash_of
good_differ s n g i j h k e =
    let long : length (rows (rows_at s 0 n)) ≡ n = length_rows (rows_at s 0 n) ∙ length_rows_at s 0 n in
    once_index (rows (rows_at s 0 n)) g.good.once i j (omega arith) (omega arith) (hash_of_row s n i h ∙ e ∙ sym (hash_of_row s n j k))

-- hashes of rows are hashes, and no more than a list may have
pub row_hashes_of : (d : ℕ) (s : List ℕ) (i n : ℕ) → Bytes s → AreHashes (rows (rows_of d s i n))
unfolding AreHashes rows rows_of row_of
row_hashes_of d s i zero b = tt
row_hashes_of d s i (suc n) b = (hash_is_hash s (i * row_size_of d) b, row_hashes_of d s (suc i) n b)

pub rows_hashes : (s : List ℕ) (i n : ℕ) → Bytes s → AreHashes (rows (rows_at s i n))
rows_hashes = row_hashes_of sizes.dependencies

pub rows_few : (s : List ℕ) (n : ℕ) → GoodRows s n → length (rows (rows_at s 0 n)) ≤ sizes.hashes
rows_few s n g =
    let long : length (rows (rows_at s 0 n)) ≡ n = length_rows (rows_at s 0 n) ∙ length_rows_at s 0 n in
    omega (arith, g.few)
