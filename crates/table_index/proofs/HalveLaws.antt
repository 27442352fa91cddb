-- Halving: the place of a hash lies between two numbers, and the entry in the middle tells on which side. Then what is found where entries fit.
use Prim.Native.Nat.{ℕ, zero, suc, ◌+◌, ◌*◌, ◌≤◌, ◌<◌}
use mathlib.Core.Bool.{true, false}
use mathlib.Core.List.{List, map}
use mathlib.Core.Path.{◌≡◌, refl, sym, ap, ◌∙◌}
use native.Mathlib.Nat.{mul-le-mul, add-mul, not-suc-le-zero, add-zero}
use native.Mathlib.Omega.{arith}
use borrow.Author.Tests.{ltb-true, ltb-false}
use lib.Dec.{ltb}
use lib.ListN.{length, get_or, length-map}
use Rattle.hash_order.proofs.KeepLaws.{index_once}
use Rattle.hash_order.proofs.OrderLaws.{place_within, member_index}
use Rattle.hash_order.specs.Order.{member, place_of}
use Rattle.rules.proofs.Cases.{split, true_false}
use Rattle.rules.specs.LittleEndian.{u16_at}
use Rattle.rules.specs.Sizes.{sizes}
use Rattle.table.proofs.TableLaws.{length_rows_at, hash_of_row, index_of_entry, index_of_unknown}
use Rattle.table.specs.TableBytes.{row_size_of, row_of, rows_of, u16s_at, row_size, rows_at}
use Rattle.table.specs.Table.{rows, hash_of, index_in}
use Rattle.table_index.specs.Index.{Ordered, fits, fits_by, hashes_from, record_hash}
use Rattle.table_index.proofs.ByteLaws.{length_u16s, entry}
use Rattle.table_index.proofs.IndexLaws.{FittingNumbers, fits_has, has_fits, each_named, hashes_once}
use Rattle.table_index.proofs.ListLaws.{map_index, map_member, map_same, below_each, below_index, ascends_rises, place_low, place_high, place_unknown}

-- a record's hash stands inside
pub record-inside : (r n size long : ℕ) → r < n → n * size ≤ long → sizes.hash ≤ size → r * size + sizes.hash ≤ long
record-inside r n size long h all wide =
    let wide-one : 1 * size ≡ size = omega arith in
    let next : (r + 1) * size ≡ r * size + 1 * size = add-mul r 1 size in
    let more : (r + 1) * size ≤ n * size = mul-le-mul (omega arith) (omega arith) in
    let last : r * size + size ≤ n * size = rw (next, wide-one) at more in
    omega (arith, last)

pub last_inside : (n size long : ℕ) → (n + 1) * size ≤ long → sizes.hash ≤ size → n * size + sizes.hash ≤ long
last_inside n size long all wide = record-inside n (n + 1) size long (omega arith) all wide

pub fewer_records : (n size long : ℕ) → (n + 1) * size ≤ long → n * size ≤ long
fewer_records n size long all =
    let less : n * size ≤ (n + 1) * size = mul-le-mul (omega arith) (omega arith) in
    omega (arith, less)

-- ---- the hashes of records

module _ (f : ℕ → ℕ) where
  pub length_hashes_from : (i n : ℕ) → length (hashes_from f i n) ≡ n
  unfolding hashes_from
  length_hashes_from i zero = refl
  length_hashes_from i (suc n) = ap suc (length_hashes_from (suc i) n)

  hashes_from_index : (i n k : ℕ) → k < n → get_or (hashes_from f i n) k 0 ≡ f (i + k)
  unfolding hashes_from
  hashes_from_index i zero k b = absurd (not-suc-le-zero b)
  hashes_from_index i (suc n) zero b = rw add-zero
  hashes_from_index i (suc n) (suc k) b =
      let e : i + suc k ≡ suc i + k = omega arith in
      rw e (hashes_from_index (suc i) n k (omega arith))

  pub hash_from : (n k : ℕ) → k < n → get_or (hashes_from f 0 n) k 0 ≡ f k
  hash_from n k b =
      let e : 0 + k ≡ k = omega arith in
      rw e at (hashes_from_index 0 n k b)

-- the hashes of change rows are those of records that begin with them
rows-from : (d : ℕ) (s : List ℕ) (i n : ℕ) → rows (rows_of d s i n) ≡ hashes_from (record_hash s (row_size_of d)) i n
unfolding rows rows_of row_of hashes_from
rows-from d s i zero = refl
rows-from d s i (suc n) = rw (rows-from d s (suc i) n)

pub rows_are_records : (s : List ℕ) (n : ℕ) → rows (rows_at s 0 n) ≡ hashes_from (record_hash s row_size) 0 n
rows_are_records s n = rows-from sizes.dependencies s 0 n

-- ---- halving

module _ (f : ℕ → ℕ) (x : List ℕ) (n : ℕ) where
  long : length (map f (u16s_at x 0 n)) ≡ n
  long = length-map (u16s_at x 0 n) f ∙ length_u16s x 0 n

  pub halve_most : (h : ℕ) → place_of h (map f (u16s_at x 0 n)) ≤ n
  halve_most h = omega (arith, place_within h (map f (u16s_at x 0 n)), long)

  pub place_inside : (h k : ℕ) → k ≡ place_of h (map f (u16s_at x 0 n)) → k ≤ n
  place_inside h k e = omega (arith, halve_most h)

  module _ (o : Ordered f n (u16s_at x 0 n)) (k r : ℕ) (inside : k < n) (read : r ≡ u16_at x (2 * k)) where
    pub entry_below : r < n
    entry_below =
        let b = below_index n (u16s_at x 0 n) o.below k (omega (arith, length_u16s x 0 n)) in
        omega (arith, b, entry x n k inside)

    entry_hash : get_or (map f (u16s_at x 0 n)) k 0 ≡ f r
    entry_hash = map_index f (u16s_at x 0 n) k (omega (arith, length_u16s x 0 n)) ∙ ap f (entry x n k inside ∙ sym read)

    pub halve_up : (h : ℕ) → ltb (f r) h ≡ true → k + 1 ≤ place_of h (map f (u16s_at x 0 n))
    halve_up h e =
        let less = ltb-true (f r) h e in
        let p = place_high (map f (u16s_at x 0 n)) h k o.order (omega (arith, long)) (omega (arith, less, entry_hash)) in
        omega (arith, p)

    pub halve_down : (h : ℕ) → ltb (f r) h ≡ false → place_of h (map f (u16s_at x 0 n)) ≤ k
    halve_down h e =
        let more = ltb-false (f r) h e in
        place_low (map f (u16s_at x 0 n)) h k (omega (arith, long)) (omega (arith, more, entry_hash))

  -- ---- looked up

  module _ (ok : fits_by f n (u16s_at x 0 n) ≡ true) where
    has : FittingNumbers f n (u16s_at x 0 n)
    has = fits_has f n (u16s_at x 0 n) ok

    pub look_ordered : Ordered f n (u16s_at x 0 n)
    look_ordered =
        record { below = below_each n (u16s_at x 0 n) has.below; order = ascends_rises (map f (u16s_at x 0 n)) has.order }

    module _ (h k : ℕ) (place : k ≡ place_of h (map f (u16s_at x 0 n))) where
      -- no record has the hash if the entry at its place doesn't
      none : (k < n → f (get_or (u16s_at x 0 n) k 0) ≡ h → ⊥) → n ≡ index_in (hashes_from f 0 n) h
      none other =
          let gone : member h (map f (u16s_at x 0 n)) ≡ false =
          place_unknown (map f (u16s_at x 0 n)) h has.order
          (rw (← place) (λ b e. other (omega (arith, long)) (sym (map_index f (u16s_at x 0 n) k (omega (arith, long, length_u16s x 0 n))) ∙ e)))
          in
          let unknown : member h (hashes_from f 0 n) ≡ false =
          split (member h (hashes_from f 0 n))
          (λ m.
          let r = member_index h (hashes_from f 0 n) m in
          let low : r.0 < n = omega (arith, r.1, length_hashes_from f 0 n) in
          let named : member (f r.0) (map f (u16s_at x 0 n)) ≡ true =
          map_member f (u16s_at x 0 n) r.0 (each_named f n (u16s_at x 0 n) has r.0 low)
          in
          let same : f r.0 ≡ h = sym (hash_from f n r.0 low) ∙ r.2 in
          absurd (true_false (member h (map f (u16s_at x 0 n))) (rw same at named) gone))
          (λ e. e)
          in
          sym (index_of_unknown (hashes_from f 0 n) h unknown ∙ length_hashes_from f 0 n)

      pub look_end : n ≤ k → n ≡ index_in (hashes_from f 0 n) h
      look_end b = none (λ c q. absurd (omega (arith, b, c)))

      module _ (r : ℕ) (inside : k < n) (read : r ≡ u16_at x (2 * k)) where
        low : r < n
        low = entry_below look_ordered k r inside read

        pub look_here : f r ≡ h → r ≡ index_in (hashes_from f 0 n) h
        look_here e =
            let once = index_once (hashes_from f 0 n)
            (λ i j bi bj q.
            let ci : i < n = omega (arith, length_hashes_from f 0 n) in
            let cj : j < n = omega (arith, length_hashes_from f 0 n) in
            hashes_once f n (u16s_at x 0 n) has i j ci cj (sym (hash_from f n i ci) ∙ q ∙ hash_from f n j cj))
            in
            let at : index_in (hashes_from f 0 n) (get_or (hashes_from f 0 n) r 0) ≡ r =
            index_of_entry (hashes_from f 0 n) once r (omega (arith, low, length_hashes_from f 0 n))
            in
            let own : get_or (hashes_from f 0 n) r 0 ≡ h = hash_from f n r low ∙ e in
            sym (rw own at at)

        pub look_other : (f r ≡ h → ⊥) → n ≡ index_in (hashes_from f 0 n) h
        look_other d = none (λ c q. d (ap f (read ∙ sym (entry x n k inside)) ∙ q))

-- ---- change rows

-- entries that fit a table's rows fit them as records
pub fit_records : (s x : List ℕ) (n : ℕ) → fits (rows_at s 0 n) (u16s_at x 0 n) ≡ true → fits_by (record_hash s row_size) n (u16s_at x 0 n) ≡ true
unfolding fits
fit_records s x n ok =
    let g = hash_of (rows_at s 0 n) in
    let w : FittingNumbers (hash_of (rows_at s 0 n)) n (u16s_at x 0 n) = fits_has (hash_of (rows_at s 0 n)) n (u16s_at x 0 n) (rw (length_rows_at s 0 n) at ok) in
    let same : map (hash_of (rows_at s 0 n)) (u16s_at x 0 n) ≡ map (record_hash s row_size) (u16s_at x 0 n) =
    map_same (hash_of (rows_at s 0 n)) (record_hash s row_size) n (u16s_at x 0 n) (λ i b. hash_of_row s n i b) w.below
    in
    has_fits (record_hash s row_size) n (u16s_at x 0 n) (record { long = w.long; below = w.below; order = rw same at w.order })
