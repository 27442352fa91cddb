-- The place of a number in a list; the rows of a table by their numbers; and what is accepted as a table decodes to a good one.
use Prim.Native.Nat.{ℕ, zero, suc, ◌+◌, ◌*◌, ◌/◌, ◌%◌, ◌≤◌, ◌<◌}
use mathlib.Core.Bool.{Bool, true, false, not, ◌&&◌}
use mathlib.Core.List.{List, [], ◌∷◌}
use mathlib.Core.Path.{◌≡◌, refl, sym, ◌∙◌, ap}
use native.Mathlib.Nat.{add-zero, zero-add, not-suc-le-zero}
use native.Mathlib.Omega.{arith}
use borrow.Author.Tests.{ltb-true, ltb-false, leb-true, eqb-true, eqb-false, not-true, eq-eqb, ne_eqb}
use lib.Dec.{ltb, leb, eqb}
use lib.ListN.{length, get_or, take, length-map}
use Rattle.hash_order.proofs.KeepLaws.{every_member, index_once, once_index}
use Rattle.hash_order.specs.Order.{member, every, ascends, Once}
use Rattle.rules.proofs.Cases.{split, both}
use Rattle.rules.specs.Hash.{hash_at}
use Rattle.rules.specs.LittleEndian.{u16_at}
use Rattle.rules.specs.Sizes.{sizes}
use Rattle.rules.specs.Zeros.{zeros}
use Rattle.table.specs.TableBytes.{u16s_at, row_size_of, count_of, used_of, unused_of, row_of, rows_of, whole_rows_of, row_good_of, table_checked_of, row_size, dep_count, used_at, rows_at, table_of, numbers_good, table_checked}
use Rattle.table.specs.Table.{Row, no_row, rows, hash_of, deps_of, GoodTable, index_in, row_number, held}
use Rattle.table.proofs.Today.{row_at, row_good}
use Rattle.rules.specs.declared.refusal.Refusal.TheVariants.{BadRow}
use Rattle.table.proofs.CheckLaws.{fewer, accepted, good_is_accepted}
use Rattle.table.proofs.TwoBytes.{length_twos_at}
use Rattle.std.specs.Prelude.{Ok, Err}

-- ---- places in a list

pub index_at_most : (l : List ℕ) (h : ℕ) → index_in l h ≤ length l
unfolding index_in
index_at_most [] h = omega arith
index_at_most (x ∷ xs) h = split (eqb x h) (λ e. rw e (omega arith)) (λ e. rw e (omega (arith, index_at_most xs h)))

-- a member has a place inside the list, and a number that has one is a member
pub index_of_member : (l : List ℕ) (h : ℕ) → member h l ≡ true → index_in l h < length l
unfolding index_in member
index_of_member [] h m = absurd (let z : ◌≡◌ {A = ℕ} 0 1 = cc in omega arith)
index_of_member (x ∷ xs) h m =
    split (eqb x h) (λ e. rw e (omega arith))
    (λ e.
    let other : eqb h x ≡ false = ne_eqb h x (λ q. eqb-false x h e (sym q)) in
    rw e (omega (arith, index_of_member xs h (rw other at m))))

pub member_of_index : (l : List ℕ) (h : ℕ) → index_in l h < length l → member h l ≡ true
unfolding index_in member
member_of_index [] h p = absurd (not-suc-le-zero p)
member_of_index (x ∷ xs) h p =
    split (eqb x h) (λ e. rw (eq-eqb h x (sym (eqb-true x h e))))
    (λ e.
    let other : eqb h x ≡ false = ne_eqb h x (λ q. eqb-false x h e (sym q)) in
    rw other (member_of_index xs h (let q = rw e at p in omega (arith, q))))

-- a number that isn't a member has the place after the list
pub index_of_unknown : (l : List ℕ) (h : ℕ) → member h l ≡ false → index_in l h ≡ length l
index_of_unknown l h m =
    split (ltb (index_in l h) (length l))
    (λ e. absurd (let y : member h l ≡ true = member_of_index l h (ltb-true _ _ e) in let z : ◌≡◌ {A = ℕ} 0 1 = cc in omega arith))
    (λ e. omega (arith, ltb-false (index_in l h) (length l) e, index_at_most l h))

pub unknown_of_index : (l : List ℕ) (h : ℕ) → index_in l h ≡ length l → member h l ≡ false
unknown_of_index l h p =
    split (member h l) (λ e. absurd (omega (arith, index_of_member l h e))) (λ e. e)

-- the place in a list tells whether a number is a member
pub index_tells : (l : List ℕ) (h : ℕ) → not (member h l) ≡ eqb (index_in l h) (length l)
index_tells l h =
    split (member h l)
    (λ e. rw (e, ne_eqb (index_in l h) (length l) (λ q. let p = index_of_member l h e in omega (arith, p, q))))
    (λ e. rw (e, eq-eqb (index_in l h) (length l) (index_of_unknown l h e)))

-- the number stands at its place, and at none before it
pub entry_at_index : (l : List ℕ) (h : ℕ) → index_in l h < length l → get_or l (index_in l h) 0 ≡ h
unfolding index_in
entry_at_index [] h p = absurd (not-suc-le-zero p)
entry_at_index (x ∷ xs) h p =
    split (eqb x h) (λ e. rw e (eqb-true x h e)) (λ e. rw e (entry_at_index xs h (let q = rw e at p in omega (arith, q))))

pub index_first : (l : List ℕ) (h k : ℕ) → k < length l → get_or l k 0 ≡ h → index_in l h ≤ k
unfolding index_in
index_first [] h k b e = absurd (not-suc-le-zero b)
index_first (x ∷ xs) h zero b e = rw (eq-eqb x h e) (omega arith)
index_first (x ∷ xs) h (suc k) b e =
    split (eqb x h) (λ q. rw q (omega arith)) (λ q. rw q (omega (arith, index_first xs h k (omega arith) e)))

-- what stands in a list is a member
pub member_at_lem : (l : List ℕ) (k : ℕ) → k < length l → member (get_or l k 0) l ≡ true
member_at_lem l k b = member_of_index l (get_or l k 0) (omega (arith, index_first l (get_or l k 0) k b refl))

pub member_is : (l : List ℕ) (h k : ℕ) → k < length l → get_or l k 0 ≡ h → member h l ≡ true
member_is l h k b e = member_of_index l h (omega (arith, index_first l h k b e))

-- where no number stands twice, each stands at its own place
pub index_of_entry : (l : List ℕ) → Once l → (k : ℕ) → k < length l → index_in l (get_or l k 0) ≡ k
index_of_entry l once k b =
    let inside : index_in l (get_or l k 0) < length l = omega (arith, index_first l (get_or l k 0) k b refl) in
    once_index l once (index_in l (get_or l k 0)) k inside b (entry_at_index l (get_or l k 0) inside)

-- ---- rows by their numbers

pub length_rows : (t : List Row) → length (rows t) ≡ length t
unfolding rows
length_rows t = length-map t _

pub number_of_row : (t : List Row) → GoodTable t → (i : ℕ) → i < length t → row_number t (hash_of t i) ≡ i
unfolding row_number hash_of
number_of_row t g i b =
    index_of_entry (rows t) g.once i (rw length_rows b)

pub held_row : (t : List Row) (i : ℕ) → i < length t → held t (hash_of t i) ≡ true
unfolding held hash_of
held_row t i b = member_at_lem (rows t) i (rw length_rows b)

-- a held hash is that of its row
pub row_of_held : (t : List Row) (h : ℕ) → held t h ≡ true → row_number t h < length t
unfolding held row_number
row_of_held t h e = rw (length_rows t) at (index_of_member (rows t) h e)

pub hash_of_held : (t : List Row) (h : ℕ) → held t h ≡ true → hash_of t (row_number t h) ≡ h
unfolding held row_number hash_of
hash_of_held t h e = entry_at_index (rows t) h (index_of_member (rows t) h e)

-- ---- rows in bytes

-- rows with room for d dependencies
module _ (d : ℕ) (s : List ℕ) where
  pub length_rows_of : (i n : ℕ) → length (rows_of d s i n) ≡ n
  unfolding rows_of
  length_rows_of i zero = refl
  length_rows_of i (suc n) = ap suc (length_rows_of (suc i) n)

  pub rows_of_index : (i n k : ℕ) → k < n → get_or (rows_of d s i n) k no_row ≡ row_of d s (i + k)
  unfolding rows_of
  rows_of_index i zero k b = absurd (not-suc-le-zero b)
  rows_of_index i (suc n) zero b = rw add-zero
  rows_of_index i (suc n) (suc k) b =
      let e : i + suc k ≡ suc i + k = omega arith in
      rw e (rows_of_index (suc i) n k (omega arith))

  pub take_rows_of : (i k n : ℕ) → k ≤ n → take k (rows_of d s i n) ≡ rows_of d s i k
  unfolding rows_of
  take_rows_of i zero n b = refl
  take_rows_of i (suc k) zero b = absurd (not-suc-le-zero b)
  take_rows_of i (suc k) (suc n) b = ap (λ (t : List Row). row_of d s i ∷ t) (take_rows_of (suc i) k n (omega arith))

  pub row_deps_of : (n i : ℕ) → i < n → deps_of (rows_of d s 0 n) i ≡ used_of d s i
  unfolding deps_of row_of
  row_deps_of n i b = ap (λ (r : Row). r.deps) (rows_of_index 0 n i b) ∙ rw zero-add

  hashes_of_index : (i n k : ℕ) → k < n → get_or (rows (rows_of d s i n)) k 0 ≡ hash_at s ((i + k) * row_size_of d)
  unfolding rows rows_of row_of
  hashes_of_index i zero k b = absurd (not-suc-le-zero b)
  hashes_of_index i (suc n) zero b = rw add-zero
  hashes_of_index i (suc n) (suc k) b =
      let e : i + suc k ≡ suc i + k = omega arith in
      rw e (hashes_of_index (suc i) n k (omega arith))

  pub row_hash_of : (n i : ℕ) → i < n → hash_of (rows_of d s 0 n) i ≡ hash_at s (i * row_size_of d)
  unfolding hash_of
  row_hash_of n i b = hashes_of_index 0 n i b ∙ rw zero-add

-- today's rows
module _ (s : List ℕ) where
  pub length_rows_at : (i n : ℕ) → length (rows_at s i n) ≡ n
  length_rows_at = length_rows_of sizes.dependencies s

  pub rows_at_index : (i n k : ℕ) → k < n → get_or (rows_at s i n) k no_row ≡ row_at s (i + k)
  rows_at_index = rows_of_index sizes.dependencies s

  pub take_rows_at : (i k n : ℕ) → k ≤ n → take k (rows_at s i n) ≡ rows_at s i k
  take_rows_at = take_rows_of sizes.dependencies s

  pub deps_of_row : (n i : ℕ) → i < n → deps_of (rows_at s 0 n) i ≡ used_at s i
  deps_of_row = row_deps_of sizes.dependencies s

  pub hash_of_row : (n i : ℕ) → i < n → hash_of (rows_at s 0 n) i ≡ hash_at s (i * row_size)
  hash_of_row = row_hash_of sizes.dependencies s

  -- a table's whole rows are as many as fit in its bytes
  pub length_table : length (table_of s) ≡ length s / row_size
  unfolding whole_rows_of
  length_table = length_rows_at 0 (length s / row_size)

  pub deps_of_table : (i : ℕ) → i < length s / row_size → deps_of (table_of s) i ≡ used_at s i
  unfolding whole_rows_of
  deps_of_table i b = deps_of_row (length s / row_size) i b

  pub hash_of_table : (i : ℕ) → i < length s / row_size → hash_of (table_of s) i ≡ hash_at s (i * row_size)
  unfolding whole_rows_of
  hash_of_table i b = hash_of_row (length s / row_size) i b

  pub take_table : (k : ℕ) → k ≤ length s / row_size → take k (table_of s) ≡ rows_at s 0 k
  unfolding whole_rows_of
  take_table k b = take_rows_at 0 k (length s / row_size) b

-- ---- the numbers of a row

-- where the j-th number of row i stands
abbrev pub number_place_of : ℕ → ℕ → ℕ → ℕ
number_place_of d i j = i * row_size_of d + sizes.hash + 2 + 2 * j

abbrev pub number_place : ℕ → ℕ → ℕ
number_place i j = number_place_of sizes.dependencies i j

twos_index : (s : List ℕ) (at count j : ℕ) → j < count → get_or (u16s_at s at count) j 0 ≡ u16_at s (at + 2 * j)
unfolding u16s_at
twos_index s at zero j b = absurd (not-suc-le-zero b)
twos_index s at (suc count) zero b = rw add-zero
twos_index s at (suc count) (suc j) b =
    let e : at + 2 * suc j ≡ at + 2 + 2 * j = omega arith in
    rw e (twos_index s (at + 2) count j (omega arith))

pub length_used_of : (d : ℕ) (s : List ℕ) (i : ℕ) → length (used_of d s i) ≡ count_of d s i
unfolding used_of
length_used_of d s i = length_twos_at s (i * row_size_of d + sizes.hash + 2) (count_of d s i)

pub used_of_index : (d : ℕ) (s : List ℕ) (i j : ℕ) → j < count_of d s i → get_or (used_of d s i) j 0 ≡ u16_at s (number_place_of d i j)
unfolding used_of
used_of_index d s i j b = twos_index s (i * row_size_of d + sizes.hash + 2) (count_of d s i) j b

pub length_used : (s : List ℕ) (i : ℕ) → length (used_at s i) ≡ dep_count s i
length_used = length_used_of sizes.dependencies

pub used_index : (s : List ℕ) (i j : ℕ) → j < dep_count s i → get_or (used_at s i) j 0 ≡ u16_at s (number_place i j)
used_index = used_of_index sizes.dependencies

-- ---- good rows

-- what a good row has
pub record RowGoodOf (d : ℕ) (s : List ℕ) (i : ℕ) : Type 0 where
  pub count : count_of d s i ≤ d
  pub ordered : ascends (used_of d s i) ≡ true
  pub below : (k : ℕ) → member k (used_of d s i) ≡ true → k < i
  pub unused : zeros (unused_of d s i) ≡ true
  pub new : member (hash_at s (i * row_size_of d)) (rows (rows_of d s 0 i)) ≡ false

module _ (d : ℕ) (s : List ℕ) where
  pub good_row_has : (i : ℕ) → row_good_of d s i ≡ true → RowGoodOf d s i
  unfolding row_good_of numbers_good
  good_row_has i g =
      let used : List ℕ = used_of d s i in
      let count : Bool = leb (count_of d s i) d in
      let numbers : Bool = ascends used && every (λ k. ltb k i) used in
      let unused : Bool = zeros (unused_of d s i) in
      let p = both (count && numbers && unused) (not (member (hash_at s (i * row_size_of d)) (rows (rows_of d s 0 i)))) g in
      let q = both (count && numbers) unused p.0 in
      let r = both count numbers q.0 in
      let z = both (ascends used) (every (λ k. ltb k i) used) r.1 in
      record {
        count = leb-true _ _ r.0;
        ordered = z.0;
        below = λ k m. ltb-true k i (every_member (λ j. ltb j i) used z.1 k m);
        unused = q.1;
        new = not-true _ p.1;
      }

  module _ (n : ℕ) (each : (i : ℕ) → i < n → row_good_of d s i ≡ true) where
    earlier_differs : (i j : ℕ) → i < j → j < n → hash_at s (i * row_size_of d) ≡ hash_at s (j * row_size_of d) → ⊥
    unfolding hash_of
    earlier_differs i j l b e =
        let h : ℕ = hash_at s (j * row_size_of d) in
        let before : List ℕ = rows (rows_of d s 0 j) in
        let long : length before ≡ j = length_rows (rows_of d s 0 j) ∙ length_rows_of d s 0 j in
        let there : member h before ≡ true = member_is before h i (omega arith) (row_hash_of d s j i l ∙ e) in
        let new : member h before ≡ false = (good_row_has j (each j b)).new in
        let z : ◌≡◌ {A = ℕ} 0 1 = cc in
        omega arith

    -- rows that are each good make a good table
    pub good_rows_of : GoodTable (rows_of d s 0 n)
    unfolding hash_of
    good_rows_of =
        let long : length (rows_of d s 0 n) ≡ n = length_rows_of d s 0 n in
        record {
          once =
              index_once (rows (rows_of d s 0 n))
              (λ i j bi bj e.
              let ci : i < n = rw (length_rows, length_rows_of) at bi in
              let cj : j < n = rw (length_rows, length_rows_of) at bj in
              let same : hash_at s (i * row_size_of d) ≡ hash_at s (j * row_size_of d) = sym (row_hash_of d s n i ci) ∙ e ∙ row_hash_of d s n j cj in
              split (ltb i j)
              (λ l. absurd (earlier_differs i j (ltb-true i j l) cj same))
              (λ l.
              split (ltb j i)
              (λ k. absurd (earlier_differs j i (ltb-true j i k) ci (sym same)))
              (λ k. omega (arith, ltb-false i j l, ltb-false j i k))));
          down =
              λ i k b m.
              let c : i < n = omega arith in
              (good_row_has i (each i c)).below k (rw (row_deps_of d s n i c) at m);
          ordered =
              λ i b.
              let c : i < n = omega arith in
              rw (row_deps_of d s n i c) (good_row_has i (each i c)).ordered;
        }

abbrev pub RowGood : List ℕ → ℕ → Type 0
RowGood s i = RowGoodOf sizes.dependencies s i

pub row_has : (s : List ℕ) (i : ℕ) → row_good s i ≡ true → RowGood s i
row_has = good_row_has sizes.dependencies

pub rows_good : (s : List ℕ) (n : ℕ) → ((i : ℕ) → i < n → row_good s i ≡ true) → GoodTable (rows_at s 0 n)
rows_good = good_rows_of sizes.dependencies

-- ---- accepted tables

-- what is accepted as a table of n rows: as many whole rows and not too many, each good; its rows are a good table
pub record DecodedOf (d most : ℕ) (s : List ℕ) (n : ℕ) : Type 0 where
  pub whole : length s ≡ n * row_size_of d
  pub few : n ≤ most
  pub count : n ≡ length s / row_size_of d
  pub is : whole_rows_of d s ≡ rows_of d s 0 n
  pub long : length (whole_rows_of d s) ≡ n
  pub each : (i : ℕ) → i < n → row_good_of d s i ≡ true
  pub good : GoodTable (whole_rows_of d s)

pub good_table_of : (d most : ℕ) (s : List ℕ) (n : ℕ) → table_checked_of d most s ≡ Ok n → DecodedOf d most s n
unfolding table_checked_of whole_rows_of
good_table_of d most s n e =
    let a = accepted (λ i. Err (BadRow i)) (row_good_of d s) (row_size_of d) most (length s) (λ i m q. let z : ◌≡◌ {A = ℕ} 0 1 = cc in omega arith) n e in
    let is : rows_of d s 0 (length s / row_size_of d) ≡ rows_of d s 0 n = ap (rows_of d s 0) (sym a.count) in
    record {
      whole = a.whole;
      few = fewer n most (row_size_of d) (omega arith) (rw a.whole at a.few);
      count = a.count;
      is = is;
      long = ap length is ∙ length_rows_of d s 0 n;
      each = a.each;
      good = rw is (good_rows_of d s n a.each);
    }

-- a whole table that isn't too long and whose rows are good is accepted
pub good_accepted_of : (d most : ℕ) (s : List ℕ)
    → length s % row_size_of d ≡ 0
    → length s ≤ most * row_size_of d
    → ((i : ℕ) → i < length s / row_size_of d → row_good_of d s i ≡ true)
    → table_checked_of d most s ≡ Ok (length s / row_size_of d)
unfolding table_checked_of
good_accepted_of d most s rest few each = good_is_accepted (λ i. Err (BadRow i)) (row_good_of d s) (row_size_of d) most (length s) few rest each

-- what an accepted table of today's size decodes to
abbrev pub DecodedTable : List ℕ → ℕ → Type 0
DecodedTable s n = DecodedOf sizes.dependencies sizes.rows s n

pub table_good : (s : List ℕ) (n : ℕ) → table_checked s ≡ Ok n → DecodedTable s n
table_good = good_table_of sizes.dependencies sizes.rows

pub good_accepted : (s : List ℕ)
    → length s % row_size ≡ 0
    → length s ≤ sizes.rows * row_size
    → ((i : ℕ) → i < length s / row_size → row_good s i ≡ true)
    → table_checked s ≡ Ok (length s / row_size)
good_accepted = good_accepted_of sizes.dependencies sizes.rows

-- the bytes of an accepted table and its rows
module _ (s : List ℕ) (n : ℕ) (d : DecodedTable s n) where
  pub decoded_hash : (i : ℕ) → i < n → hash_of (table_of s) i ≡ hash_at s (i * row_size)
  decoded_hash i b = rw d.is (hash_of_row s n i b)

  pub decoded_deps : (i : ℕ) → i < n → deps_of (table_of s) i ≡ used_at s i
  decoded_deps i b = rw d.is (deps_of_row s n i b)

  pub decoded_count : (i : ℕ) → i < n → dep_count s i ≤ sizes.dependencies
  decoded_count i b = (row_has s i (d.each i b)).count

  -- the j-th number in use is a dependency, and below its row
  pub decoded_dep : (i j : ℕ) → i < n → j < dep_count s i → get_or (deps_of (table_of s) i) j 0 ≡ u16_at s (number_place i j)
  decoded_dep i j b l = rw (decoded_deps i b) (used_index s i j l)

  pub decoded_below : (i j : ℕ) → i < n → j < dep_count s i → u16_at s (number_place i j) < i
  decoded_below i j b l =
      let long : j < length (used_at s i) = rw length_used l in
      (row_has s i (d.each i b)).below (u16_at s (number_place i j))
      (member_is (used_at s i) (u16_at s (number_place i j)) j long (used_index s i j l))

  -- its first rows are a good table too
  pub decoded_take : (k : ℕ) → k ≤ n → take k (table_of s) ≡ rows_at s 0 k
  decoded_take k b = rw d.is (take_rows_at s 0 k n b)

  pub decoded_prefix : (k : ℕ) → k ≤ n → GoodTable (take k (table_of s))
  decoded_prefix k b = rw (decoded_take k b) (rows_good s k (λ i l. d.each i (omega arith)))
