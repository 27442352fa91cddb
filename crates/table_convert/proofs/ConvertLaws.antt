-- 02, M-106: what the converter keeps, over any two widths, and its answers one by one. Assumes nothing.
use Prim.Native.Nat.{ℕ, zero, suc, ◌+◌, ◌*◌, ◌/◌, ◌^◌, ◌≤◌, ◌<◌}
use mathlib.Core.Bool.{Bool, true, false}
use mathlib.Core.List.{List}
use mathlib.Core.Path.{◌≡◌, refl, sym, ap, ◌∙◌}
use native.Mathlib.Nat.{mul-le-mul}
use native.Mathlib.Omega.{arith}
use borrow.Author.Tests.{ltb-true, ltb-false, lt-ltb, le-ltb, leb-true, lt-leb, le-leb}
use lib.Dec.{ltb, leb}
use lib.ListN.{length}
use Rattle.rules.proofs.Cases.{split}
use Rattle.rules.specs.Hash.{Bytes}
use Rattle.rules.specs.Output.{Output}
use Rattle.rules.specs.declared.refusal.Refusal.TheVariants.{PastSize, TooWide}
use Rattle.rules.specs.declared.refusal.Refusal.{Refusal}
use Rattle.table.proofs.CheckLaws.{first_bad_all, all_first_bad}
use Rattle.table.proofs.GoodLaws.{row_hashes_of}
use Rattle.table.proofs.TableLaws.{DecodedOf, row_deps_of, good_row_has, good_table_of, length_used_of}
use Rattle.table.proofs.WidthLaws.{wide_sized, narrow_sized}
use Rattle.table.proofs.WrittenLaws.{round_trip}
use Rattle.table.specs.Table.{Row, deps_of}
use Rattle.table.specs.TableBytes.{row_size_of, count_of, whole_rows_of, rows_of, used_of, first_bad}
use Rattle.table.specs.TableCalls.{after_check}
use Rattle.table.specs.TableWritten.{table_bytes_of, Holdable}
use Rattle.table.specs.Widths.{narrow_rows, wide_rows, Sized, checked_as}
use Rattle.table.specs.declared.width.Width.{Width}
use Rattle.table_index.specs.Index.{index_fits}
use Rattle.table_convert.specs.Internal.RowsPut.{count_fits, Fitting}
use Rattle.table_convert.specs.Rows.{table_as, row_fits, first_wide, bytes_as, converted, Converts, Widens, M106}
use Rattle.std.specs.Prelude.{Result, Ok, Err}

-- ---- bytes or a refusal

same_bytes : (a b : List ℕ) → Output.bytes a ≡ Output.bytes b → a ≡ b
same_bytes a b e = cc

not_bytes : (r : Refusal) (b : List ℕ) → Output.refuse r ≡ Output.bytes b → ⊥
not_bytes r b e = let z : ◌≡◌ {A = ℕ} 0 1 = cc in omega arith

-- ---- a table of a width

-- what is made of a table
record Made (w : Width) (s : List ℕ) (k : List Row → Output) (r : List ℕ) : Type 0 where
  rows : ℕ
  checked : checked_as w s ≡ Ok rows
  is : k (whole_rows_of w.dependencies s) ≡ Output.bytes r

table_has : (w : Width) (s : List ℕ) (k : List Row → Output) (r : List ℕ) → table_as w s k ≡ Output.bytes r → Made w s k r
unfolding table_as after_check
table_has w s k r e = checked (checked_as w s) refl
  where
    checked : (c : Result ℕ Refusal) → checked_as w s ≡ c → Made w s k r
    checked (Ok n) q = record { rows = n; checked = q; is = rw q at e }
    checked (Err f) q = absurd (not_bytes f r (rw q at e))

pub has_table : (w : Width) (s : List ℕ) (n : ℕ) (k : List Row → Output) → checked_as w s ≡ Ok n → table_as w s k ≡ k (whole_rows_of w.dependencies s)
unfolding table_as after_check
has_table w s n k q = rw q

-- ---- a table as bytes

module _ (w : Width) (t : List Row) where
  many_refused : w.rows < length t → bytes_as w t ≡ Output.refuse (PastSize 0)
  unfolding bytes_as
  many_refused h = rw (lt-ltb w.rows (length t) h)

  module _ (few : length t ≤ w.rows) where
    wide_refused : first_wide w.dependencies t < length t → bytes_as w t ≡ Output.refuse (TooWide (first_wide w.dependencies t))
    unfolding bytes_as
    wide_refused h = rw (le-ltb w.rows (length t) few, lt-ltb (first_wide w.dependencies t) (length t) h)

    fits_written : length t ≤ first_wide w.dependencies t → bytes_as w t ≡ Output.bytes (table_bytes_of w.dependencies t)
    unfolding bytes_as
    fits_written h = rw (le-ltb w.rows (length t) few, le-ltb (first_wide w.dependencies t) (length t) h)

  -- no row is too wide just if each has no more dependencies than there is room for
  none_wide : length t ≤ first_wide w.dependencies t → (i : ℕ) → i < length t → length (deps_of t i) ≤ w.dependencies
  unfolding first_wide row_fits
  none_wide h i l =
      leb-true _ _ (first_bad_all (λ k. leb (length (deps_of t k)) w.dependencies) 0 (length t) i (omega arith) (omega arith) (omega arith))

  all_narrow : ((i : ℕ) → i < length t → length (deps_of t i) ≤ w.dependencies) → length t ≤ first_wide w.dependencies t
  unfolding first_wide row_fits
  all_narrow narrow =
      let first = all_first_bad (λ k. leb (length (deps_of t k)) w.dependencies) 0 (length t) (λ k a b. le-leb _ _ (narrow k (omega arith))) in
      omega arith

record BytesOf (w : Width) (t : List Row) (r : List ℕ) : Type 0 where
  few : length t ≤ w.rows
  narrow : (i : ℕ) → i < length t → length (deps_of t i) ≤ w.dependencies
  is : r ≡ table_bytes_of w.dependencies t

bytes_has : (w : Width) (t : List Row) (r : List ℕ) → bytes_as w t ≡ Output.bytes r → BytesOf w t r
bytes_has w t r e =
    split (ltb w.rows (length t))
    (λ x. absurd (not_bytes (PastSize 0) r (sym (many_refused w t (ltb-true w.rows (length t) x)) ∙ e)))
    (λ x.
    let few : length t ≤ w.rows = ltb-false w.rows (length t) x in
    split (ltb (first_wide w.dependencies t) (length t))
    (λ y. absurd (not_bytes _ r (sym (wide_refused w t few (ltb-true (first_wide w.dependencies t) (length t) y)) ∙ e)))
    (λ y.
    let all : length t ≤ first_wide w.dependencies t = ltb-false (first_wide w.dependencies t) (length t) y in
    record { few = few; narrow = none_wide w t all; is = sym (same_bytes _ r (sym (fits_written w t few all) ∙ e)) }))

has_bytes : (w : Width) (t : List Row) → length t ≤ w.rows → ((i : ℕ) → i < length t → length (deps_of t i) ≤ w.dependencies)
    → bytes_as w t ≡ Output.bytes (table_bytes_of w.dependencies t)
has_bytes w t few narrow = fits_written w t few (all_narrow w t narrow)

-- ---- the converter

module _ (from to : Width) (sizedTo : Sized to) (s r : List ℕ) (b : Bytes s) (e : converted from to s ≡ Output.bytes r) where
  abbrev t : List Row
  t = whole_rows_of from.dependencies s

  record Through : Type 0 where
    rows : ℕ
    checked : checked_as from s ≡ Ok rows
    out : BytesOf to t r

  through : Through
  unfolding converted
  through =
      let x = table_has from s (bytes_as to) r e in
      record { rows = x.rows; checked = x.checked; out = bytes_has to t r x.is }

  decoded : DecodedOf from.dependencies from.rows s through.rows
  decoded = good_table_of from.dependencies from.rows s through.rows through.checked

  holdable : Holdable to.dependencies t
  holdable =
      record {
        hashes = rw decoded.is (row_hashes_of from.dependencies s 0 through.rows b);
        narrow = through.out.narrow;
      }

  pub values : whole_rows_of to.dependencies r ≡ t
  values = ap (whole_rows_of to.dependencies) through.out.is ∙ round_trip.read to.dependencies t holdable

  pub stays_good : checked_as to r ≡ Ok (length t)
  stays_good = ap (checked_as to) through.out.is ∙ round_trip.good to.dependencies to.rows t decoded.good holdable through.out.few

  narrow_from : (i : ℕ) → i < length t → length (deps_of t i) ≤ from.dependencies
  narrow_from i l =
      let n = through.rows in
      let q : i < n = let z = decoded.long in omega arith in
      let deps : deps_of t i ≡ used_of from.dependencies s i = ap (λ (x : List Row). deps_of x i) decoded.is ∙ row_deps_of from.dependencies s n i q in
      let c = (good_row_has from.dependencies s i (decoded.each i q)).count in
      let a = ap length deps in
      let u = length_used_of from.dependencies s i in
      omega arith

  pub there_and_back : converted to from r ≡ Output.bytes s
  unfolding converted
  there_and_back =
      has_table to r (length t) (bytes_as from) stays_good
      ∙ (rw values
      (has_bytes from t (let z = decoded.long in let y = decoded.few in omega arith) narrow_from
      ∙ ap Output.bytes (round_trip.written from.dependencies from.rows s through.rows b through.checked)))

  pub index_same : (x : List ℕ) → index_fits (whole_rows_of to.dependencies r) x ≡ index_fits t x
  index_same x = ap (λ (u : List Row). index_fits u x) values

  pub so_long : length r ≡ length s / row_size_of from.dependencies * row_size_of to.dependencies
  so_long =
      ap length through.out.is
      ∙ round_trip.long to.dependencies t holdable
      ∙ ap (λ (n : ℕ). n * row_size_of to.dependencies) (decoded.long ∙ decoded.count)

  pub stays_bytes : Bytes r
  stays_bytes =
      rw through.out.is
      (round_trip.bytes to.dependencies t decoded.good holdable sizedTo.counts (let z = through.out.few in let y = sizedTo.numbers in omega arith))

converts : (from to : Width) → Sized to → Converts from to
converts from to sizedTo =
    record {
      values = values from to sizedTo;
      good = stays_good from to sizedTo;
      bytes = stays_bytes from to sizedTo;
      back = there_and_back from to sizedTo;
      index = λ s r x b e. index_same from to sizedTo s r b e x;
      long = so_long from to sizedTo;
    }

widens : Widens
unfolding converted
widens s n e =
    let x = good_table_of narrow_rows.dependencies narrow_rows.rows s n e in
    let u : List Row = whole_rows_of narrow_rows.dependencies s in (
      table_bytes_of wide_rows.dependencies u,
      has_table narrow_rows s n (bytes_as wide_rows) e
          ∙ (has_bytes wide_rows u (let z = x.long in let y = x.few in omega arith)
          (λ i l.
          let q : i < n = let z = x.long in omega arith in
          let deps : deps_of u i ≡ used_of narrow_rows.dependencies s i = ap (λ (y : List Row). deps_of y i) x.is ∙ row_deps_of narrow_rows.dependencies s n i q in
          let c = (good_row_has narrow_rows.dependencies s i (x.each i q)).count in
          let a = ap length deps in
          let v = length_used_of narrow_rows.dependencies s i in
          omega arith)),
    )

pub m106 : M106
m106 = (narrow_sized, wide_sized, converts, widens)

-- ---- each answer

-- a count that is read, tested
pub count_wide : (d room : ℕ) (s : List ℕ) (i count : ℕ) → count ≡ count_of d s i → room < count → count_fits d room s i ≡ false
unfolding count_fits
count_wide d room s i count e h = rw (← e, lt-leb count room h)

pub count_fits_lem : (d room : ℕ) (s : List ℕ) (i count : ℕ) → count ≡ count_of d s i → count ≤ room → count_fits d room s i ≡ true
unfolding count_fits
count_fits_lem d room s i count e h = rw (← e, le-leb count room h)

first_bad_same : (p q : ℕ → Bool) (i n : ℕ) → ((k : ℕ) → i ≤ k → k < i + n → p k ≡ q k) → first_bad p i n ≡ first_bad q i n
unfolding first_bad
first_bad_same p q i zero f = refl
first_bad_same p q i (suc n) f = rw (f i (omega arith) (omega arith), first_bad_same p q (suc i) n (λ k a b. f k (omega arith) (omega arith)))

pub convert_refused : (from to : Width) (s : List ℕ) (r : Refusal) → checked_as from s ≡ Err r → converted from to s ≡ Output.refuse r
unfolding converted table_as after_check
convert_refused from to s r e = rw e

pub convert_goes : (from to : Width) (s : List ℕ) (n : ℕ) → checked_as from s ≡ Ok n → converted from to s ≡ bytes_as to (whole_rows_of from.dependencies s)
unfolding converted
convert_goes from to s n e = has_table from s n (bytes_as to) e

pub rows_inside : (from : Width) (s : List ℕ) (n : ℕ) → checked_as from s ≡ Ok n → n * row_size_of from.dependencies ≤ length s
rows_inside from s n good = omega (arith, (good_table_of from.dependencies from.rows s n good).whole)

module _ (from to : Width) (s : List ℕ) (n : ℕ) (good : checked_as from s ≡ Ok n) where
  table : DecodedOf from.dependencies from.rows s n
  table = good_table_of from.dependencies from.rows s n good

  -- the rows that are too wide are those that say so
  wide_is : first_wide to.dependencies (whole_rows_of from.dependencies s) ≡ first_bad (count_fits from.dependencies to.dependencies s) 0 n
  unfolding first_wide row_fits count_fits
  wide_is =
      rw table.long
      (first_bad_same _ _ 0 n
      (λ k a b.
      let deps : deps_of (whole_rows_of from.dependencies s) k ≡ used_of from.dependencies s k =
      ap (λ (x : List Row). deps_of x k) table.is ∙ row_deps_of from.dependencies s n k (omega arith)
      in
      ap (λ (m : ℕ). leb m to.dependencies) (ap length deps ∙ length_used_of from.dependencies s k)))

  pub bytes_many : to.rows < n → bytes_as to (whole_rows_of from.dependencies s) ≡ Output.refuse (PastSize 0)
  bytes_many h = many_refused to (whole_rows_of from.dependencies s) (rw table.long h)

  module _ (few : n ≤ to.rows) (wide : ℕ) (e : wide ≡ first_bad (count_fits from.dependencies to.dependencies s) 0 n) where
    first : wide ≡ first_wide to.dependencies (whole_rows_of from.dependencies s)
    first = e ∙ sym wide_is

    pub bytes_wide : wide < n → bytes_as to (whole_rows_of from.dependencies s) ≡ Output.refuse (TooWide wide)
    bytes_wide h = wide_refused to (whole_rows_of from.dependencies s) (omega (arith, table.long)) (omega (arith, first, table.long)) ∙ ap (λ (k : ℕ). Output.refuse (TooWide k)) (sym first)

    module _ (all : n ≤ wide) where
      pub bytes_fit : bytes_as to (whole_rows_of from.dependencies s) ≡ Output.bytes (table_bytes_of to.dependencies (rows_of from.dependencies s 0 n))
      bytes_fit =
          fits_written to (whole_rows_of from.dependencies s) (omega (arith, table.long)) (omega (arith, first, table.long))
          ∙ ap (λ (t : List Row). Output.bytes (table_bytes_of to.dependencies t)) table.is

      pub rows_fit : Fitting from.dependencies to.dependencies s n
      unfolding count_fits
      rows_fit =
          record {
            inside = rows_inside from s n good;
            own = λ i l. (good_row_has from.dependencies s i (table.each i l)).count;
            narrow =
                λ i l.
                leb-true _ _ (first_bad_all (λ k. leb (count_of from.dependencies s k) to.dependencies) 0 n i (omega (arith, e)) (omega arith) (omega arith));
          }

  pub rows_size : Sized to → n ≤ to.rows → (n + 1) * row_size_of to.dependencies < 2 ^ 64
  rows_size sized few =
      let rows : n + 1 ≤ 65537 = omega (arith, sized.numbers) in
      let size : row_size_of to.dependencies ≤ 131104 = omega (arith, sized.counts) in
      let most : (n + 1) * row_size_of to.dependencies ≤ 65537 * 131104 = mul-le-mul rows size in
      omega arith
