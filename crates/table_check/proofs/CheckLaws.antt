-- A row is good if its own bytes are and no earlier row has its hash; so the first bad row is the lesser of the first that fails the one and the
-- first that fails the other. Beside an index that fits no hash stands twice, and the rows' own bytes decide.
use Prim.Native.Nat.{ℕ, zero, suc, ◌+◌, ◌*◌, ◌/◌, ◌%◌, ◌^◌, ◌≤◌, ◌<◌, min}
use mathlib.Core.Bool.{true, false}
use mathlib.Core.List.{List}
use mathlib.Core.Path.{◌≡◌, refl, sym, ◌∙◌}
use native.Mathlib.Nat.{div-add-mod', mul-le-mul}
use native.Mathlib.Omega.{arith}
use borrow.Author.Tests.{ltb-true, ltb-false, leb-true, le-leb, lt-leb}
use lib.Dec.{ltb, leb}
use lib.ListN.{length}
use Rattle.hash_order.proofs.OrderLaws.{member_index}
use Rattle.hash_order.specs.Order.{member}
use Rattle.rules.proofs.Cases.{split, both}
use Rattle.rules.specs.Hash.{hash_at}
use Rattle.rules.specs.Sizes.{sizes}
use Rattle.rules.specs.declared.refusal.Refusal.TheVariants.{PastSize, BadRow, BadIndex}
use Rattle.rules.specs.declared.refusal.Refusal.{Refusal}
use Rattle.table.proofs.CheckLaws.{fewer, table_past, table_past_of, table_bad_of, table_partial_of, table_fine_of}
use Rattle.table.proofs.TableLaws.{length_rows, length_rows_at, hash_of_row, good_table_of}
use Rattle.table.proofs.Today.{row_good}
use Rattle.table.specs.Internal.OwnBytes.{row_sound_of}
use Rattle.table.specs.TableBytes.{u16s_at, row_size_of, row_good_of, row_size, rows_at, first_bad, table_checked}
use Rattle.table.specs.TableCalls.{passed_on}
use Rattle.table.specs.Table.{rows, hash_of}
use Rattle.table.specs.Widths.{Sized, WithinRows, checked_as}
use Rattle.table.specs.declared.width.Width.{Width}
use Rattle.table_index.proofs.CheckLaws.{unfit_decides}
use Rattle.table_index.proofs.FitLaws.{index_fitting}
use Rattle.table_index.proofs.LookLaws.{hash_once}
use Rattle.table_index.specs.Index.{indexed, index_fits, index_checked, record_hash}
use Rattle.table_check.specs.Internal.Repeats.{CheckedInOrder, RowOrder, new_hash, fits_within}
use Rattle.table_check.proofs.RepeatLaws.{first_both, first_within}
use Rattle.std.specs.Prelude.{Result, Ok, Err}

-- ---- the first bad row

module _ (d : ℕ) (s : List ℕ) (n : ℕ) where
  good_both : first_bad (row_good_of d s) 0 n ≡ min (first_bad (row_sound_of d s) 0 n) (first_bad (new_hash d s) 0 n)
  unfolding row_good_of row_sound_of new_hash
  good_both = first_both (row_sound_of d s) (new_hash d s) 0 n

  module _ (unsound repeat : ℕ) (p : unsound ≡ first_bad (row_sound_of d s) 0 n) (q : repeat ≡ first_bad (new_hash d s) 0 n) where
    pub bad_repeat : repeat < unsound → repeat ≡ first_bad (row_good_of d s) 0 n
    bad_repeat h = rw (good_both, ← p, ← q) (omega arith)

    pub bad_unsound : unsound ≤ repeat → unsound ≡ first_bad (row_good_of d s) 0 n
    bad_unsound h = rw (good_both, ← p, ← q) (omega arith)

  pub bad_whole : (bad : ℕ) → n ≡ length s / row_size_of d → bad ≡ first_bad (row_good_of d s) 0 n → bad ≡ first_bad (row_good_of d s) 0 (length s / row_size_of d)
  bad_whole bad e is = rw e at is

-- ---- beside an index that fits

module _ (s x : List ℕ) (n : ℕ) (ok : index_fits (rows_at s 0 n) x ≡ true) where
  hash_new : (i : ℕ) → i < n → new_hash sizes.dependencies s i ≡ true
  unfolding new_hash hash_of
  hash_new i b =
      split (member (hash_at s (i * row_size)) (rows (rows_at s 0 i)))
      (λ m.
      let r = member_index (hash_at s (i * row_size)) (rows (rows_at s 0 i)) m in
      let c : r.0 < i = omega (arith, r.1, length_rows (rows_at s 0 i), length_rows_at s 0 i) in
      let long : length (rows_at s 0 n) ≡ n = length_rows_at s 0 n in
      let same : hash_at s (r.0 * row_size) ≡ hash_at s (i * row_size) = sym (hash_of_row s i r.0 c) ∙ r.2 in
      let once = hash_once (rows_at s 0 n) _ (index_fitting s x n ok).1 r.0 i (omega arith) (omega arith)
      (hash_of_row s n r.0 (omega arith) ∙ same ∙ sym (hash_of_row s n i b))
      in
      absurd (omega (arith, once)))
      (λ e. rw e)

  all_new : (i m : ℕ) → i + m ≤ n → first_bad (new_hash sizes.dependencies s) i m ≡ i + m
  unfolding first_bad
  all_new i zero b = omega arith
  all_new i (suc m) b =
      let next : suc i + m ≡ i + suc m = omega arith in
      rw (hash_new i (omega arith)) (all_new (suc i) m (omega arith) ∙ next)

  -- the rows' own bytes decide
  pub fit_sound : (unsound : ℕ) → unsound ≡ first_bad (row_sound_of sizes.dependencies s) 0 n → unsound ≡ first_bad (row_good s) 0 n
  fit_sound unsound e = bad_unsound sizes.dependencies s n unsound (first_bad (new_hash sizes.dependencies s) 0 n) e refl (omega (arith, all_new 0 n (omega arith), first_within (row_sound_of sizes.dependencies s) 0 n))

-- ---- a table of a width

-- whole records stand inside, and are no more than a limit if all bytes aren't
pub whole_inside : (long size : ℕ) → long / size * size ≤ long
whole_inside long size = omega (arith, div-add-mod' long size)

pub whole_few : (most long size : ℕ) → 0 < size → long ≤ most * size → long / size ≤ most
whole_few most long size some h = fewer (long / size) most size some (let inside = whole_inside long size in omega arith)

-- an order of all whole rows
pub rows_ordered : (d : ℕ) (s x : List ℕ) (n size : ℕ) → size ≡ row_size_of d → n ≡ length s / size → 2 * n ≤ length x
    → u16s_at x 0 n ≡ indexed (record_hash s size) n
    → (n ≡ length s / row_size_of d) × RowOrder d s x n
rows_ordered d s x n size is e room order =
    (rw is at e, record { inside = rw (e, ← is) (whole_inside (length s) size); entries = room; order = rw is at order })

module _ (w : Width) (size : ℕ) (is : size ≡ row_size_of w.dependencies) where
  pub limit_fits : Sized w → w.rows * size < 2 ^ 64
  limit_fits sized =
      let most : w.rows * size ≤ 65536 * 131104 = mul-le-mul {m₂ = 131104} sized.numbers (omega (arith, sized.counts)) in
      omega arith

  pub within_limit : (long : ℕ) → long ≤ w.rows * size → long ≤ w.rows * row_size_of w.dependencies
  within_limit long h = rw is at h

module _ (w : Width) (s : List ℕ) (size : ℕ) (is : size ≡ row_size_of w.dependencies) where
  pub past_limit : w.rows * size < length s → Err (PastSize 0) ≡ checked_as w s
  past_limit h = sym (table_past_of w.dependencies w.rows s (rw is at h))

  module _ (few : WithinRows w s) (bad : ℕ) (e : bad ≡ first_bad (row_good_of w.dependencies s) 0 (length s / row_size_of w.dependencies)) where
    pub answer_bad : bad < length s / size → Err (BadRow bad) ≡ checked_as w s
    answer_bad h = sym (table_bad_of w.dependencies w.rows s few bad e (rw is at h))

    pub answer_partial : length s / size ≤ bad → (length s % size ≡ 0 → ⊥) → Err (BadRow (length s / size)) ≡ checked_as w s
    answer_partial h rest = rw is (sym (table_partial_of w.dependencies w.rows s few bad e (rw is at h) (rw is at rest)))

    pub answer_good : length s / size ≤ bad → length s % size ≡ 0 → Ok (length s / size) ≡ checked_as w s
    answer_good h rest = rw is (sym (table_fine_of w.dependencies w.rows s few bad e (rw is at h) (rw is at rest)))

  pub past_in_order : (x : List ℕ) → w.rows * size < length s → CheckedInOrder w s x (Err (PastSize 0))
  past_in_order x h = record { answer = past_limit h; order = λ n q. absurd (let z : ◌≡◌ {A = ℕ} 0 1 = cc in omega arith) }

-- the order that a table was checked by, of as many rows as it has if it is good
pub left_in_order : (w : Width) (s x : List ℕ) (n : ℕ) (r : Result ℕ Refusal) → n ≡ length s / row_size_of w.dependencies → RowOrder w.dependencies s x n
    → r ≡ checked_as w s
    → CheckedInOrder w s x r
left_in_order w s x n r all rows is =
    record {
      answer = is;
      order =
          λ m good.
          let d = good_table_of w.dependencies w.rows s m (sym is ∙ good) in
          let same : n ≡ m = all ∙ sym d.count in
          rw same at rows;
    }

-- ---- each answer

module _ (s : List ℕ) where
  pub unfit_refused : (r : Refusal) → table_checked s ≡ Err r → passed_on (table_checked s) (Err BadIndex) ≡ Err r
  unfolding passed_on
  unfit_refused r e = rw e

  pub unfit_good : (n : ℕ) → table_checked s ≡ Ok n → passed_on (table_checked s) (Err BadIndex) ≡ Err BadIndex
  unfolding passed_on
  unfit_good n e = rw e

  module _ (x : List ℕ) where
    pub within_past : sizes.rows * row_size < length s → false ≡ fits_within s x
    unfolding fits_within
    within_past h = rw (lt-leb (length s) (sizes.rows * row_size) h)

    pub within_fits : length s ≤ sizes.rows * row_size → index_fits (rows_at s 0 (length s / row_size)) x ≡ fits_within s x
    unfolding fits_within
    within_fits h = rw (le-leb (length s) (sizes.rows * row_size) h)

    pub within_both : fits_within s x ≡ true → (length s ≤ sizes.rows * row_size) × (index_fits (rows_at s 0 (length s / row_size)) x ≡ true)
    unfolding fits_within
    within_both e =
        let p = both (leb (length s) (sizes.rows * row_size)) (index_fits (rows_at s 0 (length s / row_size)) x) e in
        (leb-true (length s) (sizes.rows * row_size) p.0, p.1)

    -- a table past its limit is refused whatever its index
    indexed_past : sizes.rows * row_size < length s → index_checked s x ≡ passed_on (table_checked s) (Err BadIndex)
    unfolding index_checked passed_on
    indexed_past h = rw (table_past s h)

    pub within_neither : fits_within s x ≡ false → index_checked s x ≡ passed_on (table_checked s) (Err BadIndex)
    within_neither e =
        split (ltb (sizes.rows * row_size) (length s))
        (λ h. indexed_past (ltb-true (sizes.rows * row_size) (length s) h))
        (λ h. unfit_decides s x (within_fits (ltb-false (sizes.rows * row_size) (length s) h) ∙ e))
