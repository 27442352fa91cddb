-- What building and extending write: entries and their bytes, and one law for each way through the tests.
use Prim.Native.Nat.{ℕ, ◌+◌, ◌-◌, ◌*◌, ◌/◌, ◌≤◌, ◌<◌}
use mathlib.Core.Bool.{true, false}
use mathlib.Core.List.{List}
use mathlib.Core.Path.{◌≡◌, refl, sym, ap, ◌∙◌}
use native.Mathlib.Nat.{zero-add}
use native.Mathlib.Omega.{arith}
use borrow.Author.Tests.{ltb-true, lt-ltb, eq-eqb}
use lib.Dec.{ltb}
use lib.ListN.{length, get_or, take, drop, get_or-append}
use lib.Seq.{sets, sets-eq, ext_get_or}
use Rattle.table_index.proofs.ByteLaws.{length_u16s, entry}
use Rattle.table_index.proofs.FitLaws.{index_fitting}
use Rattle.table_index.proofs.IndexLaws.{index_length, index_member_below}
use Rattle.table_index.proofs.LookLaws.{good_fits, fits_is_index}
use Rattle.table_index.specs.Index.{put, indexed, index_of, index_fits, index_checked}
use Rattle.rules.proofs.Cases.{both}
use Rattle.rules.specs.Hash.{Bytes}
use Rattle.rules.specs.Output.{Output}
use Rattle.rules.specs.Sizes.{sizes}
use Rattle.rules.specs.declared.refusal.Refusal.TheVariants.{PastSize, BadIndex}
use Rattle.rules.specs.declared.refusal.Refusal.{Refusal}
use Rattle.table.proofs.CheckLaws.{table_past}
use Rattle.table.proofs.GoodLaws.{accepted_rows, good_part}
use Rattle.table.proofs.TableLaws.{table_good}
use Rattle.table.proofs.TwoBytes.{length_twos_bytes, twos_at_bytes, twos_back, twos_bytes}
use Rattle.table.specs.TableBytes.{u16s_at, u16s_bytes, row_size, rows_at, table_of, whole_rows_of, table_checked}
use Rattle.table.specs.TableCalls.{after_check, passed_on}
use Rattle.table.specs.Table.{Row, GoodTable, hash_of}
use Rattle.table_index_build.specs.Indexing.{built_output, fits_but_last, extended_output}
use Rattle.table_index_build.proofs.ExtendLaws.{index_next, index_records}
use Rattle.table_check.specs.Internal.Repeats.{RowOrder}
use Rattle.table_order.proofs.EntryLaws.{u16_same}
use Rattle.std.specs.Prelude.{Result, Ok, Err}

-- ---- entries and their bytes

pub index_size : (s : List ℕ) (n : ℕ) → 2 * n ≡ length (u16s_bytes (u16s_at s 0 n))
index_size s n = sym (length_twos_bytes (u16s_at s 0 n) ∙ ap (λ (k : ℕ). 2 * k) (length_u16s s 0 n))

pub index_put : (s out next : List ℕ) (n : ℕ) → Bytes s → 2 * n ≤ length s → next ≡ sets out 0 (take (2 * n) s) → next ≡ sets out 0 (u16s_bytes (u16s_at s 0 n))
index_put s out next n b h e =
    let same : u16s_bytes (u16s_at s 0 n) ≡ take (2 * n) s = rw zero-add at (twos_at_bytes s 0 n b (omega arith)) in
    rw same e

-- bytes that were copied to the start of others have the same entries
pub entries_copied : (x d next : List ℕ) (n : ℕ) → length x ≡ 2 * n → length x ≤ length d → next ≡ sets d 0 x → u16s_at next 0 n ≡ u16s_at x 0 n
entries_copied x d next n long room e =
    let here : (j : ℕ) → j < length x → get_or next j 0 ≡ get_or x j 0 =
    λ j b. rw (e, sets-eq x d 0 (omega arith)) (get_or-append x (drop (0 + length x) d) 0 j b)
    in
    ext_get_or 0 (u16s_at next 0 n) (u16s_at x 0 n) (length_u16s next 0 n ∙ sym (length_u16s x 0 n))
    (λ k b.
    let c : k < n = omega (arith, length_u16s next 0 n) in
    entry next n k c
    ∙ u16_same next x (2 * k) (2 * k) (here (2 * k) (omega arith)) (here (2 * k + 1) (omega arith))
    ∙ sym (entry x n k c))

-- ---- the table's check

-- the index of a table is the order of its rows
pub index_order : (s x : List ℕ) (n : ℕ) → n ≡ length s / row_size → 2 * n ≤ length x → u16s_at x 0 n ≡ index_of (rows_at s 0 n) → RowOrder sizes.dependencies s x n
index_order s x n e room is = record { inside = omega arith; entries = room; order = is ∙ index_records s n }

module _ (s : List ℕ) where
  -- ---- built

  pub built_refused : (r : Refusal) → table_checked s ≡ Err r → built_output s ≡ Output.refuse r
  unfolding built_output after_check
  built_refused r e = rw e

  pub built_past : sizes.rows * row_size < length s → built_output s ≡ Output.refuse (PastSize 0)
  built_past h = built_refused (PastSize 0) (table_past s h)

  pub built_written : (n k : ℕ) (l : List ℕ) → table_checked s ≡ Ok k → n ≡ length s / row_size → l ≡ index_of (rows_at s 0 n)
      → built_output s ≡ Output.bytes (u16s_bytes l)
  unfolding built_output after_check whole_rows_of
  built_written n k l good e is = rw (good, is, e)

  -- ---- extended

  module _ (x : List ℕ) where
    pub extend_refused : (r : Refusal) → table_checked s ≡ Err r → extended_output s x ≡ Output.refuse r
    unfolding extended_output after_check
    extend_refused r e = rw e

    pub extend_past : sizes.rows * row_size < length s → extended_output s x ≡ Output.refuse (PastSize 0)
    extend_past h = extend_refused (PastSize 0) (table_past s h)

    pub last_none : (n : ℕ) → n ≡ 0 → fits_but_last s n x ≡ false
    unfolding fits_but_last
    last_none n e = rw e

    pub last_some : (n : ℕ) → (n ≡ 0 → ⊥) → fits_but_last s n x ≡ index_fits (rows_at s 0 (n - 1)) x
    unfolding fits_but_last
    last_some n d = rw (lt-ltb 0 n (omega arith))

    -- what fits all rows but the last is their index
    pub last_fits : (n : ℕ) → fits_but_last s n x ≡ true
        → (0 < n) × (length x ≡ 2 * (n - 1)) × (u16s_at x 0 (n - 1) ≡ index_of (rows_at s 0 (n - 1)))
    unfolding fits_but_last
    last_fits n e =
        let p = both (ltb 0 n) (index_fits (rows_at s 0 (n - 1)) x) e in
        let q = index_fitting s x (n - 1) p.1 in
        (ltb-true 0 n p.0, q.0, fits_is_index (rows_at s 0 (n - 1)) (u16s_at x 0 (n - 1)) q.1)

    -- with the last row put in it is the index of all
    last_put : (n : ℕ) → n ≡ length s / row_size → fits_but_last s n x ≡ true → put (hash_of (table_of s)) (n - 1) (u16s_at x 0 (n - 1)) ≡ index_of (table_of s)
    unfolding whole_rows_of
    last_put n e ok =
        let f = last_fits n ok in
        let m : n - 1 + 1 ≡ length s / row_size = omega (arith, f.0) in
        rw m at (sym (index_next s x (n - 1) f.2))

    -- an index extended by the last row is the one built afresh
    pub extended_is_built : (n : ℕ) → table_checked s ≡ Ok n → fits_but_last s n x ≡ true → extended_output s x ≡ built_output s
    unfolding extended_output built_output after_check
    extended_is_built n good ok = rw (good, ok, last_put n (table_good s n good).count ok)

    module _ (n : ℕ) (e : n ≡ length s / row_size) where
      pub extend_unfit : (k : ℕ) → table_checked s ≡ Ok k → fits_but_last s n x ≡ false → extended_output s x ≡ Output.refuse BadIndex
      unfolding extended_output after_check
      extend_unfit k good unfit =
          let same : n ≡ k = e ∙ sym (table_good s k good).count in
          rw (good, rw same at unfit)

      pub extend_written : fits_but_last s n x ≡ true → extended_output s x ≡ built_output s
      extend_written ok = decided (table_checked s) refl
        where
          decided : (c : Result ℕ Refusal) → table_checked s ≡ c → extended_output s x ≡ built_output s
          decided (Ok k) q = extended_is_built k q (let same : n ≡ k = e ∙ sym (table_good s k q).count in rw same at ok)
          decided (Err r) q = extend_refused r q ∙ sym (built_refused r q)

-- ---- what is built fits

-- the index of a good table fits it as bytes
bytes_fit : (t : List Row) → GoodTable t → index_fits t (u16s_bytes (index_of t)) ≡ true
unfolding index_fits index_of
bytes_fit t good =
    let long : length (indexed (hash_of t) (length t)) ≡ length t = index_length (hash_of t) (length t) in
    let size : length (u16s_bytes (indexed (hash_of t) (length t))) ≡ 2 * length t =
    length_twos_bytes (indexed (hash_of t) (length t)) ∙ ap (λ (k : ℕ). 2 * k) long
    in
    let back : u16s_at (u16s_bytes (indexed (hash_of t) (length t))) 0 (length t) ≡ indexed (hash_of t) (length t) =
    rw long at (twos_back (indexed (hash_of t) (length t)))
    in
    rw (eq-eqb (length (u16s_bytes (indexed (hash_of t) (length t)))) (2 * length t) size, back) (good_fits t good)

-- so the index of all rows but the last is extended, never refused, and gives the index that is built of them all
pub built_extends : (s : List ℕ) (n : ℕ) → table_checked s ≡ Ok n → 0 < n
    → extended_output s (u16s_bytes (index_of (rows_at s 0 (n - 1)))) ≡ built_output s
unfolding fits_but_last
built_extends s n good some =
    let part = good_part s n (n - 1) (accepted_rows s n good) (omega arith) in
    extended_is_built s (u16s_bytes (index_of (rows_at s 0 (n - 1)))) n good
    (rw (lt-ltb 0 n some) (bytes_fit (rows_at s 0 (n - 1)) part.good))

module _ (s : List ℕ) (n : ℕ) (good : table_checked s ≡ Ok n) where
  pub built_fits : index_fits (table_of s) (u16s_bytes (index_of (table_of s))) ≡ true
  built_fits = bytes_fit (table_of s) (table_good s n good).good

  pub built_bytes : Bytes (u16s_bytes (index_of (table_of s)))
  unfolding index_of
  built_bytes =
      let t : List Row = table_of s in
      let d = table_good s n good in
      twos_bytes (indexed (hash_of t) (length t)) (λ x m. omega (arith, index_member_below (hash_of t) (length t) x m, d.long, d.few))

  -- so the table is accepted beside it
  pub built_accepted : index_checked s (u16s_bytes (index_of (table_of s))) ≡ Ok n
  unfolding index_checked passed_on
  built_accepted = rw (good, built_fits)
