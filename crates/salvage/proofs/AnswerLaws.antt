-- What is answered and what both buffers hold then: a law for each way to end, with the numbers of what was decided.
use Prim.Native.Nat.{ℕ, ◌+◌, ◌-◌, ◌*◌, ◌/◌, ◌%◌, ◌^◌, ◌≤◌, ◌<◌}
use mathlib.Core.List.{List, map}
use mathlib.Core.Path.{◌≡◌, refl, sym, ap, ◌∙◌}
use native.Mathlib.Nat.{div-add-mod', mul-le-mul}
use native.Mathlib.Omega.{arith}
use borrow.Author.Tests.{lt-ltb, le-ltb}
use lib.ListN.{length}
use lib.Seq.{sets}
use Rattle.rules.specs.Sizes.{sizes}
use Rattle.rules.specs.declared.refusal.Refusal.TheVariants.{PastSize, NoRoom}
use Rattle.salvage_rules.proofs.DecideLaws.{kept_few}
use Rattle.salvage_rules.specs.Internal.Decided.{Decided}
use Rattle.salvage_rules.specs.KeptRows.{kept_of}
use Rattle.table.specs.TableBytes.{row_size_of}
use Rattle.table.specs.TableWritten.{table_bytes_of}
use Rattle.table_check.proofs.CheckLaws.{whole_inside, whole_few}
use Rattle.salvage.specs.Internal.Putting.{RowsDecided, told_words}
use Rattle.salvage.specs.Salvaged.{report_of, new_row, new_table, salvage, report_words, salvage_answer, SalvageCalled}
use Rattle.salvage.proofs.PutLaws.{rows_long, report_long, words_told}
use Rattle.salvage.proofs.SalvagedLaws.{all_told}
use Rattle.rules.specs.declared.refusal.Refusal.{Refusal}
use Rattle.salvage.specs.declared.salvage.Amounts.{Amounts}
use Rattle.std.specs.Prelude.{Result, Ok, Err}

-- 4
pub called_long : (d most : ℕ) (s rows report : List ℕ) → most * row_size_of d < length s → SalvageCalled d most s rows rows report report (Err (PastSize 0))
unfolding salvage_answer
called_long d most s rows report h =
    let long = lt-ltb (most * row_size_of d) (length s) h in
    record { answer = rw long; table = rw long; told = rw long }

partial_of : (d : ℕ) (s : List ℕ) → length s % row_size_of d ≡ (salvage d s).partial
unfolding salvage
partial_of d s = refl

-- what is decided is ready to be put
pub decided_ready : (d most : ℕ) (s : List ℕ) (rules places : List ℕ) (kept : ℕ) → 0 < row_size_of d → length s ≤ most * row_size_of d
    → most ≤ length rules
    → most ≤ length places
    → Decided d s (length s / row_size_of d) rules places kept
    → RowsDecided d s (length s / row_size_of d) rules places kept
decided_ready d most s rules places kept some short rulesLong placesLong decided =
    let few = whole_few most (length s) (row_size_of d) some short in
    record { inside = whole_inside (length s) (row_size_of d); rules_long = omega arith; places_long = omega arith; decided = decided }

module _ (d : ℕ) (s : List ℕ) (n : ℕ) (rules places : List ℕ) (kept : ℕ) (r : RowsDecided d s n rules places kept) where
  pub kept_most : kept ≤ n
  kept_most = omega (arith, r.decided.count, kept_few d s n)

  pub kept_fits : n ≤ sizes.rows → d < 65536 → (kept + 1) * row_size_of d < 2 ^ 64
  kept_fits few wide =
      let most : (kept + 1) * row_size_of d ≤ 8193 * 131104 = mul-le-mul {m₂ = 131104} (let z : kept + 1 ≤ 8193 = omega (arith, kept_most) in z) (let z : row_size_of d ≤ 131104 = omega arith in z) in
      omega arith

  -- the numbers of what is put
  bytes_are : n ≡ length s / row_size_of d → table_bytes_of d (map (new_row d s (kept_of d s n)) (kept_of d s n)) ≡ (salvage d s).bytes
  unfolding salvage new_table
  bytes_are e = ap (λ (k : ℕ). table_bytes_of d (map (new_row d s (kept_of d s k)) (kept_of d s k))) e

  report_is : n ≡ length s / row_size_of d → report_of d s n ≡ (salvage d s).report
  unfolding salvage
  report_is e = ap (report_of d s) e

  words_are : n ≡ length s / row_size_of d → told_words rules n ≡ report_words (salvage d s).report
  words_are e = words_told d s rules n r.decided.rule ∙ ap report_words (report_is e)

  size_is : (size : ℕ) → n ≡ length s / row_size_of d → size ≡ kept * row_size_of d → length (salvage d s).bytes ≡ size
  size_is size e q = sym (ap length (bytes_are e)) ∙ rows_long d s n ∙ ap (λ (k : ℕ). k * row_size_of d) (sym r.decided.count) ∙ sym q

  entries_are : n ≡ length s / row_size_of d → length (salvage d s).report ≡ n - kept
  entries_are e = sym (ap length (report_is e)) ∙ (let z : length (report_of d s n) ≡ n - kept = omega (arith, all_told d s n, r.decided.count) in z)

  pub words_fit : (long : ℕ) → n ≡ length s / row_size_of d → n - kept ≤ long / 2 → length (told_words rules n) ≤ long
  words_fit long e room =
      omega (arith, ap length (words_are e), report_long (salvage d s).report, entries_are e, div-add-mod' long 2)

  module _ (most : ℕ) (rows report : List ℕ) (size : ℕ) (e : n ≡ length s / row_size_of d) (short : length s ≤ most * row_size_of d) (q : size ≡ kept * row_size_of d) where
    -- 7 for the rows
    pub called_rows : length rows < size → SalvageCalled d most s rows rows report report (Err (NoRoom size))
    unfolding salvage_answer
    called_rows h =
        let fits = le-ltb (most * row_size_of d) (length s) short in
        let less = lt-ltb (length rows) size h in
        record { answer = rw (fits, size_is size e q, less); table = rw (fits, size_is size e q, less); told = rw (fits, size_is size e q, less) }

    module _ (room : size ≤ length rows) where
      -- 7 for the report
      pub called_report : length report / 2 < n - kept → SalvageCalled d most s rows rows report report (Err (NoRoom (n - kept)))
      unfolding salvage_answer
      called_report h =
          let fits = le-ltb (most * row_size_of d) (length s) short in
          let enough = le-ltb (length rows) size room in
          let less = lt-ltb (length report / 2) (n - kept) h in
          record {
            answer = rw (fits, size_is size e q, enough, entries_are e, less);
            table = rw (fits, size_is size e q, enough, entries_are e, less);
            told = rw (fits, size_is size e q, enough, entries_are e, less);
          }

      -- all of it put
      pub called_done : (rows-after report-after : List ℕ) (row : ℕ) → n - kept ≤ length report / 2
          → rows-after ≡ sets rows 0 (table_bytes_of d (map (new_row d s (kept_of d s n)) (kept_of d s n)))
          → report-after ≡ sets report 0 (told_words rules n)
          → row ≡ row_size_of d
          → SalvageCalled d most s rows rows-after report report-after (Ok (record { rows = size; report = n - kept; partial = length s % row }))
      unfolding salvage_answer
      called_done rows-after report-after row h put told is =
          let fits = le-ltb (most * row_size_of d) (length s) short in
          let enough = le-ltb (length rows) size room in
          let space = le-ltb (length report / 2) (n - kept) h in
          record {
            answer = rw (fits, size_is size e q, enough, entries_are e, space, is) (partial_is d s size (n - kept));
            table = rw (fits, size_is size e q, enough, entries_are e, space) (put ∙ ap (sets rows 0) (bytes_are e));
            told = rw (fits, size_is size e q, enough, entries_are e, space) (told ∙ ap (sets report 0) (words_are e));
          }
        where
          partial_is : (d : ℕ) (s : List ℕ) (a b : ℕ)
              → ◌≡◌ {A = Result Amounts Refusal} (Ok (record { rows = a; report = b; partial = length s % row_size_of d })) (Ok (record { rows = a; report = b; partial = (salvage d s).partial }))
          partial_is d s a b = ap {B = Result Amounts Refusal} (λ (k : ℕ). Ok (record { rows = a; report = b; partial = k })) (partial_of d s)
