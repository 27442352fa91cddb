-- A change table hurt in the field: the new table, the report and the answer. 02, M-109. Which rows are kept is said in salvage_rules KeptRows. A row has room
-- for d dependencies, a table for `most` rows.
use Rattle.std.specs.Prelude.{ℕ, zero, suc, ◌+◌, ◌*◌, ◌/◌, ◌%◌, ◌≤◌, ◌<◌, true, cond, not, ◌&&◌, List, [], ◌∷◌, ◌++◌, map, ◌≡◌, ltb, length, get_or, Result, Ok, Err}
use Rattle.std.proofs.Math.Option.{Option, none, some}
use Rattle.std.proofs.lemmas.List.Edits.{sets}
use Rattle.hash_order.specs.Order.{member, keep, ascends}
use Rattle.rules.specs.Hash.{Bytes}
use Rattle.rules.specs.declared.refusal.Refusal.TheVariants.{PastSize, NoRoom}
use Rattle.table.specs.Table.{Row, GoodTable, hash_of, deps_of, index_in}
use Rattle.table.specs.TableBytes.{row_size_of, used_of, whole_rows_of, table_checked_of}
use Rattle.table.specs.TableWritten.{table_bytes_of}
use Rattle.salvage_rules.specs.KeptRows.{Rule, rule_number, row_hash, broken_rule, kept_of, IsKept}
use Rattle.rules.specs.declared.refusal.Refusal.{Refusal}
use Rattle.salvage.specs.declared.salvage.Amounts.{Amounts}

-- An entry of the report: a dropped row's number and the first rule that it broke.
pub record Entry : Type 0 where
  pub row : ℕ
  pub rule : Rule

-- A row that breaks a rule is told.
abbrev pub dropped_if : Option Rule → ℕ → List Entry
dropped_if none i = []
dropped_if (some r) i = record { row = i; rule = r } ∷ []

-- An entry for each dropped one of the first n rows.
unfoldable pub report_of : ℕ → List ℕ → ℕ → List Entry
report_of d s zero = []
report_of d s (suc n) = report_of d s n ++ dropped_if (broken_rule d s (kept_of d s n) n) n

-- A kept row, its numbers adjusted to where its dependencies stand among the kept rows.
unfoldable pub new_row : ℕ → List ℕ → List ℕ → ℕ → Row
new_row d s kept i = record { hash = row_hash d s i; deps = map (index_in kept) (used_of d s i) }

-- The new table: the kept rows in order.
unfoldable pub new_table : ℕ → List ℕ → List Row
new_table d s = map (new_row d s (kept_of d s (length s / row_size_of d))) (kept_of d s (length s / row_size_of d))

-- What salvaging gives: the rows as bytes, the report, and how many bytes of a partial last record there are.
pub record Salvaged : Type 0 where
  pub bytes : List ℕ
  pub report : List Entry
  pub partial : ℕ

-- The hurt table salvaged.
unfoldable pub salvage : ℕ → List ℕ → Salvaged
salvage d s =
    record {
      bytes = table_bytes_of d (new_table d s);
      report = report_of d s (length s / row_size_of d);
      partial = length s % row_size_of d;
    }

-- ---- the call

-- A report as numbers: two for each entry.
unfoldable pub report_words : List Entry → List ℕ
report_words [] = []
report_words (e ∷ es) = e.row ∷ rule_number e.rule ∷ report_words es

-- 4 for too long a table; then 7 with the bytes wanted for the rows, and 7 with the entries wanted for the report.
unfoldable pub salvage_answer : ℕ → ℕ → List ℕ → ℕ → ℕ → Result Amounts Refusal
salvage_answer d most s rowsRoom reportRoom =
    cond (ltb (most * row_size_of d) (length s))
    (Err (PastSize 0))
    (cond (ltb rowsRoom (length (salvage d s).bytes))
    (Err (NoRoom (length (salvage d s).bytes)))
    (cond (ltb reportRoom (length (salvage d s).report))
    (Err (NoRoom (length (salvage d s).report)))
    (Ok (record { rows = length (salvage d s).bytes; report = length (salvage d s).report; partial = (salvage d s).partial }))))

-- A buffer at exit: the numbers at its start and the rest as it was; after a refusal all of it as it was.
abbrev pub buffer_after : Result Amounts Refusal → List ℕ → List ℕ → List ℕ
buffer_after (Ok a) l before = sets before 0 l
buffer_after (Err r) l before = before

-- The answer and both buffers at exit. An entry has two words, so that a report buffer has room for half as many entries.
pub record SalvageCalled (d most : ℕ) (s rows rows-after report report-after : List ℕ) (r : Result Amounts Refusal) : Type 0 where
  pub answer : r ≡ salvage_answer d most s (length rows) (length report / 2)
  pub table : rows-after ≡ buffer_after (salvage_answer d most s (length rows) (length report / 2)) (salvage d s).bytes rows
  pub told : report-after ≡ buffer_after (salvage_answer d most s (length rows) (length report / 2)) (report_words (salvage d s).report) report

-- ---- what is shown of it

-- The rows of a report.
abbrev pub rows_told : List Entry → List ℕ
rows_told l = map (λ (e : Entry). e.row) l

-- A report by 02's sentence alone: an entry for each row that isn't kept, in order, with the first rule that it broke.
pub record IsReport (d : ℕ) (s : List ℕ) (n : ℕ) (K : List ℕ) (report : List Entry) : Type 0 where
  pub ascending : ascends (rows_told report) ≡ true
  pub dropped : (i : ℕ) → member i (rows_told report) ≡ (ltb i n && not (member i K))
  pub first : (p : ℕ) (e : Entry) → p < length report → get_or report p e ≡ e
      → broken_rule d s (keep (λ k. ltb k e.row) K) e.row ≡ some e.rule
  pub all : length K + length report ≡ n

-- All that is shown of a salvaged table.
pub record Salvages (d most : ℕ) (s : List ℕ) : Type 0 where
  -- which rows are kept: those of 02's sentence, and no others are
  pub kept : IsKept d s (length s / row_size_of d) (kept_of d s (length s / row_size_of d))
  pub one : (K : List ℕ) → IsKept d s (length s / row_size_of d) K → K ≡ kept_of d s (length s / row_size_of d)
  -- what the report says
  pub told : IsReport d s (length s / row_size_of d) (kept_of d s (length s / row_size_of d)) (salvage d s).report
  -- the result is a good table: as a value, and as bytes
  pub table : GoodTable (new_table d s)
  pub values : whole_rows_of d (salvage d s).bytes ≡ new_table d s
  pub good : table_checked_of d most (salvage d s).bytes ≡ Ok (length (new_table d s))
  pub bytes : Bytes (salvage d s).bytes
  -- kept rows stay in order, and their dependencies are the same changes: the hashes of the rows that they named
  pub order : (p : ℕ) → p < length (kept_of d s (length s / row_size_of d))
      → hash_of (new_table d s) p ≡ row_hash d s (get_or (kept_of d s (length s / row_size_of d)) p 0)
  pub same : (p : ℕ) → p < length (kept_of d s (length s / row_size_of d))
      → map (hash_of (new_table d s)) (deps_of (new_table d s) p)
      ≡ map (row_hash d s) (used_of d s (get_or (kept_of d s (length s / row_size_of d)) p 0))
  -- a good table comes out as it went in, with nothing reported
  pub unhurt : (n : ℕ) → table_checked_of d most s ≡ Ok n
      → ((salvage d s).bytes ≡ s) × ((salvage d s).report ≡ []) × ((salvage d s).partial ≡ 0)
  -- salvaging the result reports nothing and changes nothing
  pub again : ((salvage d (salvage d s).bytes).report ≡ [])
      × ((salvage d (salvage d s).bytes).partial ≡ 0)
      × ((salvage d (salvage d s).bytes).bytes ≡ (salvage d s).bytes)
  -- nothing reported and nothing partial is a good table
  pub silent : (salvage d s).report ≡ [] → (salvage d s).partial ≡ 0 → table_checked_of d most s ≡ Ok (length s / row_size_of d)

-- For bytes within the limit of a table whose counts and row numbers have two bytes.
abbrev pub M109 : Type 0
M109 = (d most : ℕ) (s : List ℕ) → d < 65536 → most ≤ 65536 → length s ≤ most * row_size_of d → Bytes s → Salvages d most s
