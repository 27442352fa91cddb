-- The words of an answer, as exported calls write them: 0 and what was salvaged, or the refusal's number and value.
use Rattle.std.specs.Prelude.{ℕ, ◌/◌, List, [], ◌∷◌, ◌≡◌, length, Result, Ok, Err}
use Rattle.call_words.specs.Answer.{refusal_words}
use Rattle.rules.specs.Sizes.{sizes}
use Rattle.salvage.specs.Salvaged.{salvage, report_words, salvage_answer, buffer_after}
use Rattle.rules.specs.declared.refusal.Refusal.{Refusal}
use Rattle.salvage.specs.declared.salvage.Amounts.{Amounts}

-- The bytes of the rows, the entries of the report and the bytes of a partial last record, behind 0; or the refusal.
abbrev pub salvage_words : Result Amounts Refusal → List ℕ
salvage_words (Ok a) = 0 ∷ a.rows ∷ a.report ∷ a.partial ∷ []
salvage_words (Err r) = refusal_words r

-- What is answered of a table of today's width, for buffers of so many bytes and so many words.
abbrev pub salvage_of : List ℕ → ℕ → ℕ → Result Amounts Refusal
salvage_of s bytes words = salvage_answer sizes.dependencies sizes.rows s bytes (words / 2)

-- The words, and both buffers at exit.
pub record SalvageAnswered (s rows rows-after report report-after words : List ℕ) : Type 0 where
  pub answer : words ≡ salvage_words (salvage_of s (length rows) (length report))
  pub table : rows-after ≡ buffer_after (salvage_of s (length rows) (length report)) (salvage sizes.dependencies s).bytes rows
  pub told : report-after ≡ buffer_after (salvage_of s (length rows) (length report)) (report_words (salvage sizes.dependencies s).report) report
