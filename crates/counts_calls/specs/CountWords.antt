-- The words of counts and totals, as exported calls are lent them and write them.
use Rattle.std.specs.Prelude.{ℕ, List, [], ◌∷◌, ◌≡◌, get_or, Result, Ok, Err}
use Rattle.call_words.specs.Answer.{refusal_words}
use Rattle.counts.specs.Totals.{added_to}
use Rattle.counts.specs.declared.totals.Counts.{Counts}
use Rattle.rules.specs.Refusal.{number_of, value_of}
use Rattle.rules.specs.declared.refusal.Refusal.{Refusal}

-- The counts of a capture behind 0, and two zeros; or the refusal.
abbrev pub counted_words : Result Counts Refusal → List ℕ
counted_words (Ok a) = 0 ∷ a.entries ∷ a.field_bits ∷ a.set_bits ∷ a.tested ∷ a.contained ∷ 0 ∷ 0 ∷ []
counted_words (Err r) = number_of r ∷ value_of r ∷ 0 ∷ 0 ∷ 0 ∷ 0 ∷ 0 ∷ 0 ∷ []

-- Of totals nothing is answered but that they were added to; or the refusal.
abbrev pub added_words : Result Counts Refusal → List ℕ
added_words (Ok a) = 0 ∷ 0 ∷ 0 ∷ 0 ∷ []
added_words (Err r) = refusal_words r

-- The totals that five words are.
abbrev pub totals_of : List ℕ → Counts
totals_of w =
    record {
      entries = get_or w 0 0;
      field_bits = get_or w 1 0;
      set_bits = get_or w 2 0;
      tested = get_or w 3 0;
      contained = get_or w 4 0;
    }

-- The words of totals behind an answer: after a refusal those of before.
abbrev pub totals_after : List ℕ → Result Counts Refusal → List ℕ
totals_after before (Ok a) = a.entries ∷ a.field_bits ∷ a.set_bits ∷ a.tested ∷ a.contained ∷ []
totals_after before (Err r) = before

-- Counts added to totals that are lent: the totals at exit, and the answer.
pub record CountsAdded (before : List ℕ) (counts : Counts) (after words : List ℕ) : Type 0 where
  pub answer : words ≡ added_words (added_to (totals_of before) counts)
  pub content : after ≡ totals_after before (added_to (totals_of before) counts)
