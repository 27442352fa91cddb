-- The words of an answer, as exported calls write them: 0 and what was found, or the refusal's number and value.
use Rattle.std.specs.Prelude.{ℕ, List, [], ◌∷◌, Result, Ok, Err, Bool, true, false}
use Rattle.rules.specs.Refusal.{number_of, value_of}
use Rattle.call_words.specs.Answer.{refusal_words}
use Rattle.rules.specs.declared.refusal.Refusal.{Refusal}
use Rattle.bloom.specs.declared.have.FilterNumbers.{FilterNumbers}

-- A filter that was read: 0, its three numbers, place and size of its field, the next place and the bytes ignored; or the refusal.
abbrev pub filter_words : Result (FilterNumbers × ℕ × ℕ) Refusal → List ℕ
filter_words (Ok (f, next, ignored)) = 0 ∷ f.entries ∷ f.bits ∷ f.probes ∷ f.place ∷ f.size ∷ next ∷ ignored ∷ []
filter_words (Err r) = number_of r ∷ value_of r ∷ 0 ∷ 0 ∷ 0 ∷ 0 ∷ 0 ∷ 0 ∷ []

-- 1 for yes and 0 for no, behind 0; or the refusal.
abbrev pub contained_words : Result Bool Refusal → List ℕ
contained_words (Ok true) = 0 ∷ 1 ∷ 0 ∷ 0 ∷ []
contained_words (Ok false) = 0 ∷ 0 ∷ 0 ∷ 0 ∷ []
contained_words (Err r) = refusal_words r
