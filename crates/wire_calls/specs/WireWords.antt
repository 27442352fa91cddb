-- The words of an answer, as exported calls write them: 0 and what was found, or the refusal's number and value.
use Rattle.std.specs.Prelude.{ℕ, List, [], ◌∷◌, Result, Ok, Err}
use Rattle.call_words.specs.Answer.{refusal_words}
use Rattle.rules.specs.declared.refusal.Refusal.{Refusal}
use Rattle.wire.specs.declared.parse.Run.{Run}

-- A number and the next place, behind 0; or the refusal.
abbrev pub number_words : Result (ℕ × ℕ) Refusal → List ℕ
number_words (Ok (n, next)) = 0 ∷ n ∷ next ∷ 0 ∷ []
number_words (Err r) = refusal_words r

-- Where a string's bytes start and end, behind 0; or the refusal.
abbrev pub prefixed_words : Result (ℕ × ℕ) Refusal → List ℕ
prefixed_words (Ok (start, end)) = 0 ∷ start ∷ end ∷ 0 ∷ []
prefixed_words (Err r) = refusal_words r

-- Where the hashes stand, how many they are and the next place, behind 0; or the refusal.
abbrev pub hash_list_words : Result (Run × ℕ) Refusal → List ℕ
hash_list_words (Ok (hashes, next)) = 0 ∷ hashes.start ∷ hashes.count ∷ next ∷ []
hash_list_words (Err r) = refusal_words r
