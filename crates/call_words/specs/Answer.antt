-- The words of an answer, as exported calls write them: 0 and what was found, or the refusal's number and value.
use Rattle.std.specs.Prelude.{ℕ, List, [], ◌∷◌, ◌≡◌, length, Result, Ok, Err}
use Rattle.rules.specs.Output.{Output, answer_of, content_of}
use Rattle.rules.specs.Refusal.{number_of, value_of}
use Rattle.rules.specs.declared.refusal.Refusal.{Refusal}

-- A refusal: its number, its value and zeros.
abbrev pub refusal_words : Refusal → List ℕ
refusal_words r = number_of r ∷ value_of r ∷ 0 ∷ 0 ∷ []

-- What a call answers that writes or checks: 0 and how many bytes it wrote, or how many rows or records it found good; or the refusal.
abbrev pub write_words : Result ℕ Refusal → List ℕ
write_words (Ok count) = 0 ∷ count ∷ 0 ∷ 0 ∷ []
write_words (Err r) = refusal_words r

-- A writing call: its words, and the buffer at exit.
pub record Answered (o : Output) (before after words : List ℕ) : Type 0 where
  pub answer : words ≡ write_words (answer_of o (length before))
  pub content : after ≡ content_of o before
