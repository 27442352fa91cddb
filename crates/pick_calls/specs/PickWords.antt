-- The words of a check's answer, as an exported call writes them.
use Rattle.std.specs.Prelude.{ℕ, List, [], ◌∷◌, Result, Ok, Err}
use Rattle.call_words.specs.Answer.{refusal_words}
use Rattle.rules.specs.declared.refusal.Refusal.{Refusal}

-- Of an accepted pick nothing is answered but that it is; or the refusal.
abbrev pub pick_words : Result Unit Refusal → List ℕ
pick_words (Ok tt) = 0 ∷ 0 ∷ 0 ∷ 0 ∷ []
pick_words (Err r) = refusal_words r
