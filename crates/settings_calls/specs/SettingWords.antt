-- The words of an answer, as exported calls write them: 0 and what was found, or the refusal's number and value.
use Rattle.std.specs.Prelude.{ℕ, List, [], ◌∷◌, Result, Ok, Err}
use Rattle.call_words.specs.Answer.{refusal_words}
use Rattle.rules.specs.declared.refusal.Refusal.{Refusal}
use Rattle.settings.specs.declared.choice.Choice.{Choice}

-- The choice, behind 0; or the refusal.
abbrev pub setting_words : Result Choice Refusal → List ℕ
setting_words (Ok c) = 0 ∷ c.bits ∷ c.probes ∷ c.read_only ∷ []
setting_words (Err r) = refusal_words r
