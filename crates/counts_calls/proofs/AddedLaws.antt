-- Totals that are lent as words, with counts added to them.
use Prim.Native.Nat.{ℕ}
use mathlib.Core.List.{List}
use mathlib.Core.Path.{◌≡◌, ap, ◌∙◌}
use Rattle.counts.specs.Totals.{added_to}
use Rattle.counts.specs.declared.totals.Counts.{Counts}
use Rattle.counts_calls.specs.CountWords.{added_words, totals_of, totals_after, CountsAdded}
use Rattle.std.specs.Prelude.{Result}
use Rattle.rules.specs.declared.refusal.Refusal.{Refusal}

pub counts_added : (before after words : List ℕ) (t counts : Counts) (r : Result Counts Refusal) → t ≡ totals_of before → r ≡ added_to t counts → after ≡ totals_after before r
    → words ≡ added_words r
    → CountsAdded before counts after words
counts_added before after words t counts r e f g h =
    let is : r ≡ added_to (totals_of before) counts = f ∙ ap (λ (x : Counts). added_to x counts) e in
    record { answer = h ∙ ap added_words is; content = g ∙ ap (totals_after before) is }
