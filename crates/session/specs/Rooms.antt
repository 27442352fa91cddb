-- Room for what is put into lent lists. 01, Refusal numbers, 7: the first list that is too short says which length it wants.
use Rattle.std.specs.Prelude.{ℕ, cond, ltb, Result, Ok, Err}
use Rattle.rules.specs.declared.refusal.Refusal.{Refusal}
use Rattle.rules.specs.declared.refusal.Refusal.TheVariants.{NoRoom}

-- One list: the length wanted where it is too short for what it is to hold, or what the rest of the lists say.
abbrev pub or_short : ℕ → ℕ → Result Unit ℕ → Result Unit ℕ
or_short room wanted rest = cond (ltb room wanted) (Err wanted) rest

-- What comes where there is room, else 7.
unfoldable pub if_room : {A : Type 0} → (Refusal → A) → Result Unit ℕ → A → A
if_room refuse (Ok tt) x = x
if_room refuse (Err wanted) x = refuse (NoRoom wanted)
