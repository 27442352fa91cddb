-- A host is told a refusal by its number and its value. These two tell the refusal: it is read back from them by tests on the number, so
-- refusals with the same number and the same value are the same.
use Prim.Native.Nat.{ℕ}
use mathlib.Core.Bool.{cond}
use mathlib.Core.Path.{◌≡◌, refl, sym, ap₂, ◌∙◌}
use lib.Dec.{eqb}
use Rattle.rules.specs.Refusal.{number_of, value_of}
use Rattle.rules.specs.declared.refusal.Refusal.{Refusal}
use Rattle.rules.specs.declared.refusal.Refusal.TheVariants.{Cut, WrongType, BadNumber, PastSize, NoBits, BadRow, NoRoom, LoadFailed, BadWaitingRow, BadNumbers, BadRowsBefore, BadIndex, TooWide, BadSettings, BadSetting, PastTotal, BadPick}

-- A number that no refusal has is read as 17.
unfoldable pub refusal_of : ℕ → ℕ → Refusal
refusal_of n v =
    cond (eqb n 1) (Cut v)
    (cond (eqb n 2) (WrongType v)
    (cond (eqb n 3) (BadNumber v)
    (cond (eqb n 4) (PastSize v)
    (cond (eqb n 5) (NoBits v)
    (cond (eqb n 6) (BadRow v)
    (cond (eqb n 7) (NoRoom v)
    (cond (eqb n 8) LoadFailed
    (cond (eqb n 9) (BadWaitingRow v)
    (cond (eqb n 10) BadNumbers
    (cond (eqb n 11) BadRowsBefore
    (cond (eqb n 12) BadIndex
    (cond (eqb n 13) (TooWide v)
    (cond (eqb n 14) (BadSettings v)
    (cond (eqb n 15) BadSetting
    (cond (eqb n 16) PastTotal (BadPick v))))))))))))))))

pub refusal_told : (r : Refusal) → refusal_of (number_of r) (value_of r) ≡ r
unfolding refusal_of
refusal_told (Cut place) = refl
refusal_told (WrongType byte) = refl
refusal_told (BadNumber place) = refl
refusal_told (PastSize place) = refl
refusal_told (NoBits place) = refl
refusal_told (BadRow row) = refl
refusal_told (NoRoom wanted) = refl
refusal_told LoadFailed = refl
refusal_told (BadWaitingRow row) = refl
refusal_told BadNumbers = refl
refusal_told BadRowsBefore = refl
refusal_told BadIndex = refl
refusal_told (TooWide row) = refl
refusal_told (BadSettings i) = refl
refusal_told BadSetting = refl
refusal_told PastTotal = refl
refusal_told (BadPick place) = refl

pub refusals_differ : (a b : Refusal) → number_of a ≡ number_of b → value_of a ≡ value_of b → a ≡ b
refusals_differ a b n v = sym (refusal_told a) ∙ ap₂ refusal_of n v ∙ refusal_told b
