-- 01, Refusal numbers, and 02, M-100 for 12, M-106 for 13, M-107 for 14 and 15, M-108 for 16, M-110 for 17: the number of each refusal, and the value that it
-- returns. Every promise about a refusal speaks of these two.
use Rattle.std.specs.Prelude.{ℕ}
use Rattle.rules.specs.declared.refusal.Refusal.{Refusal}
use Rattle.rules.specs.declared.refusal.Refusal.TheVariants.{
  Cut,
  WrongType,
  BadNumber,
  PastSize,
  NoBits,
  BadRow,
  NoRoom,
  LoadFailed,
  BadWaitingRow,
  BadNumbers,
  BadRowsBefore,
  BadIndex,
  TooWide,
  BadSettings,
  BadSetting,
  PastTotal,
  BadPick,
}

-- The column "No.".
abbrev pub number_of : Refusal → ℕ
number_of (Cut place) = 1
number_of (WrongType byte) = 2
number_of (BadNumber place) = 3
number_of (PastSize place) = 4
number_of (NoBits place) = 5
number_of (BadRow row) = 6
number_of (NoRoom wanted) = 7
number_of LoadFailed = 8
number_of (BadWaitingRow row) = 9
number_of BadNumbers = 10
number_of BadRowsBefore = 11
number_of BadIndex = 12
number_of (TooWide row) = 13
number_of (BadSettings i) = 14
number_of BadSetting = 15
number_of PastTotal = 16
number_of (BadPick place) = 17

-- The column "Returns".
abbrev pub value_of : Refusal → ℕ
value_of (Cut place) = place
value_of (WrongType byte) = byte
value_of (BadNumber place) = place
value_of (PastSize place) = place
value_of (NoBits place) = place
value_of (BadRow row) = row
value_of (NoRoom wanted) = wanted
value_of LoadFailed = 0
value_of (BadWaitingRow row) = row
value_of BadNumbers = 0
value_of BadRowsBefore = 0
value_of BadIndex = 0
value_of (TooWide row) = row
value_of (BadSettings i) = i
value_of BadSetting = 0
value_of PastTotal = 0
value_of (BadPick place) = place
