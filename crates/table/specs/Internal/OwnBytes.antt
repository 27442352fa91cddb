-- A row's rules but the one that compares it with others.
use Rattle.std.specs.Prelude.{ℕ, Bool, ◌&&◌, List, leb}
use Rattle.rules.specs.Zeros.{zeros}
use Rattle.table.specs.TableBytes.{count_of, used_of, unused_of, numbers_good}

-- Its count, its numbers, and the zeros behind them.
unfoldable pub row_sound_of : ℕ → List ℕ → ℕ → Bool
row_sound_of d s i = leb (count_of d s i) d && numbers_good i (used_of d s i) && zeros (unused_of d s i)
