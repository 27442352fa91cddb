-- What is missing from some hashes. 01, Waiting table: what is held isn't missing, what is in neither table is, and a change that waits stands for what
-- it asks for; each hash once, ascending.
use Rattle.std.specs.Prelude.{ℕ, suc, Bool, true, false, cond, not, ◌&&◌, List, [], ◌∷◌, ◌++◌, ◌≡◌, length, get_or}
use Rattle.hash_order.specs.Order.{member, ascend, keep}
use Rattle.hash_order.specs.Reach.{reach}
use Rattle.table.specs.Table.{Row, held}
use Rattle.waiting.specs.Waiting.{Waiting, waiting, asks_of, asks}

-- A hash that is neither held nor waiting.
unfoldable pub unknown : List Row → List Waiting → ℕ → Bool
unknown t w h = not (held t h) && not (member h (waiting w))

-- What is missing from H, said as what it means: an unknown hash of H, or one that is missing from what a waiting hash of H asks for.
pub data Missing (t : List Row) (w : List Waiting) : List ℕ → ℕ → Type 0 where
  itself : {l : List ℕ} {h : ℕ} → member h l ≡ true → unknown t w h ≡ true → Missing t w l h
  through : {l : List ℕ} {h : ℕ} (g : ℕ) → member g l ≡ true → held t g ≡ false → member g (waiting w) ≡ true
      → Missing t w (asks w g) h
      → Missing t w l h

-- The waiting rows that are asked, by row number: those of H, and those that an asked row asks for.
unfoldable pub asked_row : List Row → List Waiting → List ℕ → ℕ → Bool
asked_row t w l i =
    reach (length w)
    (λ k. member (get_or (waiting w) k 0) l && not (held t (get_or (waiting w) k 0)))
    (λ k j. member (get_or (waiting w) j 0) (asks_of w k) && not (held t (get_or (waiting w) j 0)))
    i

-- All that the asked rows ask for; rows are counted from i.
unfoldable pub asks_from : ℕ → List Waiting → (ℕ → Bool) → List ℕ
asks_from i [] p = []
asks_from i (r ∷ rs) p = cond (p i) (r.asks ++ asks_from (suc i) rs p) (asks_from (suc i) rs p)

-- What is missing from a list: the unknown hashes among it and among all that the asked rows ask for, each once, ascending.
unfoldable pub missing : List Row → List Waiting → List ℕ → List ℕ
missing t w l = ascend (keep (unknown t w) (l ++ asks_from 0 w (asked_row t w l)))
