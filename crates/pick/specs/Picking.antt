-- Messages that fit the radio. 02, M-110: what a pick may be, the check that accepts it or says what breaks a rule, and the planner. The list is what is
-- to be sent, less what was sent: it may have repeats, and needs stand first in it. A pick is in table order, each hash once.
use Rattle.std.specs.Prelude.{ℕ, zero, suc, ◌+◌, ◌-◌, ◌≤◌, ◌<◌, Bool, true, false, cond, not, ◌&&◌, ◌||◌, List, [], ◌∷◌, ◌++◌, ◌≡◌, ltb, leb, eqb, length, get_or, Result, Ok, Err}
use Rattle.hash_order.specs.Order.{member, every}
use Rattle.table.specs.Table.{Row, GoodTable, hash_of, row_number, held, deps}

-- ---- the check

-- Every direct dependency that is itself in the list goes with a hash.
unfoldable pub goes_with : List Row → List ℕ → List ℕ → ℕ → Bool
goes_with t list pick h = every (λ d. not (member d list) || member d pick) (deps t h)

-- A hash of a pick breaks no rule: it is a row's and in the list, it stands behind the row before it (`from` is the first row number that it may have), and
-- what it depends on goes with it.
unfoldable pub hash_fits : List Row → List ℕ → List ℕ → ℕ → ℕ → Bool
hash_fits t list pick from h = (held t h && member h list) && (leb from (row_number t h) && goes_with t list pick h)

-- The place of the first hash that breaks a rule, or the number of hashes; places are counted from p.
unfoldable pub first_broken : List Row → List ℕ → List ℕ → ℕ → ℕ → List ℕ → ℕ
first_broken t list pick from p [] = p
first_broken t list pick from p (h ∷ hs) =
    cond (not (hash_fits t list pick from h)) p (first_broken t list pick (suc (row_number t h)) (suc p) hs)

-- The sizes of the rows that hashes name, summed.
unfoldable pub size_sum : List Row → List ℕ → List ℕ → ℕ
size_sum t rowSizes [] = 0
size_sum t rowSizes (h ∷ hs) = get_or rowSizes (row_number t h) 0 + size_sum t rowSizes hs

-- All rules but the last: each hash fits, and the sizes sum to no more than the budget.
unfoldable pub pick_fits : List Row → List ℕ → List ℕ → ℕ → List ℕ → Bool
pick_fits t list rowSizes budget pick =
    eqb (first_broken t list pick 0 0 pick) (length pick) && leb (size_sum t rowSizes pick) budget

-- The last rule: an empty pick only if the list is empty or no single hash of it makes an acceptable pick by itself.
unfoldable pub empty_allowed : List Row → List ℕ → List ℕ → ℕ → Bool
empty_allowed t list rowSizes budget = every (λ h. not (pick_fits t list rowSizes budget (h ∷ []))) list

-- What the check answers. 17: the place of the first hash that breaks a rule; then the pick's length for sizes that aren't one a row, for the sum, and for an
-- empty pick.
unfoldable pub pick_checked : List Row → List ℕ → List ℕ → ℕ → List ℕ → Result Unit ℕ
pick_checked t list rowSizes budget pick =
    cond (ltb (first_broken t list pick 0 0 pick) (length pick))
    (Err (first_broken t list pick 0 0 pick))
    (cond (not (eqb (length rowSizes) (length t)))
    (Err (length pick))
    (cond (ltb budget (size_sum t rowSizes pick))
    (Err (length pick))
    (cond (eqb (length pick) 0 && not (empty_allowed t list rowSizes budget))
    (Err 0)
    (Ok tt))))

-- Accepted, as 02 says it, without places.
pub record Acceptable (t : List Row) (list rowSizes : List ℕ) (budget : ℕ) (pick : List ℕ) : Type 0 where
  -- one size a row
  pub each : length rowSizes ≡ length t
  -- hashes from the list, which are rows
  pub listed : (h : ℕ) → member h pick ≡ true → (held t h ≡ true) × (member h list ≡ true)
  -- in table order, each once
  pub ordered : (i j : ℕ) → i < j → j < length pick → row_number t (get_or pick i 0) < row_number t (get_or pick j 0)
  -- every dependency that is itself in the list goes with it
  pub together : (h d : ℕ) → member h pick ≡ true → member d (deps t h) ≡ true → member d list ≡ true → member d pick ≡ true
  -- the sizes sum to no more than the budget
  pub small : size_sum t rowSizes pick ≤ budget
  -- an empty pick only if the list is empty or no single hash makes an acceptable pick by itself
  pub some : pick ≡ [] → (h : ℕ) → member h list ≡ true → pick_fits t list rowSizes budget (h ∷ []) ≡ false

-- The check accepts just these.
abbrev pub CheckTells : Type 0
CheckTells = (t : List Row) (list rowSizes : List ℕ) (budget : ℕ) (pick : List ℕ)
    → (pick_checked t list rowSizes budget pick ≡ Ok tt → Acceptable t list rowSizes budget pick)
    × (Acceptable t list rowSizes budget pick → pick_checked t list rowSizes budget pick ≡ Ok tt)

-- ---- the planner: rows in table order, whatever still fits and has its listed dependencies picked

-- Row i goes: it is in the list, what it depends on of the list was picked, and it fits what is left.
unfoldable pub goes_now : List Row → List ℕ → List ℕ → ℕ → List ℕ → ℕ → Bool
goes_now t list rowSizes left before i =
    member (hash_of t i) list && (goes_with t list before (hash_of t i) && leb (get_or rowSizes i 0) left)

-- So many rows from row i on, where so much is left and these were picked before.
unfoldable pub picked_from : List Row → List ℕ → List ℕ → ℕ → ℕ → ℕ → List ℕ → List ℕ
picked_from t list rowSizes i zero left before = before
picked_from t list rowSizes i (suc count) left before =
    cond (goes_now t list rowSizes left before i)
    (picked_from t list rowSizes (suc i) count (left - get_or rowSizes i 0) (before ++ hash_of t i ∷ []))
    (picked_from t list rowSizes (suc i) count left before)

-- The planner's pick.
unfoldable pub pick_of : List Row → List ℕ → List ℕ → ℕ → List ℕ
pick_of t list rowSizes budget = picked_from t list rowSizes 0 (length t) budget []

-- Given one size a row, it is always accepted.
abbrev pub PlannerAccepted : Type 0
PlannerAccepted = (t : List Row) (list rowSizes : List ℕ) (budget : ℕ) → GoodTable t → length rowSizes ≡ length t
    → pick_checked t list rowSizes budget (pick_of t list rowSizes budget) ≡ Ok tt
