-- A change table hurt in the field: which of its rows are kept. 02, M-109. A row has room for d dependencies. No row is refused here, so there is no 6.
use Rattle.std.specs.Prelude.{ℕ, zero, suc, ◌*◌, ◌<◌, true, cond, not, ◌&&◌, List, [], ◌∷◌, ◌++◌, map, ◌≡◌, ltb, leb}
use Rattle.std.proofs.Math.Option.{Option, none, some}
use Rattle.hash_order.specs.Order.{member, keep, every, ascends}
use Rattle.rules.specs.Hash.{hash_at}
use Rattle.rules.specs.Zeros.{zeros}
use Rattle.table.specs.TableBytes.{row_size_of, count_of, used_of, unused_of, numbers_good}

-- The rules, in the order in which they are told: a count of at most d; row numbers that ascend and are below the own row, by the numbers that rows
-- have in the hurt table; zeros behind them; a hash that no earlier kept row has; dependencies that are kept.
pub data Rule : Type 0 where
  count : Rule
  numbers : Rule
  not_zero : Rule
  repeated : Rule
  lost : Rule

-- As a number in a report.
unfoldable pub rule_number : Rule → ℕ
rule_number count = 1
rule_number numbers = 2
rule_number not_zero = 3
rule_number repeated = 4
rule_number lost = 5

-- The hash of row i.
abbrev pub row_hash : ℕ → List ℕ → ℕ → ℕ
row_hash d s i = hash_at s (i * row_size_of d)

-- The first rule that row i breaks where these rows before it are kept, if any. Of a bad count nothing more is looked at.
unfoldable pub broken_rule : ℕ → List ℕ → List ℕ → ℕ → Option Rule
broken_rule d s kept i =
    cond (ltb d (count_of d s i))
    (some count)
    (cond (not (numbers_good i (used_of d s i)))
    (some numbers)
    (cond (not (zeros (unused_of d s i)))
    (some not_zero)
    (cond (member (row_hash d s i) (map (row_hash d s) kept))
    (some repeated)
    (cond (not (every (λ k. member k kept) (used_of d s i)))
    (some lost)
    none))))

-- A row that breaks no rule is kept.
abbrev pub kept_if : Option Rule → ℕ → List ℕ
kept_if none i = i ∷ []
kept_if (some r) i = []

-- The kept ones of the first n rows, by the numbers that they have in the hurt table, in order.
unfoldable pub kept_of : ℕ → List ℕ → ℕ → List ℕ
kept_of d s zero = []
kept_of d s (suc n) = kept_of d s n ++ kept_if (broken_rule d s (kept_of d s n) n) n

-- The kept rows by 02's sentence alone: with K the kept rows, row i is kept exactly if its count, order and zeros are right, its hash isn't that of an
-- earlier kept row, and each dependency is a kept row. There is one such K.
pub record IsKept (d : ℕ) (s : List ℕ) (n : ℕ) (K : List ℕ) : Type 0 where
  pub ascending : ascends K ≡ true
  pub inside : (i : ℕ) → member i K ≡ true → i < n
  pub exactly : (i : ℕ) → i < n
      → member i K
      ≡ (((leb (count_of d s i) d && numbers_good i (used_of d s i)) && zeros (unused_of d s i))
      && (not (member (row_hash d s i) (map (row_hash d s) (keep (λ k. ltb k i) K))) && every (λ k. member k K) (used_of d s i)))
