-- Rows decided one after the other: the rule that each breaks as a byte, and how many rows before it are kept. Rows of the same hash are told by a
-- number that they share, so that no two rows are compared here.
use Rattle.std.specs.Prelude.{ℕ, zero, suc, ◌+◌, ◌*◌, ◌≤◌, ◌<◌, Bool, false, cond, List, map, ◌≡◌, eqb, length, get_or}
use Rattle.std.proofs.Math.Option.{Option, none, some}
use Rattle.hash_order.specs.Order.{member}
use Rattle.table.specs.TableBytes.{row_size_of}
use Rattle.salvage_rules.specs.KeptRows.{Rule, rule_number, row_hash, broken_rule, kept_of}

-- Where the run of equal numbers that entry k is in begins.
unfoldable pub run_start : (ℕ → ℕ) → ℕ → ℕ
run_start g zero = 0
run_start g (suc k) = cond (eqb (g (suc k)) (g k)) (run_start g k) (suc k)

-- A number below n for each of n rows, the same for two rows just if their hashes are. f tells a row's hash.
pub record Classes (f : ℕ → ℕ) (n : ℕ) (classes : List ℕ) : Type 0 where
  pub below : (i : ℕ) → i < n → get_or classes i 0 < n
  pub same : (i j : ℕ) → i < n → j < n → eqb (get_or classes i 0) (get_or classes j 0) ≡ eqb (f i) (f j)

-- A rule as a byte: 0 where none is broken.
unfoldable pub rule_byte : Option Rule → ℕ
rule_byte none = 0
rule_byte (some r) = rule_number r

-- The byte of row i.
abbrev pub rule_of : ℕ → List ℕ → ℕ → ℕ
rule_of d s i = rule_byte (broken_rule d s (kept_of d s i) i)

-- Row i is there, the rows before it are decided, and whether a kept one among them has its hash is known.
pub record Before (d : ℕ) (s : List ℕ) (i : ℕ) (rules : List ℕ) (taken : Bool) : Type 0 where
  pub inside : (i + 1) * row_size_of d ≤ length s
  pub long : i ≤ length rules
  pub each : (j : ℕ) → j < i → get_or rules j 0 ≡ rule_of d s j
  pub hash : taken ≡ member (row_hash d s i) (map (row_hash d s) (kept_of d s i))

-- The first n rows decided.
pub record Decided (d : ℕ) (s : List ℕ) (n : ℕ) (rules places : List ℕ) (kept : ℕ) : Type 0 where
  pub rule : (i : ℕ) → i < n → get_or rules i 0 ≡ rule_of d s i
  pub place : (i : ℕ) → i < n → get_or places i 0 ≡ length (kept_of d s i)
  pub count : kept ≡ length (kept_of d s n)

-- Whether a kept row has a class, for each class below n.
abbrev pub Taken : ℕ → List ℕ → ℕ → List ℕ → List Bool → ℕ → Type 0
Taken d s n classes taken i = (c : ℕ) → c < n → get_or taken c false ≡ member c (map (λ j. get_or classes j 0) (kept_of d s i))
