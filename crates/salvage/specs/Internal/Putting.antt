-- Rows and a report put by what was decided: the rule of each row, and how many rows before it are kept.
use Rattle.std.specs.Prelude.{ℕ, zero, suc, ◌+◌, ◌*◌, ◌≤◌, cond, List, [], ◌∷◌, ◌++◌, map, ◌≡◌, eqb, length, get_or}
use Rattle.std.proofs.lemmas.List.Edits.{sets}
use Rattle.salvage_rules.specs.Internal.Decided.{Decided}
use Rattle.salvage_rules.specs.KeptRows.{row_hash, broken_rule, kept_if, kept_of}
use Rattle.table.specs.Table.{Row}
use Rattle.table.specs.TableBytes.{row_size_of, used_of}
use Rattle.salvage.specs.Salvaged.{new_row}

-- Row i, its numbers adjusted by what stands beside each row.
unfoldable pub moved_row : ℕ → List ℕ → List ℕ → ℕ → Row
moved_row d s places i = record { hash = row_hash d s i; deps = map (λ k. get_or places k 0) (used_of d s i) }

-- The rows that row i is in the new table: itself, or none.
abbrev pub row_if : ℕ → List ℕ → ℕ → ℕ → List Row
row_if d s n i = map (new_row d s (kept_of d s n)) (kept_if (broken_rule d s (kept_of d s i) i) i)

-- The first n rows decided, with room for the kept ones.
pub record RowsDecided (d : ℕ) (s : List ℕ) (n : ℕ) (rules places : List ℕ) (kept : ℕ) : Type 0 where
  pub inside : n * row_size_of d ≤ length s
  pub rules_long : n ≤ length rules
  pub places_long : n ≤ length places
  pub decided : Decided d s n rules places kept

-- The words of row i's entry, by the byte of its rule.
unfoldable pub words_if : ℕ → ℕ → List ℕ
words_if i rule = cond (eqb rule 0) [] (i ∷ rule ∷ [])

-- The words of the first n rows' entries.
unfoldable pub told_words : List ℕ → ℕ → List ℕ
told_words rules zero = []
told_words rules (suc n) = told_words rules n ++ words_if n (get_or rules n 0)

-- A row's entry put at a place, and the next place.
pub record ToldPut (before after : List ℕ) (at i rule next : ℕ) : Type 0 where
  pub place : next ≡ at + length (words_if i rule)
  pub content : after ≡ sets before at (words_if i rule)
