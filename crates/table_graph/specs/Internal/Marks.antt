-- What internal contracts speak of: marks, one for each row of a change table or for each hash of a list. No rule of 01 stands here.
use Rattle.std.specs.Prelude.{ℕ, zero, suc, ◌<◌, Bool, true, false, cond, ◌||◌, List, [], ◌∷◌, ◌≡◌, ltb, length, get_or, set}
use Rattle.std.proofs.lemmas.List.Edits.{sets}
use Rattle.rules.specs.Hash.{hashes_bytes}
use Rattle.table.specs.Table.{index_in}

-- The first n marks are these.
pub record Marks (n : ℕ) (r : List Bool) (p : ℕ → Bool) : Type 0 where
  pub each : (i : ℕ) → i < n → get_or r i false ≡ p i

-- No mark of the first n is set.
abbrev pub Blank : ℕ → List Bool → Type 0
Blank n r = Marks n r (λ i. false)

-- How many of the first n marks are set.
unfoldable pub marked : ℕ → List Bool → ℕ
marked zero m = 0
marked (suc n) m = cond (get_or m n false) (suc (marked n m)) (marked n m)

-- The numbers of a list for whose places p holds, in its order; places are counted from i.
unfoldable pub pick_from : ℕ → List ℕ → (ℕ → Bool) → List ℕ
pick_from i [] p = []
pick_from i (x ∷ xs) p = cond (p i) (x ∷ pick_from (suc i) xs p) (pick_from (suc i) xs p)

-- The numbers of a list whose marks are set.
unfoldable pub picked : List ℕ → List Bool → List ℕ
picked l m = pick_from 0 l (λ i. get_or m i false)

-- Hashes put at a buffer's start, and as many counted.
pub record Collected (hs before after : List ℕ) (count : ℕ) : Type 0 where
  pub content : after ≡ sets before 0 (hashes_bytes hs)
  pub many : count ≡ length hs

-- Marks set along a list of row numbers.
unfoldable pub mark_all : List Bool → List ℕ → List Bool
mark_all m [] = m
mark_all m (k ∷ ks) = mark_all (set m k true) ks

-- Marks set along a row's dependencies if the row is itself marked, or every row counts.
unfoldable pub mark_row : Bool → (ℕ → List ℕ) → ℕ → List Bool → List Bool
mark_row every deps i m = cond (every || get_or m i false) (mark_all m (deps i)) m

-- Marks set so along the dependencies of the first rows, from the last row to the first.
unfoldable pub mark_down : Bool → (ℕ → List ℕ) → ℕ → List Bool → List Bool
mark_down every deps zero m = m
mark_down every deps (suc i) m = mark_down every deps i (mark_row every deps i m)

-- The mark of a hash's place in a list set, if it has one.
unfoldable pub mark_hash : List ℕ → List Bool → ℕ → List Bool
mark_hash hs m h = cond (ltb (index_in hs h) (length hs)) (set m (index_in hs h) true) m
