-- What internal contracts speak of: hashes taken one after the other into an ascending list that holds no more than `most`, if they are wanted. No rule
-- of 01 stands here.
use Rattle.std.specs.Prelude.{ℕ, ◌≤◌, ◌<◌, Bool, cond, List, [], ◌∷◌, ◌≡◌, eqb, length}
use Rattle.hash_order.specs.Order.{member, every, insert_up_to}
use Rattle.hash_refs.specs.Internal.Refs.{found_by, FoundRefs}
use Rattle.rules.specs.Hash.{hashes_at}
use Rattle.waiting_missing.specs.declared.missing.FoundCount.{FoundCount}

-- A hash goes into the list if p holds for it.
unfoldable pub take_one : ℕ → (ℕ → Bool) → ℕ → List ℕ → List ℕ
take_one most p h l = cond (p h) (insert_up_to most h l) l

-- Hashes in turn.
unfoldable pub taking : ℕ → (ℕ → Bool) → List ℕ → List ℕ → List ℕ
taking most p [] l = l
taking most p (h ∷ hs) l = taking most p hs (take_one most p h l)

-- A list of which no more than `most` hashes are kept: all of it, or just `most`, and the list has no fewer.
pub record UpTo (most : ℕ) (l part : List ℕ) : Type 0 where
  pub within : length part ≤ most
  pub all : length part < most → part ≡ l
  pub full : length part ≡ most → most ≤ length l

-- The found hashes, by their numbers, with those of hs taken that p holds for.
pub record Took (list : List ℕ) (place entries : ℕ) (further : List ℕ) (p : ℕ → Bool) (hs refs : List ℕ) (count : ℕ) (refs' : List ℕ) (count' : ℕ) : Type 0 where
  pub found : FoundRefs list place entries further refs' count'
  pub is : found_by list place entries further refs' count' ≡ taking (length refs) p hs (found_by list place entries further refs count)

-- A list found by the numbers of its hashes, as much of it as there is room for; and whether all of it stands in the list that was asked about.
pub record RefsFound (list : List ℕ) (place entries : ℕ) (further l refs : List ℕ) (f : FoundCount) : Type 0 where
  pub found : FoundRefs list place entries further refs f.all
  pub up_to : UpTo (length refs) l (found_by list place entries further refs f.all)
  pub own : f.all < length refs → eqb f.listed f.all ≡ every (λ h. member h (hashes_at list place entries)) l
