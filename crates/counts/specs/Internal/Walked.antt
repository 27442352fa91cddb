-- One walk along the indexes of two tables, and the listener's rows tested in table order.
use Rattle.std.specs.Prelude.{ℕ, ◌+◌, Bool, true, false, not, ◌&&◌, List, [], ◌∷◌, map, ◌≡◌, length, get_or}
use Rattle.bloom.specs.declared.have.FilterNumbers.{FilterNumbers}
use Rattle.hash_order.specs.Order.{keep}
use Rattle.table.specs.TableBytes.{u16s_at, row_size}
use Rattle.table_graph.specs.Internal.Marks.{Marks}
use Rattle.table_index.specs.Index.{record_hash}
use Rattle.counts.specs.declared.tested.Tested.{Tested}

-- The hashes of the first n rows along an index.
abbrev pub hashes_along : List ℕ → List ℕ → ℕ → List ℕ
hashes_along s x n = map (record_hash s row_size) (u16s_at x 0 n)

-- 1 for yes.
abbrev pub one_or_none : Bool → ℕ
one_or_none true = 1
one_or_none false = 0

-- A row counted: one that isn't held is tested, and is contained or not.
unfoldable pub tested_next : Tested → Bool → Bool → Tested
tested_next t heldRow contained =
    record { rows = t.rows + one_or_none (not heldRow); contained = t.contained + one_or_none (not heldRow && contained) }

-- What is counted of hashes, by which of them are held and which are contained.
abbrev pub tested_of : (ℕ → Bool) → (ℕ → Bool) → List ℕ → Tested
tested_of p q hs = record { rows = length (keep (λ h. not (p h)) hs); contained = length (keep q (keep (λ h. not (p h)) hs)) }

-- What is counted of hashes by marks, one for each: whatever it is that the marks of held ones mean.
pub record TestedBy (marks : List Bool) (q : ℕ → Bool) (hs : List ℕ) (r : Tested) : Type 0 where
  pub counted : (p : ℕ → Bool) → Marks (length hs) marks (λ i. p (get_or hs i 0)) → r ≡ tested_of p q hs

-- A filter alone as a have's words, without last-sync hashes.
abbrev pub alone_words : FilterNumbers → List ℕ
alone_words f = 0 ∷ 0 ∷ f.entries ∷ f.bits ∷ f.probes ∷ f.place ∷ f.size ∷ []
