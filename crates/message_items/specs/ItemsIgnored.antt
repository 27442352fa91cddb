-- What is ignored of the haves of a message. 02, M-103: each have carries the number of bytes behind its filter's field, the message their sum. What is
-- read stays `haves_at`; here is counted what it leaves.
use Rattle.std.specs.Prelude.{ℕ, zero, suc, List, [], ◌∷◌, ◌≡◌, length}
use Rattle.std.proofs.lemmas.List.Edits.{sets}
use Rattle.bloom.specs.FilterIgnored.{ignored_at}
use Rattle.message.specs.Message.{total}
use Rattle.wire.specs.Item.{after_part, after_listed, prefixed_at, hash_list_at}
use Rattle.message_items.specs.Items.{after_item, have_item, many_at, words_of}

-- The number of the have at a place: that of the filter in its string.
unfoldable pub have_ignored : List ℕ → ℕ → ℕ
have_ignored s at =
    after_listed (hash_list_at s at (length s))
    (λ r. 0)
    (λ sync i. after_part (prefixed_at s i (length s)) (λ r. 0) (λ from end. ignored_at s from end))

-- How many bytes are ignored behind the field of each have from a place on; the second argument says how many haves there are.
unfoldable pub ignored_from : List ℕ → ℕ → ℕ → List ℕ
ignored_from s zero at = []
ignored_from s (suc count) at = after_item (have_item s at) (λ r. []) (λ words next. have_ignored s at ∷ ignored_from s count next)

-- Haves that are put with their numbers: the words at the start of one list, the numbers at the start of another, and the sum.
pub record CountedPut (s : List ℕ) (start count : ℕ) (out₀ out₁ ignored₀ ignored₁ : List ℕ) (r : ℕ) : Type 0 where
  pub words : out₁ ≡ sets out₀ 0 (words_of (many_at (have_item s) count start))
  pub numbers : ignored₁ ≡ sets ignored₀ 0 (ignored_from s count start)
  pub sum : r ≡ total (ignored_from s count start)
