-- Haves and chunks as they are read. 01, Wire, Message: each list is a count and as many items, and its limit is tested before the first of them. An
-- item is read into words, places counting from the message's first byte.
use Rattle.std.specs.Prelude.{ℕ, zero, suc, ◌+◌, ◌-◌, ◌≤◌, List, [], ◌∷◌, ◌++◌, ◌≡◌, length, Result, Ok, Err}
use Rattle.std.proofs.Math.Seq.{slice}
use Rattle.bloom.specs.FilterRead.{filter_at, after_filter}
use Rattle.bloom.specs.declared.have.FilterNumbers.{FilterNumbers}
use Rattle.rules.specs.Sizes.{sizes}
use Rattle.rules.specs.declared.refusal.Refusal.{Refusal}
use Rattle.wire.specs.Item.{run, after_number, after_part, after_listed, count_at, prefixed_at, hash_list_at}
use Rattle.wire.specs.declared.parse.Run.{Run}

-- The have at a place: a hash list, a prefixed string that is there whole, and the filter inside it.
unfoldable pub have_at : List ℕ → ℕ → Result (Run × FilterNumbers × ℕ) Refusal
have_at s at =
    after_listed (hash_list_at s at (length s))
    Err
    (λ sync i.
    after_part (prefixed_at s i (length s))
    Err
    (λ from end. after_filter (filter_at s from end) Err (λ filter ended. Ok (sync, filter, end))))

-- An item: its words and the next place, or a refusal. Items one after the other are of the same kind.
pub data Item : Type 0 where
  item : List ℕ → ℕ → Item
  stopped : Refusal → Item

-- What follows an item, or its refusal passed on.
unfoldable pub after_item : {A : Type 0} → Item → (Refusal → A) → (List ℕ → ℕ → A) → A
after_item (item words next) refused k = k words next
after_item (stopped r) refused k = refused r

-- A have's words: place and count of the last-sync hashes, entries, bits, probes, place and length of the field.
abbrev pub have_word_list : Run → FilterNumbers → List ℕ
have_word_list sync f = sync.start ∷ sync.count ∷ f.entries ∷ f.bits ∷ f.probes ∷ f.place ∷ f.size ∷ []

-- A have that was read, as an item.
unfoldable pub have_words_of : Result (Run × FilterNumbers × ℕ) Refusal → Item
have_words_of (Ok (sync, f, next)) = item (have_word_list sync f) next
have_words_of (Err r) = stopped r

-- The have at a place, as an item.
unfoldable pub have_item : List ℕ → ℕ → Item
have_item s at = have_words_of (have_at s at)

-- A chunk's words: place and length.
abbrev pub chunk_words : ℕ
chunk_words = 2

-- The chunk at a place, a prefixed string, as an item.
unfoldable pub chunk_item : List ℕ → ℕ → Item
chunk_item s at = after_part (prefixed_at s at (length s)) stopped (λ start end. item (start ∷ (end - start) ∷ []) end)

-- The items from a place on, as many as the second argument says; the first that is refused decides.
unfoldable pub many_at : (ℕ → Item) → ℕ → ℕ → Item
many_at one zero at = item [] at
many_at one (suc count) at =
    after_item (one at) stopped (λ words next. after_item (many_at one count next) stopped (λ more end. item (words ++ more) end))

-- A list: where its items stand, their words and the next place; or a refusal.
pub data ItemList : Type 0 where
  list : Run → List ℕ → ℕ → ItemList
  no_list : Refusal → ItemList

-- What follows a list, or its refusal passed on.
unfoldable pub after_list : {A : Type 0} → ItemList → (Refusal → A) → (Run → List ℕ → ℕ → A) → A
after_list (list items words next) refused k = k items words next
after_list (no_list r) refused k = refused r

-- The list that items from a place are.
unfoldable pub list_from : Run → Item → ItemList
list_from items i = after_item i no_list (λ words next. list items words next)

-- A count up to its limit, and as many items.
unfoldable pub list_at : ℕ → (ℕ → Item) → List ℕ → ℕ → ItemList
list_at limit one s at = after_number (count_at limit s at (length s)) no_list (λ count start. list_from (run start count) (many_at one count start))

-- The haves at a place, within their limit.
unfoldable pub haves_at : List ℕ → ℕ → ItemList
haves_at s at = list_at sizes.haves (have_item s) s at

-- The chunks at a place, within their limit.
unfoldable pub chunks_at : List ℕ → ℕ → ItemList
chunks_at s at = list_at sizes.chunks (chunk_item s) s at

-- A list of items as it was read, without the words of its items.
unfoldable pub listed_of : ItemList → Result (Run × ℕ) Refusal
listed_of l = after_list l Err (λ items words next. Ok (items, next))

-- The words of items that were read.
unfoldable pub words_of : Item → List ℕ
words_of i = after_item i (λ r. []) (λ words next. words)

-- Items that were all read, and room for their words.
pub record AllRead (i : Item) (room : ℕ) : Type 0 where
  pub words : List ℕ
  pub next : ℕ
  pub is : i ≡ item words next
  pub fits : length words ≤ room

-- The bytes of chunks, from their words.
unfoldable pub chunks_of : List ℕ → List ℕ → List (List ℕ)
chunks_of s [] = []
chunks_of s (start ∷ []) = []
chunks_of s (start ∷ size ∷ words) = slice start (start + size) s ∷ chunks_of s words
