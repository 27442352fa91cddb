-- What a message that was read says, by the places of its parts; and that its haves can be laid out. Assumes nothing.
use Prim.Native.Nat.{ℕ, ◌*◌, ◌≤◌}
use mathlib.Core.Bool.{Bool}
use mathlib.Core.List.{List, [], ◌∷◌}
use mathlib.Core.Path.{◌≡◌, sym, ◌∙◌}
use native.Mathlib.Omega.{arith}
use borrow.Author.Tests.{lt-ltb, le-ltb, le-leb}
use lib.Dec.{ltb}
use lib.ListN.{length, take}
use lib.Seq.{sets}
use Rattle.bloom.specs.Have.{have_words, have_count, have_good, haves_of}
use Rattle.bloom.proofs.HaveLaws.{PassedHaves, passed_haves}
use Rattle.message_read.specs.MessageRead.{Reading, message_at, message_in, decoded_of}
use Rattle.message_read.specs.declared.parse.Places.{Places}
use Rattle.message_read.proofs.Messages.{MessageWords, message_words, haves_good_lem}
use Rattle.message_read.proofs.ReadLaws.{message_behind, placed}
use Rattle.message_items.specs.Items.{Item, chunk_words, after_item, words_of, chunks_of}
use Rattle.message_items.proofs.ItemLaws.{haves_behind}
use Rattle.rules.specs.Hash.{Bytes}
use Rattle.rules.proofs.Outputs.{take_sets}
use Rattle.session.specs.Laid.{laid_bytes}
use Rattle.session.specs.Receive.{some_chunk, said_in, receive, receive_read, receive_bytes}
use Rattle.session_state.specs.Session.{State}
use Rattle.session_state.proofs.ValueLaws.{length_haves_from}
use Rattle.table.specs.Table.{Row}
use Rattle.receive_haves.specs.Internal.HavesLaid.{Layable}
use Rattle.receive_make.specs.Internal.ReceiveMake.{haves_words, said_at, words_room, WordsMade}
use Rattle.std.specs.Prelude.{Ok}

words_of_item : (i : Item) (words : List ℕ) (next : ℕ) → i ≡ Item.item words next → words_of i ≡ words
unfolding words_of after_item
words_of_item i words next e = rw e

-- chunks are there where they are counted
some_chunk_lem : (s words : List ℕ) (count : ℕ) → length words ≡ chunk_words * count → some_chunk (chunks_of s words) ≡ ltb 0 count
unfolding chunks_of
some_chunk_lem s [] count e = sym (le-ltb 0 count (omega arith))
some_chunk_lem s (a ∷ []) count e = absurd (omega arith)
some_chunk_lem s (a ∷ b ∷ words) count e = sym (lt-ltb 0 count (omega arith))

module _ (s : List ℕ) (p : Places) (is : decoded_of (message_at s) ≡ Ok p) where
  -- its words
  pub words : record { haves : List ℕ; chunks : List ℕ; is : message_at s ≡ Reading.read p haves chunks }
  words = placed (message_at s) p is

  pub read_words : MessageWords s p words.haves words.chunks
  read_words = message_words s p words.haves words.chunks words.is

  haves_are : haves_words s p ≡ words.haves
  haves_are =
      let b = message_behind s p words.haves words.chunks words.is in
      let h = haves_behind s b.at_haves p.haves words.haves b.at_chunks b.have_list in
      words_of_item _ _ _ h.each

  -- as many words as its haves take
  pub words_long : length (haves_words s p) ≡ have_words * p.haves.count
  words_long = rw haves_are read_words.have_long

  pub records_many : have_count (haves_words s p) ≡ p.haves.count
  records_many = rw words_long (omega arith)

  pub haves_many : length (haves_of s (haves_words s p)) ≡ p.haves.count
  unfolding haves_of
  haves_many = length_haves_from s (haves_words s p) (have_count (haves_words s p)) 0 ∙ records_many

  -- they can be laid out
  pub read_layable : Bytes s → Layable s (haves_words s p)
  unfolding have_good
  read_layable all =
      let g = haves_good_lem s all p words.haves words.chunks words.is in
      let h : PassedHaves s (haves_words s p) = rw haves_are (passed_haves s words.haves g.0 g.1) in
      record {
        few = h.few;
        each = λ i k. rw (le-leb _ _ (h.each i k).there) (h.each i k).filter;
        syncs = h.syncs;
      }

  said_is : said_in (message_in s p words.haves words.chunks) ≡ said_at s p
  unfolding said_in message_in
  said_is = rw (haves_are, sym (some_chunk_lem s words.chunks p.chunks.count read_words.chunk_long))

  -- receiving the bytes is receiving what they say
  pub read_receives : (loaded : Bool) (before : ℕ) (t : List Row) (v : State) → before ≤ length t
      → receive_bytes loaded before t v s ≡ receive loaded before t v (said_at s p)
  unfolding receive_bytes receive_read
  read_receives loaded before t v inside = rw (le-ltb _ _ inside, words.is, said_is)

  module _ (before after : List ℕ) (room : length before ≡ words_room) (put : after ≡ sets before 0 (haves_words s p)) where
    -- the words of its haves, where they were put
    pub words_put : take (have_words * p.haves.count) after ≡ haves_words s p
    words_put =
        let few = read_words.few_haves in
        rw (put, ← words_long) (take_sets (haves_words s p) before (omega (arith, words_long)))

    pub put_layable : Bytes s → Layable s (take (have_words * p.haves.count) after)
    put_layable all = rw words_put (read_layable all)

    pub words_made : (size : ℕ) → size ≡ length (laid_bytes (haves_of s (take (have_words * p.haves.count) after))) → WordsMade s p after size
    words_made size e = record { words = words_put; bytes = rw words_put at e }
