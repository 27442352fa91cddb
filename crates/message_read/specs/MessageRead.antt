-- A message as it is read. 01, Wire, Message and Flags, and Refusal numbers: the total size first, then byte by byte; what is left after the chunks is a
-- flags section, and nothing is looked for behind it.
use Rattle.std.specs.Prelude.{ℕ, cond, List, ltb, leb, eqb, length, get_or, Result, Ok, Err, Option, Some, None}
use Rattle.std.proofs.Math.Seq.{slice}
use Rattle.std.proofs.lemmas.List.Edits.{sets}
use Rattle.bloom.specs.Have.{haves_of}
use Rattle.message.specs.Flags.{flags_of, flags_in}
use Rattle.message.specs.Message.{Message, type_of}
use Rattle.message.specs.declared.version.MessageVersion.{MessageVersion}
use Rattle.message.specs.declared.version.MessageVersion.TheVariants.{V1, V2}
use Rattle.rules.specs.Hash.{hashes_at}
use Rattle.rules.specs.Sizes.{sizes}
use Rattle.rules.specs.declared.refusal.Refusal.{Refusal}
use Rattle.rules.specs.declared.refusal.Refusal.TheVariants.{Cut, WrongType, PastSize, NoRoom}
use Rattle.wire.specs.Item.{after_part, after_listed, prefixed_at, hash_list_at}
use Rattle.wire.specs.declared.parse.Run.{Run}
use Rattle.message_items.specs.Items.{after_list, haves_at, chunks_at, chunks_of}
use Rattle.message_read.specs.declared.parse.Places.{Places}
use Rattle.message.specs.declared.flags.MessageFlags.{MessageFlags}

-- A message that was read: where its parts stand, and the words of its haves and of its chunks; or a refusal.
pub data Reading : Type 0 where
  read : Places → List ℕ → List ℕ → Reading
  refused : Refusal → Reading

-- The heads, which stand behind the first byte.
unfoldable pub heads_at : List ℕ → MessageVersion → Result (MessageVersion × Run × ℕ) Refusal
heads_at s version = after_listed (hash_list_at s 1 (length s)) Err (λ heads next. Ok (version, heads, next))

-- The first stage: 4 for the total size, 1 for no bytes, 2 for another first byte, then the heads.
unfoldable pub opening_at : List ℕ → Result (MessageVersion × Run × ℕ) Refusal
opening_at s =
    cond (ltb sizes.message (length s))
    (Err (PastSize 0))
    (cond (eqb (length s) 0)
    (Err (Cut 0))
    (cond (eqb (get_or s 0 0) (type_of V1))
    (heads_at s V1)
    (cond (eqb (get_or s 0 0) (type_of V2)) (heads_at s V2) (Err (WrongType (get_or s 0 0))))))

-- The flags section: absent where no bytes remain; an empty one is present.
unfoldable pub section_at : List ℕ → ℕ → Result (Option MessageFlags × ℕ) Refusal
section_at s at =
    cond (leb (length s) at)
    (Ok (None, at))
    (after_part (prefixed_at s at (length s)) Err (λ start end. Ok (Some (flags_of (flags_in (slice start end s))), end)))

-- What follows the first stage, or its refusal passed on.
unfoldable pub after_opening : Result (MessageVersion × Run × ℕ) Refusal → (MessageVersion → Run → ℕ → Reading) → Reading
after_opening (Ok (version, heads, next)) k = k version heads next
after_opening (Err r) k = refused r

-- What follows the flags section, or its refusal passed on.
unfoldable pub after_section : Result (Option MessageFlags × ℕ) Refusal → (Option MessageFlags → ℕ → Reading) → Reading
after_section (Ok (flags, next)) k = k flags next
after_section (Err r) k = refused r

-- Haves, chunks and the flags section.
unfoldable pub lists_at : List ℕ → MessageVersion → Run → Run → ℕ → Reading
lists_at s version heads need at =
    after_list (haves_at s at)
    refused
    (λ haves have_words i.
    after_list (chunks_at s i)
    refused
    (λ chunks chunk_words j.
    after_section (section_at s j)
    (λ flags next.
    read
    (record {
      version = version;
      heads = heads;
      need = need;
      haves = haves;
      chunks = chunks;
      flags = flags;
      next = next;
    })
    have_words
    chunk_words)))

-- The need, and what follows it.
unfoldable pub need_at : List ℕ → MessageVersion → Run → ℕ → Reading
need_at s version heads at =
    after_listed (hash_list_at s at (length s)) refused (λ need next. lists_at s version heads need next)

-- The message.
unfoldable pub message_at : List ℕ → Reading
message_at s = after_opening (opening_at s) (λ version heads next. need_at s version heads next)

-- What reading a message gives in places alone.
unfoldable pub decoded_of : Reading → Result Places Refusal
decoded_of (read places haves chunks) = Ok places
decoded_of (refused r) = Err r

-- Refusal 7, which comes last, in words: first the haves' list, then the chunks'.
unfoldable pub room_for : Reading → ℕ → ℕ → Reading
room_for (read places haves chunks) have_room chunkRoom =
    cond (ltb have_room (length haves))
    (refused (NoRoom (length haves)))
    (cond (ltb chunkRoom (length chunks)) (refused (NoRoom (length chunks))) (read places haves chunks))
room_for (refused r) have_room chunkRoom = refused r

-- The lent lists at exit: the words at their start and the rest as it was; after a refusal all of it as it was.
unfoldable pub haves_into : Reading → List ℕ → List ℕ
haves_into (read places haves chunks) before = sets before 0 haves
haves_into (refused r) before = before

-- The list for chunks at exit, likewise.
unfoldable pub chunks_into : Reading → List ℕ → List ℕ
chunks_into (read places haves chunks) before = sets before 0 chunks
chunks_into (refused r) before = before

-- A message read into lent lists.
abbrev pub read_with : List ℕ → List ℕ → List ℕ → Reading
read_with s haves chunks = room_for (message_at s) (length haves) (length chunks)

-- The message as a value, from its places and words.
unfoldable pub message_in : List ℕ → Places → List ℕ → List ℕ → Message
message_in s p haves chunks =
    record {
      version = p.version;
      heads = hashes_at s p.heads.start p.heads.count;
      need = hashes_at s p.need.start p.need.count;
      haves = haves_of s haves;
      chunks = chunks_of s chunks;
      flags = p.flags;
    }
