-- A message with one have at the most is within its size if its chunks leave room: its lists and its filter are small, and each count before them has
-- ten bytes at the most. Assumes nothing.
use Prim.Native.Nat.{ℕ, ◌+◌, ◌*◌, ◌≤◌, ◌<◌}
use mathlib.Core.Bool.{true}
use mathlib.Core.List.{List, [], ◌∷◌, ◌++◌}
use mathlib.Core.Path.{◌≡◌}
use native.Mathlib.Omega.{arith}
use lib.Dec.{eqb}
use lib.ListN.{length, length-append}
use Rattle.bloom.specs.Filter.{Filter, filter_bytes, filter_rules}
use Rattle.bloom.specs.Have.{Have}
use Rattle.bloom.proofs.Rules.{ruled}
use Rattle.message.specs.Flags.{section_bytes}
use Rattle.message.specs.Message.{Message, joined, counted, have_bytes, message_bytes}
use Rattle.message.specs.Sound.{Each, SoundHashes, SoundHave}
use Rattle.message.specs.declared.flags.MessageFlags.{MessageFlags}
use Rattle.leb128.specs.Number.{shortest}
use Rattle.leb128.proofs.Number.{shortest_ten}
use Rattle.rules.specs.Sizes.{sizes}
use Rattle.rules.proofs.Cases.{split}
use Rattle.rules.proofs.Hash.{length_hashes_bytes}
use Rattle.wire.specs.Item.{prefixed_bytes, hash_list_bytes}
use Rattle.walk_sessions.proofs.Message.{some_entries}
use Rattle.std.specs.Prelude.{Some}

-- bytes of a count, of a hash list, of a filter and of a have, at the most
abbrev most_count : ℕ
most_count = 10

abbrev most_list : ℕ
most_list = most_count + sizes.hash * sizes.hashes

abbrev most_filter_bytes : ℕ
most_filter_bytes = 3 * most_count + sizes.field

abbrev most_have_bytes : ℕ
most_have_bytes = most_list + (most_count + most_filter_bytes)

list_small : (l : List ℕ) → SoundHashes l → length (hash_list_bytes l) ≤ most_list
unfolding hash_list_bytes
list_small l s =
    rw (length-append (shortest (length l)) _, length_hashes_bytes l)
    (omega (arith, shortest_ten (length l) (omega (arith, s.few)), s.few))

filter_small : (f : Filter) → filter_rules f.entries f.bits f.probes (length f.field) ≡ true → length (filter_bytes f) ≤ most_filter_bytes
unfolding filter_bytes
filter_small f e =
    let r = ruled f.entries f.bits f.probes (length f.field) e in
    split (eqb f.entries 0)
    (λ z. rw z (omega arith))
    (λ z.
    let some : 0 < f.entries = some_entries f.entries z in
    rw (z, length-append (shortest f.entries) _, length-append (shortest f.bits) _, length-append (shortest f.probes) _)
    (omega (
      arith,
      shortest_ten f.entries (omega (arith, r.entries)),
      shortest_ten f.bits (omega (arith, r.bits)),
      shortest_ten f.probes (omega (arith, r.probes)),
      (r.full some).small,
    )))

have_small : (v : Have) → SoundHave v → length (have_bytes v) ≤ most_have_bytes
unfolding have_bytes prefixed_bytes
have_small v s =
    let a = list_small v.last_sync s.last_sync in
    let b = filter_small v.filter s.filter in
    rw (length-append (hash_list_bytes v.last_sync) _, length-append (shortest (length (filter_bytes v.filter))) _)
    (omega (arith, a, b, shortest_ten (length (filter_bytes v.filter)) (omega (arith, b))))

haves_small : (vs : List Have) → Each SoundHave vs → length (joined have_bytes vs) ≤ most_have_bytes * length vs
unfolding joined Each
haves_small [] e = omega arith
haves_small (v ∷ vs) e =
    rw (length-append (have_bytes v) _) (omega (arith, have_small v e.0, haves_small vs e.1))

-- bytes of all but the chunks, at the most
abbrev pub most_words : ℕ
most_words = 1 + 2 * most_list + (most_count + most_have_bytes) + 3

pub message_fits : (m : Message) (f : MessageFlags) → SoundHashes m.heads → SoundHashes m.need → Each SoundHave m.haves → length m.haves ≤ 1
    → m.flags ≡ Some f
    → length (message_bytes m) ≤ most_words + length (counted prefixed_bytes m.chunks)
unfolding message_bytes counted section_bytes
message_fits m f heads need haves one flags =
    rw (
      flags,
      length-append (hash_list_bytes m.heads) _,
      length-append (hash_list_bytes m.need) _,
      length-append (shortest (length m.haves) ++ joined have_bytes m.haves) _,
      length-append (shortest (length m.haves)) _,
      length-append (shortest (length m.chunks) ++ joined prefixed_bytes m.chunks) _,
    )
    (omega (
      arith,
      list_small m.heads heads,
      list_small m.need need,
      haves_small m.haves haves,
      one,
      shortest_ten (length m.haves) (omega (arith, one)),
    ))

-- no chunk takes no more than its count
pub no_chunk_small : most_words + length (counted prefixed_bytes []) ≤ sizes.message
unfolding counted joined
no_chunk_small = rw (length-append (shortest 0) []) (omega (arith, shortest_ten 0 (omega arith)))
