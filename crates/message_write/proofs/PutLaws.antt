-- Bytes put part after part: what is put so far and what is still to be put are together what is to be put. And the parts of a message as the
-- functions put them.
use Prim.Native.Nat.{ℕ, ◌+◌, ◌-◌, ◌*◌, ◌%◌, ◌≤◌, ◌<◌, suc}
use mathlib.Core.List.{List, [], ◌∷◌, ◌++◌}
use mathlib.Core.Path.{◌≡◌, refl, ◌∙◌, ap}
use native.Mathlib.Numerals.{add-one}
use native.Mathlib.Omega.{arith}
use lib.ListN.{length, get_or, set, take, drop, length-append}
use lib.Seq.{slice, sets, length-sets, drop-cons, drop-length}
use Rattle.bloom.specs.Filter.{filter_bytes, filter_of4}
use Rattle.bloom.specs.Have.{have_count, have_in, haves_from, haves_of, sync_place, sync_count, numbers_in}
use Rattle.bloom.specs.declared.have.FilterNumbers.{FilterNumbers}
use Rattle.message.specs.Flags.{section_bytes}
use Rattle.message.specs.Message.{Message, type_of, joined, counted, have_bytes, message_bytes}
use Rattle.message.specs.declared.flags.MessageFlags.{MessageFlags}
use Rattle.rules.specs.Hash.{Bytes, hashes_at}
use Rattle.rules.specs.Sizes.{sizes}
use Rattle.wire.specs.Item.{prefixed_bytes, hash_list_bytes}
use Rattle.leb128.specs.Number.{shortest, Put}
use Rattle.leb128.proofs.Number.{put_then, put_joined}
use Rattle.message.specs.Write.{chunks_from}
use Rattle.message_size.proofs.SizeLaws.{part_is, part_long, hash_list_is, have_is, haves_next, haves_end, haves_long, chunks_long, counted_is}
use Rattle.std.specs.Prelude.{Option, Some, None}

-- ---- one part after the other

pub put_bytes : (before after : List ℕ) (at : ℕ) (bytes : List ℕ) → after ≡ sets before at bytes → Put before after at bytes (at + length bytes)
put_bytes before after at bytes e = record { place = refl; content = e }

pub put_long : (before after : List ℕ) (at : ℕ) (bytes : List ℕ) (next : ℕ) → Put before after at bytes next → length after ≡ length before
put_long before after at bytes next p = ap length p.content ∙ length-sets before at bytes

-- `whole` is put at `at` once `rest` is put at `place`.
pub record Putting (before out : List ℕ) (at place : ℕ) (whole rest : List ℕ) : Type 0 where
  pub same : sets out place rest ≡ sets before at whole
  pub ends : place + length rest ≡ at + length whole
  pub long : length out ≡ length before

module _ (before out : List ℕ) (at place : ℕ) (whole : List ℕ) where
  pub putting_on : (next : List ℕ) (after : ℕ) (a b : List ℕ) → Putting before out at place whole (a ++ b) → Put out next place a after
      → Putting before next at after whole b
  putting_on next after a b p q =
      record {
        same = put_then out next b place after a q ∙ p.same;
        ends = omega (arith, q.place, p.ends, length-append a b);
        long = put_long out next place a after q ∙ p.long;
      }

  pub putting_last : (next : List ℕ) (after : ℕ) (a : List ℕ) → Putting before out at place whole a → Put out next place a after
      → Put before next at whole after
  putting_last next after a p q = record { place = omega (arith, q.place, p.ends); content = q.content ∙ p.same }

  pub putting_ends : Putting before out at place whole [] → Put before out at whole place
  putting_ends p = record { place = omega (arith, p.ends); content = p.same }

  -- there is room for the next part, and for the last
  pub putting_room : (a b : List ℕ) → Putting before out at place whole (a ++ b) → at + length whole ≤ length before → place + length a ≤ length out
  putting_room a b p h = omega (arith, p.ends, p.long, length-append a b)

  pub putting_all : (a : List ℕ) → Putting before out at place whole a → at + length whole ≤ length before → place + length a ≤ length out
  putting_all a p h = omega (arith, p.ends, p.long)

-- a part after which the rest is put, where the two are told apart by an equation
module _ (before out : List ℕ) (at place : ℕ) (whole rest a b : List ℕ) (e : rest ≡ a ++ b) (p : Putting before out at place whole rest) where
  pub next_on : (next : List ℕ) (after : ℕ) → Put out next place a after → Putting before next at after whole b
  next_on next after q = putting_on before out at place whole next after a b (rw e at p) q

  pub next_room : at + length whole ≤ length before → place + length a ≤ length out
  next_room h = putting_room before out at place whole a b (rw e at p) h

-- a count, and what it counts
pub counted_long : (n : ℕ) (whole rest : List ℕ) → whole ≡ shortest n ++ rest → length whole ≡ length (shortest n) + length rest
counted_long n whole rest e = rw (e, length-append)

pub counted_put : (before mid out : List ℕ) (at place next n : ℕ) (whole rest left : List ℕ) → whole ≡ shortest n ++ rest
    → Put before mid at (shortest n) place
    → left ≡ []
    → Putting mid out place next rest left
    → Put before out at whole next
counted_put before mid out at place next n whole rest left e p none q =
    rw e (put_joined before mid out at place next (shortest n) rest p (putting_ends mid out place next rest (rw none at q)))

-- ---- what is still to be put of a message, from each of its parts on

abbrev pub from_chunks : Message → List ℕ
from_chunks m = counted prefixed_bytes m.chunks ++ section_bytes m.flags

abbrev pub from_haves : Message → List ℕ
from_haves m = counted have_bytes m.haves ++ from_chunks m

abbrev pub from_need : Message → List ℕ
from_need m = hash_list_bytes m.need ++ from_haves m

abbrev pub from_heads : Message → List ℕ
from_heads m = hash_list_bytes m.heads ++ from_need m

-- the first byte
pub putting_type : (m : Message) (before : List ℕ) (b : ℕ) → b ≡ type_of m.version → Putting before (set before 0 b) 0 1 (message_bytes m) (from_heads m)
unfolding message_bytes
putting_type m before b e =
    rw e (record { same = refl; ends = omega arith; long = length-sets before 0 (type_of m.version ∷ []) })

pub message_some : (m : Message) → 0 < length (message_bytes m)
unfolding message_bytes
message_some m = omega arith

-- ---- hash lists, filters, chunks

pub put_hash_list : (s : List ℕ) (place count : ℕ) → Bytes s → place + sizes.hash * count ≤ length s
    → (before mid after : List ℕ) (at next : ℕ)
    → Put before mid at (shortest count) next
    → after ≡ sets mid next (take (place + sizes.hash * count - place) (drop place s))
    → Put before after at (hash_list_bytes (hashes_at s place count)) (next + sizes.hash * count)
put_hash_list s place count all fits before mid after at next p q =
    let part : List ℕ = slice place (place + sizes.hash * count) s in
    let e : after ≡ sets mid next part = q ∙ ap (sets mid next) (part_is s place (sizes.hash * count)) in
    let long : length part ≡ sizes.hash * count = part_long s place (sizes.hash * count) fits in
    let w : Put mid after next part (next + sizes.hash * count) = record { place = omega arith; content = e } in
    rw (hash_list_is s place count all fits) (put_joined before mid after at next _ (shortest count) part p w)

pub put_prefixed : (before mid after : List ℕ) (at next end size : ℕ) (bytes : List ℕ) → size ≡ length bytes
    → Put before mid at (shortest size) next
    → Put mid after next bytes end
    → Put before after at (prefixed_bytes bytes) end
unfolding prefixed_bytes
put_prefixed before mid after at next end size bytes e p q =
    let p' : Put before mid at (shortest (length bytes)) next = rw e at p in
    put_joined before mid after at next end (shortest (length bytes)) bytes p' q

-- the last-sync hashes of record i, by a place and a count that are its words
module _ (s haves : List ℕ) (i place count : ℕ) (at : place ≡ sync_place haves i) (many : count ≡ sync_count haves i) where
  pub syncs_fit : (start room : ℕ) → sync_place haves i + sizes.hash * sync_count haves i ≤ length s
      → start + length (hash_list_bytes (hashes_at s (sync_place haves i) (sync_count haves i))) ≤ room
      → (place + sizes.hash * count ≤ length s) × (start + length (hash_list_bytes (hashes_at s place count)) ≤ room)
  syncs_fit start room h l = rw (at, many) (h, l)

  pub syncs_put : (before after : List ℕ) (start next : ℕ) → Put before after start (hash_list_bytes (hashes_at s place count)) next
      → Put before after start (hash_list_bytes (hashes_at s (sync_place haves i) (sync_count haves i))) next
  syncs_put before after start next p = rw (at, many) at p

-- a have
pub put_have_parts : (s haves : List ℕ) (i : ℕ) (f : FilterNumbers) → f ≡ numbers_in haves i
    → (before mid after : List ℕ) (at next end : ℕ)
    → Put before mid at (hash_list_bytes (hashes_at s (sync_place haves i) (sync_count haves i))) next
    → Put mid after next (prefixed_bytes (filter_bytes (filter_of4 f.entries f.bits f.probes (take (f.place + f.size - f.place) (drop f.place s))))) end
    → Put before after at (have_bytes (have_in s haves i)) end
put_have_parts s haves i f e before mid after at next end p q =
    rw (have_is s haves i f e) (put_joined before mid after at next end _ _ p q)

-- ---- the section

pub put_absent : (out : List ℕ) (at : ℕ) → Put out out at (section_bytes None) at
unfolding section_bytes
put_absent out at = record { place = omega arith; content = refl }

pub put_present : (out : List ℕ) (at : ℕ) (f : MessageFlags)
    → Put out (set (set (set out at 2) (at + 1) 2) (at + 2) (128 + f.0 % 128)) at (section_bytes (Some f)) (at + 3)
unfolding section_bytes
put_present out at f =
    let one : at + 1 ≡ suc at = omega arith in
    let two : at + 2 ≡ suc (suc at) = omega arith in
    record { place = refl; content = rw (one, two) }

pub section_room : (at room : ℕ) (flags : Option MessageFlags) (f : MessageFlags) → flags ≡ Some f → at + length (section_bytes flags) ≤ room → at + 3 ≤ room
unfolding section_bytes
section_room at room flags f e h = rw e at h

-- ---- the loops

module _ (s haves : List ℕ) where
  -- what is still to be put
  pub haves_left : ℕ → ℕ → List ℕ
  haves_left total i = joined have_bytes (haves_from s haves i (total - i))

  pub haves_left_lem : (total i : ℕ) → i < total → haves_left total i ≡ have_bytes (have_in s haves i) ++ haves_left total (i + 1)
  unfolding haves_left
  haves_left_lem total i h = haves_next s haves total i h

  pub haves_none : (total i : ℕ) → total ≤ i → haves_left total i ≡ []
  unfolding haves_left
  haves_none total i h = haves_end s haves total i h

  pub haves_room : (total i : ℕ) (before out : List ℕ) (at place : ℕ) (whole : List ℕ) → i < total → Putting before out at place whole (haves_left total i)
      → at + length whole ≤ length before → place + length (have_bytes (have_in s haves i)) ≤ length out
  haves_room total i before out at place whole h p =
      next_room before out at place whole (haves_left total i) (have_bytes (have_in s haves i)) (haves_left total (i + 1)) (haves_left_lem total i h) p

  pub haves_counted : (total : ℕ) → total ≡ have_count haves → counted have_bytes (haves_of s haves) ≡ shortest total ++ haves_left total 0
  unfolding haves_left haves_of
  haves_counted total e =
      let d : total - 0 ≡ have_count haves = omega arith in
      rw (d, e) (counted_is have_bytes (haves_from s haves 0 (have_count haves)) (have_count haves) (haves_long s haves (have_count haves) 0))

module _ (s lengths : List ℕ) where
  pub chunks_left : ℕ → ℕ → List ℕ
  chunks_left start i = joined prefixed_bytes (chunks_from s start (drop i lengths))

  pub chunks_left_lem : (start i : ℕ) → i < length lengths
      → chunks_left start i
      ≡ prefixed_bytes (take (start + get_or lengths i 0 - start) (drop start s)) ++ chunks_left (start + get_or lengths i 0) (i + 1)
  unfolding chunks_left chunks_from joined
  chunks_left_lem start i h = rw (drop-cons lengths i 0 h, add-one, part_is s start (get_or lengths i 0))

  pub chunks_none : (start i : ℕ) → i ≡ length lengths → chunks_left start i ≡ []
  unfolding chunks_left chunks_from joined
  chunks_none start i e = rw (e, drop-length lengths)

  pub chunks_room : (start i : ℕ) (before out : List ℕ) (at place : ℕ) (whole : List ℕ) → i < length lengths
      → Putting before out at place whole (chunks_left start i)
      → at + length whole ≤ length before
      → place + length (prefixed_bytes (take (start + get_or lengths i 0 - start) (drop start s))) ≤ length out
  chunks_room start i before out at place whole h p =
      next_room before out at place whole (chunks_left start i)
      (prefixed_bytes (take (start + get_or lengths i 0 - start) (drop start s)))
      (chunks_left (start + get_or lengths i 0) (i + 1))
      (chunks_left_lem start i h)
      p

  pub chunks_counted : counted prefixed_bytes (chunks_from s 0 lengths) ≡ shortest (length lengths) ++ chunks_left 0 0
  unfolding chunks_left
  chunks_counted = counted_is prefixed_bytes (chunks_from s 0 lengths) (length lengths) (chunks_long s lengths 0)
