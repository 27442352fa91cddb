-- A message that was read means what it says: each part stands from its place up to the next, and these parts are all the bytes.
use Prim.Native.Nat.{ℕ, ◌+◌, ◌<◌}
use mathlib.Core.List.{List, ◌∷◌, ◌++◌}
use mathlib.Core.Path.{◌≡◌, refl, sym, ◌∙◌, ap, ap₂, subst}
use native.Mathlib.Omega.{arith}
use lib.ListN.{length, get_or}
use lib.Seq.{slice, take-length}
use Rattle.bloom.specs.Have.{haves_of}
use Rattle.bloom.proofs.Filters.{slice_parted}
use Rattle.message_items.specs.Items.{chunks_of}
use Rattle.message_items.proofs.ItemLaws.{haves_behind, chunks_behind}
use Rattle.message_items.proofs.Meaning.{haves_mean, chunks_mean}
use Rattle.message.specs.Flags.{flags_of, flags_in}
use Rattle.message.specs.Message.{counted}
use Rattle.rules.specs.Hash.{Bytes, hashes_at}
use Rattle.rules.proofs.Hash.{length_hashes_at}
use Rattle.wire.specs.Item.{prefixed_bytes, hash_list_bytes}
use Rattle.leb128.specs.Number.{shortest}
use Rattle.wire.proofs.Item.{prefixed_inside, written_prefixed, hash_list_inside, written_hash_list}
use Rattle.leb128.proofs.Number.{slice_past, slice_next}
use Rattle.message_read.specs.MessageMeans.{SectionMeans, MessageMeans}
use Rattle.message_read.specs.MessageRead.{read, section_at, message_at, message_in}
use Rattle.message_read.specs.declared.parse.Places.{Places}
use Rattle.message_read.proofs.Messages.{opening_behind, section_apart}
use Rattle.message_read.proofs.ReadLaws.{message_behind}
use Rattle.std.specs.Prelude.{Ok, Option, Some, None}
use Rattle.message.specs.declared.flags.MessageFlags.{MessageFlags}

section_means : (s : List ℕ) → Bytes s → (at : ℕ) (flags : Option MessageFlags) (next : ℕ) → section_at s at ≡ Ok (flags, next)
    → SectionMeans (slice at (length s) s) flags
section_means s all at flags next e =
    section_apart s at flags next e
    (λ past q.
    subst (λ (x : Option MessageFlags). SectionMeans (slice at (length s) s) x) q.0 (SectionMeans.none (slice_past s at (length s) past)))
    (λ start end here part q.
    let i = prefixed_inside s at (length s) start end part in
    let parts : slice at (length s) s ≡ prefixed_bytes (slice start end s) ++ slice end (length s) s =
    slice_parted s at end (length s) (omega arith) i.there
    ∙ ap (λ (l : List ℕ). l ++ slice end (length s) s) (written_prefixed s at (length s) start end all part)
    in
    subst (λ (x : Option MessageFlags). SectionMeans (slice at (length s) s) x) q.0 (SectionMeans.some (slice start end s) (slice end (length s) s) parts))

joined : {a b c d : List ℕ} → a ≡ b → c ≡ d → a ++ c ≡ b ++ d
joined p q = ap₂ (λ (x y : List ℕ). x ++ y) p q

-- the first byte, and the others
first_apart : (s : List ℕ) → 0 < length s → s ≡ get_or s 0 0 ∷ slice 1 (length s) s
first_apart s h = sym (take-length s) ∙ slice_next s 0 (length s) h (omega arith)

pub message_means : (s : List ℕ) → Bytes s → (p : Places) (haves chunks : List ℕ) → message_at s ≡ read p haves chunks
    → MessageMeans s (message_in s p haves chunks)
unfolding message_in
message_means s all p haves chunks e =
    let b = message_behind s p haves chunks e in
    let o = opening_behind s p.version p.heads b.at_need b.opening in
    let h = hash_list_inside s 1 (length s) p.heads b.at_need o.list in
    let n = hash_list_inside s b.at_need (length s) p.need b.at_haves b.need in
    let v = haves_mean s all b.at_haves p.haves haves b.at_chunks b.have_list in
    let c = chunks_mean s all b.at_chunks p.chunks chunks b.at_section b.chunk_list in
    let there = (haves_behind s b.at_haves p.haves haves b.at_chunks b.have_list).up_to in
    let end = (chunks_behind s b.at_chunks p.chunks chunks b.at_section b.chunk_list).up_to in
    let rest : slice 1 (length s) s
    ≡ hash_list_bytes (hashes_at s p.heads.start p.heads.count)
    ++ (hash_list_bytes (hashes_at s p.need.start p.need.count)
    ++ ((shortest (length (haves_of s haves)) ++ v.bytes)
    ++ (counted prefixed_bytes (chunks_of s chunks) ++ slice b.at_section (length s) s))) =
    slice_parted s 1 b.at_need (length s) (omega arith) h.there
    ∙ joined (written_hash_list s 1 (length s) p.heads b.at_need all o.list)
    (slice_parted s b.at_need b.at_haves (length s) (omega arith) n.there
    ∙ joined (written_hash_list s b.at_need (length s) p.need b.at_haves all b.need)
    (slice_parted s b.at_haves b.at_chunks (length s) v.onward there
    ∙ joined v.is (slice_parted s b.at_chunks b.at_section (length s) c.onward end ∙ joined c.is refl)))
    in
    record {
      haves_bytes = v.bytes;
      section_bytes = slice b.at_section (length s) s;
      is = first_apart s o.some ∙ ap₂ (λ (x : ℕ) (l : List ℕ). x ∷ l) o.type rest;
      haves = v.each;
      flags = section_means s all b.at_section p.flags p.next b.section;
      small = o.small;
      few_heads = rw (length_hashes_at s p.heads.start p.heads.count) h.small;
      few_need = rw (length_hashes_at s p.need.start p.need.count) n.small;
      few_haves = v.few;
      few_chunks = c.few;
    }
