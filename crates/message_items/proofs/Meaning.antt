-- What the bytes mean of haves and chunks that were read: each item stands from its place up to the next, and these parts are all the bytes.
use Prim.Native.Nat.{ℕ, zero, suc, ◌+◌, ◌-◌, ◌≤◌}
use mathlib.Core.List.{List, [], ◌∷◌, ◌++◌}
use mathlib.Core.Path.{◌≡◌, refl, ◌∙◌, ap, ap₂}
use native.Mathlib.Omega.{arith}
use lib.ListN.{length}
use lib.Seq.{slice}
use Rattle.bloom.specs.Have.{Have, have_words, filter_with, haves_of}
use Rattle.bloom.proofs.Filters.{slice_parted, filter_means}
use Rattle.message.specs.Message.{joined, counted}
use Rattle.rules.specs.Hash.{Bytes, hashes_at}
use Rattle.rules.specs.Sizes.{sizes}
use Rattle.rules.proofs.Hash.{length_hashes_at}
use Rattle.wire.specs.Item.{count_at, prefixed_bytes, hash_list_bytes}
use Rattle.leb128.specs.Number.{shortest, number_at, most64}
use Rattle.wire.specs.declared.parse.Run.{Run}
use Rattle.wire.proofs.Item.{count_number, count_inside, prefixed_inside, written_prefixed, hash_list_inside, written_hash_list}
use Rattle.leb128.proofs.Meaning.{written_number}
use Rattle.leb128.proofs.Number.{slice_past}
use Rattle.message_items.specs.Items.{item, have_item, chunk_item, many_at, list, haves_at, chunks_at, chunks_of}
use Rattle.message_items.specs.ItemMeans.{HaveMeans, HavesMean}
use Rattle.message_items.proofs.ItemLaws.{many_behind, none_behind, have_behind, chunk_behind, list_behind, many_sized, have_sized}
use Rattle.message_items.proofs.RoundTrip.{SayAll, HaveSays, haves_back, ChunkSays, chunks_said}
use Rattle.std.specs.Prelude.{Ok}

-- a count that was read stands there in its shortest form
written_count : (limit : ℕ) (s : List ℕ) (at end n next : ℕ) → Bytes s → count_at limit s at end ≡ Ok (n, next) → slice at next s ≡ shortest n
written_count limit s at end n next all e =
    written_number most64 s at end n next all (count_number limit s at end n next e).0

module _ (s : List ℕ) (all : Bytes s) where
  -- ---- haves

  record HavesRead (count at : ℕ) (words : List ℕ) (next : ℕ) : Type 0 where
    haves : List Have
    many : length haves ≡ count
    onward : at ≤ next
    says : SayAll (HaveSays s) words haves
    means : HavesMean (slice at next s) haves

  many_haves : (count at : ℕ) (words : List ℕ) (next : ℕ) → many_at (have_item s) count at ≡ item words next → HavesRead count at words next
  unfolding SayAll HavesMean
  many_haves zero at words next e =
      let n = none_behind (have_item s) at words next e in
      record { haves = []; many = refl; onward = omega (arith, n.1); says = n.0; means = slice_past s at next (omega (arith, n.1)) }
  many_haves (suc count) at words next e =
      let m = many_behind (have_item s) at words next count e in
      let h = have_behind s at m.first m.after m.is in
      let l = hash_list_inside s at (length s) h.sync h.i h.syncs in
      let q = prefixed_inside s h.i (length s) h.from m.after h.part in
      let more = many_haves count m.after m.more next m.rest in
      let up : m.after ≤ next = more.onward in
      let hashes : List ℕ = hashes_at s h.sync.start h.sync.count in
      let have : Have = record { last_sync = hashes; filter = filter_with s h.numbers } in
      let string : List ℕ = slice h.from m.after s in
      let parts : slice at m.after s ≡ hash_list_bytes hashes ++ prefixed_bytes string =
      slice_parted s at h.i m.after (omega arith) (omega arith)
      ∙ ap₂ (λ (a b : List ℕ). a ++ b) (written_hash_list s at (length s) h.sync h.i all h.syncs)
      (written_prefixed s h.i (length s) h.from m.after all h.part)
      in
      let means : HaveMeans (slice at m.after s) have =
      record {
        few = rw (length_hashes_at s h.sync.start h.sync.count) l.small;
        string = string;
        is = parts;
        filter = filter_means s h.from m.after h.numbers h.past h.filter all q.upward q.there;
      }
      in
      let said : HaveSays s m.first have = record { sync = h.sync; numbers = h.numbers; are = h.are; syncs = refl; filter = refl } in
      record {
        haves = have ∷ more.haves;
        many = ap suc more.many;
        onward = omega arith;
        says = (m.first, m.more, m.are, said, more.says);
        means =
            (slice at m.after s, slice m.after next s, slice_parted s at m.after next (omega arith) up, means, more.means);
      }

  pub record HavesAre (at : ℕ) (hs : List Have) (next : ℕ) : Type 0 where
    pub few : length hs ≤ sizes.haves
    pub onward : at ≤ next
    pub bytes : List ℕ
    pub is : slice at next s ≡ shortest (length hs) ++ bytes
    pub each : HavesMean bytes hs

  pub haves_mean : (at : ℕ) (items : Run) (words : List ℕ) (next : ℕ) → haves_at s at ≡ list items words next → HavesAre at (haves_of s words) next
  unfolding haves_at
  haves_mean at items words next e =
      let b = list_behind sizes.haves (have_item s) s at items words next e in
      let c = count_inside sizes.haves s at (length s) items.count items.start b.number in
      let r = many_haves items.count items.start words next b.each in
      let long = many_sized (have_item s) have_words (have_sized s) items.count items.start words next b.each in
      let same : haves_of s words ≡ r.haves = haves_back s r.haves words (rw r.many long) r.says in
      let up : items.start ≤ next = r.onward in
      let number = written_count sizes.haves s at (length s) items.count items.start all b.number in
      rw same
      (record {
        few = rw r.many c.small;
        onward = omega arith;
        bytes = slice items.start next s;
        is = slice_parted s at items.start next (omega arith) up ∙ rw r.many (ap (λ (l : List ℕ). l ++ slice items.start next s) number);
        each = r.means;
      })

  -- ---- chunks

  record ChunksRead (count at : ℕ) (words : List ℕ) (next : ℕ) : Type 0 where
    chunks : List (List ℕ)
    many : length chunks ≡ count
    onward : at ≤ next
    says : SayAll (ChunkSays s) words chunks
    are : slice at next s ≡ joined prefixed_bytes chunks

  many_chunks : (count at : ℕ) (words : List ℕ) (next : ℕ) → many_at (chunk_item s) count at ≡ item words next → ChunksRead count at words next
  unfolding SayAll ChunkSays joined
  many_chunks zero at words next e =
      let n = none_behind (chunk_item s) at words next e in
      record { chunks = []; many = refl; onward = omega (arith, n.1); says = n.0; are = slice_past s at next (omega (arith, n.1)) }
  many_chunks (suc count) at words next e =
      let m = many_behind (chunk_item s) at words next count e in
      let c = chunk_behind s at m.first m.after m.is in
      let q = prefixed_inside s at (length s) c.start m.after c.part in
      let more = many_chunks count m.after m.more next m.rest in
      let up : m.after ≤ next = more.onward in
      let chunk : List ℕ = slice c.start m.after s in
      let end : c.start + (m.after - c.start) ≡ m.after = omega arith in
      let bytes : slice c.start (c.start + (m.after - c.start)) s ≡ chunk = ap (λ (k : ℕ). slice c.start k s) end in
      record {
        chunks = chunk ∷ more.chunks;
        many = ap suc more.many;
        onward = omega arith;
        says = (m.first, m.more, m.are, (c.start, m.after - c.start, c.are, bytes), more.says);
        are =
            slice_parted s at m.after next (omega arith) up
            ∙ ap₂ (λ (a b : List ℕ). a ++ b) (written_prefixed s at (length s) c.start m.after all c.part) more.are;
      }

  pub record ChunksAre (at : ℕ) (ts : List (List ℕ)) (next : ℕ) : Type 0 where
    pub few : length ts ≤ sizes.chunks
    pub onward : at ≤ next
    pub is : slice at next s ≡ counted prefixed_bytes ts

  pub chunks_mean : (at : ℕ) (items : Run) (words : List ℕ) (next : ℕ) → chunks_at s at ≡ list items words next → ChunksAre at (chunks_of s words) next
  unfolding chunks_at counted
  chunks_mean at items words next e =
      let b = list_behind sizes.chunks (chunk_item s) s at items words next e in
      let c = count_inside sizes.chunks s at (length s) items.count items.start b.number in
      let r = many_chunks items.count items.start words next b.each in
      let same : chunks_of s words ≡ r.chunks = chunks_said s r.chunks words r.says in
      let up : items.start ≤ next = r.onward in
      let number = written_count sizes.chunks s at (length s) items.count items.start all b.number in
      rw same
      (record {
        few = rw r.many c.small;
        onward = omega arith;
        is = slice_parted s at items.start next (omega arith) up ∙ rw r.many (ap₂ (λ (a d : List ℕ). a ++ d) number r.are);
      })
