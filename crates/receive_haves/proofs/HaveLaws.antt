-- Haves laid out one after the other: what stands and what is still to be laid out make the whole. Each law is one turn of a loop.
use Prim.Native.Nat.{ℕ, zero, suc, ◌+◌, ◌-◌, ◌*◌, ◌≤◌, ◌<◌}
use mathlib.Core.List.{List, [], ◌∷◌, ◌++◌, append_assoc}
use mathlib.Core.Path.{◌≡◌, refl, sym, ap, ◌∙◌}
use native.Mathlib.Nat.{add-sub_cancel_left}
use native.Mathlib.Numerals.{add-one}
use native.Mathlib.Omega.{arith}
use borrow.Author.Tests.{leb-true, eqb-true, eqb-false}
use lib.Dec.{leb, eqb}
use lib.ListN.{length, take, drop, set, length-append}
use lib.Seq.{sets, slice}
use Rattle.bloom.specs.Filter.{filter_rules}
use Rattle.bloom.specs.Have.{Have, have_words, have_count, sync_place, sync_count, numbers_in, filter_good, filter_with, have_in, haves_from, haves_of}
use Rattle.bloom.specs.declared.have.FilterNumbers.{FilterNumbers}
use Rattle.bloom.proofs.HaveLaws.{have_parts}
use Rattle.bloom.proofs.Rules.{ruled, capacity_none}
use Rattle.leb128.specs.Number.{Put}
use Rattle.leb128.proofs.Number.{put_then, put_joined}
use Rattle.rules.specs.Hash.{Bytes, hashes_at, hashes_bytes}
use Rattle.rules.specs.Sizes.{sizes}
use Rattle.rules.proofs.Cases.{split, both}
use Rattle.rules.proofs.Hash.{take_drop, length_slice_of, length_hashes_at, length_hashes_bytes, hashes_at_bytes}
use Rattle.rules.proofs.Outputs.{sets_append}
use Rattle.session.specs.Laid.{laid_bytes, laid_from, laid_words}
use Rattle.receive_haves.specs.Internal.HavesLaid.{LaidPut, Layable, most_have, most_laid, laid_have, record_from}

-- seven words one after the other
seven_put : (out : List ℕ) (i a b c d e f g : ℕ)
    → set (set (set (set (set (set (set out i a) (i + 1) b) (i + 2) c) (i + 3) d) (i + 4) e) (i + 5) f) (i + 6) g
    ≡ sets out i (a ∷ b ∷ c ∷ d ∷ e ∷ f ∷ g ∷ [])
seven_put out i a b c d e f g =
    let i1 : i + 1 ≡ suc i = omega arith in
    let i2 : i + 2 ≡ suc (suc i) = omega arith in
    let i3 : i + 3 ≡ suc (suc (suc i)) = omega arith in
    let i4 : i + 4 ≡ suc (suc (suc (suc i))) = omega arith in
    let i5 : i + 5 ≡ suc (suc (suc (suc (suc i)))) = omega arith in
    let i6 : i + 6 ≡ suc (suc (suc (suc (suc (suc i))))) = omega arith in
    rw (i1, i2, i3, i4, i5, i6)

pub record-put : (out words : List ℕ) (at i count : ℕ) (f : FilterNumbers) → count ≡ sync_count words i → f ≡ numbers_in words i → (k : ℕ)
    → set (set (set (set (set (set (set out k at) (k + 1) count) (k + 2) f.entries) (k + 3) f.bits) (k + 4) f.probes) (k + 5)
    (at + sizes.hash * count)) (k + 6) f.size
    ≡ sets out k (record_from at words i)
unfolding record_from
record-put out words at i count f many is k =
    rw (many, is)
    (seven_put out k at (sync_count words i) (numbers_in words i).entries (numbers_in words i).bits (numbers_in words i).probes
    (at + sizes.hash * sync_count words i) (numbers_in words i).size)

-- ---- one have

-- What stands behind record i.
pub record BehindRecord (s words : List ℕ) (i : ℕ) (f : FilterNumbers) : Type 0 where
  pub sync : sync_place words i + sizes.hash * sync_count words i ≤ length s
  pub few : sync_count words i ≤ sizes.hashes
  pub field : f.place + f.size ≤ length s
  pub small : f.size ≤ sizes.field

module _ (s words : List ℕ) (g : Layable s words) (i : ℕ) (h : i < have_count words) where
  fits_in : BehindRecord s words i (numbers_in words i)
  unfolding filter_good
  fits_in =
      let f = numbers_in words i in
      let p = have_parts s words i (g.each i h) in
      let q = both (filter_rules f.entries f.bits f.probes f.size) (leb (f.place + f.size) (length s)) p.filter in
      let r = ruled f.entries f.bits f.probes f.size q.0 in
      record {
        sync = p.there;
        few = g.syncs i h;
        field = leb-true _ _ q.1;
        small =
            split (eqb f.entries 0)
            (λ t.
            let e : f.entries ≡ 0 = eqb-true _ _ t in
            let n : f.size ≡ 0 = rw (e, capacity_none) at r.size in
            omega arith)
            (λ t.
            let e : f.entries ≡ 0 → ⊥ = eqb-false _ _ t in
            (r.full (omega arith)).small);
      }

  pub have_fits : (f : FilterNumbers) → f ≡ numbers_in words i → BehindRecord s words i f
  have_fits f e = rw e fits_in

  -- its hashes and its field, by the numbers of its record
  syncs_long : length (have_in s words i).last_sync ≡ sync_count words i
  unfolding have_in
  syncs_long = length_hashes_at s (sync_place words i) (sync_count words i)

  field_long : length (have_in s words i).filter.field ≡ (numbers_in words i).size
  unfolding have_in filter_with
  field_long = length_slice_of (numbers_in words i).size s (numbers_in words i).place fits_in.field

  laid_long : length (laid_have (have_in s words i)) ≡ sizes.hash * sync_count words i + (numbers_in words i).size
  unfolding laid_have
  laid_long =
      rw (length-append, field_long, length_hashes_bytes, syncs_long)

  laid_within : length (laid_have (have_in s words i)) ≤ most_have
  laid_within = omega (arith, laid_long, fits_in.few, fits_in.small)

  pub have_ends : (f : FilterNumbers) → f ≡ numbers_in words i → (count : ℕ) → count ≡ sync_count words i → (at room : ℕ)
      → at + length (laid_have (have_in s words i)) ≤ room
      → at + sizes.hash * count + f.size ≤ room
  have_ends f e count ce at room h = rw (e, ce) (omega (arith, laid_long))

  -- copied in two parts
  copied : Bytes s → (before mid after : List ℕ) (at : ℕ)
      → mid ≡ sets before at (take (sync_place words i + sizes.hash * sync_count words i - sync_place words i) (drop (sync_place words i) s))
      → after ≡ sets mid (at + sizes.hash * sync_count words i)
      (take ((numbers_in words i).place + (numbers_in words i).size - (numbers_in words i).place) (drop (numbers_in words i).place s))
      → Put before after at (laid_have (have_in s words i)) (at + sizes.hash * sync_count words i + (numbers_in words i).size)
  unfolding laid_have have_in filter_with
  copied all before mid after at p q =
      let f = numbers_in words i in
      let place : ℕ = sync_place words i in
      let size : ℕ = sizes.hash * sync_count words i in
      let hashes : List ℕ = slice place (place + size) s in
      let field : List ℕ = slice f.place (f.place + f.size) s in
      let p' : mid ≡ sets before at hashes = rw (add-sub_cancel_left, take_drop size place s) at p in
      let q' : after ≡ sets mid (at + size) field = rw (add-sub_cancel_left, take_drop f.size f.place s) at q in
      let one : Put before mid at hashes (at + size) = record { place = omega (arith, length_slice_of size s place fits_in.sync); content = p' } in
      let two : Put mid after (at + size) field (at + size + f.size) =
      record { place = omega (arith, length_slice_of f.size s f.place fits_in.field); content = q' }
      in
      let same : hashes_bytes (hashes_at s place (sync_count words i)) ≡ hashes = hashes_at_bytes s place (sync_count words i) all fits_in.sync in
      rw same (put_joined before mid after at _ _ hashes field one two)

  pub have_laid : (f : FilterNumbers) → f ≡ numbers_in words i → (place count : ℕ) → place ≡ sync_place words i → count ≡ sync_count words i → Bytes s
      → (before mid after : List ℕ) (at : ℕ)
      → mid ≡ sets before at (take (place + sizes.hash * count - place) (drop place s))
      → after ≡ sets mid (at + sizes.hash * count) (take (f.place + f.size - f.place) (drop f.place s))
      → Put before after at (laid_have (have_in s words i)) (at + sizes.hash * count + f.size)
  have_laid f e place count pe ce = rw (e, pe, ce) copied

  -- the record and the bytes of a have before others
  laid_bytes_lem : (vs : List Have) → laid_bytes (have_in s words i ∷ vs) ≡ laid_have (have_in s words i) ++ laid_bytes vs
  unfolding laid_bytes laid_have
  laid_bytes_lem vs = sym (append_assoc (hashes_bytes (have_in s words i).last_sync) (have_in s words i).filter.field (laid_bytes vs))

  laid_from_lem : (at : ℕ) (vs : List Have)
      → laid_from at (have_in s words i ∷ vs) ≡ record_from at words i ++ laid_from (at + length (laid_have (have_in s words i))) vs
  unfolding laid_from record_from have_in filter_with
  laid_from_lem at vs =
      let v : Have = have_in s words i in
      let next : at + sizes.hash * length v.last_sync + length v.filter.field ≡ at + length (laid_have v) =
      omega (arith, laid_long, syncs_long, field_long)
      in
      rw (next, syncs_long, field_long)

-- ---- the loops

module _ (s words : List ℕ) where
  -- the haves from record i on
  pub left_from : ℕ → List Have
  left_from i = haves_from s words i (have_count words - i)

  left_all : left_from 0 ≡ haves_of s words
  unfolding left_from haves_of
  left_all =
      let d : have_count words - 0 ≡ have_count words = omega arith in
      rw d

  left_one : (i : ℕ) → i < have_count words → left_from i ≡ have_in s words i ∷ left_from (i + 1)
  unfolding left_from haves_from
  left_one i h =
      let d : have_count words - i ≡ suc (have_count words - (i + 1)) = omega arith in
      rw (d, add-one)

  left_none : (i : ℕ) → have_count words ≤ i → left_from i ≡ []
  unfolding left_from haves_from
  left_none i h =
      let d : have_count words - i ≡ 0 = omega arith in
      rw d

  -- ---- how long they are

  pub size_starts : 0 + length (laid_bytes (left_from 0)) ≡ length (laid_bytes (haves_of s words))
  size_starts = rw left_all (omega arith)

  pub size_ends : (i size : ℕ) → have_count words ≤ i → size + length (laid_bytes (left_from i)) ≡ length (laid_bytes (haves_of s words))
      → size ≡ length (laid_bytes (haves_of s words))
  unfolding laid_bytes
  size_ends i size h so =
      let none : length (laid_bytes (left_from i)) ≡ 0 = rw (left_none i h) in
      omega arith

  -- ---- laid out

  -- the haves before record i have been laid out, and their bytes end at a place
  pub record Laying (records₀ bytes₀ records bytes : List ℕ) (at i : ℕ) : Type 0 where
    pub long_records : length records ≡ length records₀
    pub long_bytes : length bytes ≡ length bytes₀
    pub ends : at + length (laid_bytes (left_from i)) ≡ length (laid_bytes (haves_of s words))
    pub recorded : sets records (have_words * i) (laid_from at (left_from i)) ≡ sets records₀ 0 (laid_words (haves_of s words))
    pub laid : sets bytes at (laid_bytes (left_from i)) ≡ sets bytes₀ 0 (laid_bytes (haves_of s words))

  pub laying_starts : (records bytes : List ℕ) → Laying records bytes records bytes 0 0
  unfolding laid_words
  laying_starts records bytes =
      record {
        long_records = refl;
        long_bytes = refl;
        ends = size_starts;
        recorded = rw left_all;
        laid = rw left_all;
      }

  pub laying_ends : (records₀ bytes₀ records bytes : List ℕ) (at i : ℕ) → Laying records₀ bytes₀ records bytes at i → have_count words ≤ i
      → LaidPut (haves_of s words) records₀ bytes₀ records bytes
  unfolding laid_from laid_bytes
  laying_ends records₀ bytes₀ records bytes at i so h = record { records = rw (left_none i h) at so.recorded; bytes = rw (left_none i h) at so.laid }

  -- ---- one have more

  module _ (g : Layable s words) where
    one_more : (i : ℕ) → i < have_count words → laid_bytes (left_from i) ≡ laid_have (have_in s words i) ++ laid_bytes (left_from (i + 1))
    one_more i h = rw (left_one i h) (laid_bytes_lem s words g i h (left_from (i + 1)))

    one_sum : (i : ℕ) → i < have_count words
        → length (laid_bytes (left_from i)) ≡ length (laid_have (have_in s words i)) + length (laid_bytes (left_from (i + 1)))
    one_sum i h = rw (one_more i h, length-append)

    pub size_on : (i size : ℕ) (f : FilterNumbers) (count : ℕ) → i < have_count words → f ≡ numbers_in words i → count ≡ sync_count words i
        → size + length (laid_bytes (left_from i)) ≡ length (laid_bytes (haves_of s words))
        → size + (sizes.hash * count + f.size) + length (laid_bytes (left_from (i + 1))) ≡ length (laid_bytes (haves_of s words))
    size_on i size f count h e many so =
        let long : f.size ≡ (numbers_in words i).size = ap (λ (x : FilterNumbers). x.size) e in
        omega (arith, one_sum i h, laid_long s words g i h)

    from_small : (count i : ℕ) → i + count ≤ have_count words → length (laid_bytes (haves_from s words i count)) ≤ count * most_have
    unfolding haves_from laid_bytes
    from_small zero i h = omega arith
    from_small (suc count) i h =
        let rest : length (laid_bytes (haves_from s words (suc i) count)) ≤ count * most_have = from_small count (suc i) (omega arith) in
        rw (laid_bytes_lem s words g i (omega arith) (haves_from s words (suc i) count), length-append)
        (omega (arith, laid_within s words g i (omega arith)))

    pub laid_small : length (laid_bytes (haves_of s words)) ≤ most_laid
    unfolding haves_of
    laid_small =
        let most : have_count words * most_have ≤ most_laid = omega (arith, g.few) in
        omega (arith, from_small (have_count words) 0 (omega arith))

    module _ (records₀ bytes₀ records bytes : List ℕ) (at i : ℕ) (so : Laying records₀ bytes₀ records bytes at i) (h : i < have_count words) where
      pub record-room : have_words * have_count words ≤ length records₀
          → (at + sizes.hash * sync_count words i ≤ most_laid) × (have_words * i + have_words ≤ length records)
      record-room room =
          (omega (arith, so.ends, one_sum i h, laid_long s words g i h, laid_small), omega (arith, so.long_records))

      pub have_room_lem : length (laid_bytes (haves_of s words)) ≤ length bytes₀ → at + length (laid_have (have_in s words i)) ≤ length bytes
      have_room_lem room = omega (arith, so.ends, so.long_bytes, one_sum i h)

      pub laying_on : (records' bytes' : List ℕ) (next : ℕ) → records' ≡ sets records (have_words * i) (record_from at words i)
          → length records' ≡ length records
          → length bytes' ≡ length bytes
          → Put bytes bytes' at (laid_have (have_in s words i)) next
          → Laying records₀ bytes₀ records' bytes' next (i + 1)
      unfolding record_from
      laying_on records' bytes' next put longR longB laid' =
          let k : have_words * (i + 1) ≡ have_words * i + length (record_from at words i) = omega arith in
          let from : laid_from at (left_from i) ≡ record_from at words i ++ laid_from next (left_from (i + 1)) =
          rw (left_one i h, laid'.place) (laid_from_lem s words g i h at (left_from (i + 1)))
          in
          let before : sets records (have_words * i) (record_from at words i ++ laid_from next (left_from (i + 1)))
          ≡ sets records₀ 0 (laid_words (haves_of s words)) =
          rw from at so.recorded
          in
          record {
            long_records = longR ∙ so.long_records;
            long_bytes = longB ∙ so.long_bytes;
            ends = omega (arith, so.ends, one_sum i h, laid'.place);
            recorded = rw (put, k) (sets_append (record_from at words i) (laid_from next (left_from (i + 1))) records (have_words * i) ∙ before);
            laid = put_then bytes bytes' (laid_bytes (left_from (i + 1))) at next (laid_have (have_in s words i)) laid' ∙ rw (one_more i h) at so.laid;
          }
