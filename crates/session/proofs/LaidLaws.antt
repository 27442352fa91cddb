-- Haves that were laid out are read back, and pass as haves that are handed over do. Records and bytes are laid one have after the other, so
-- both are taken apart from the first have on: what is left of the records is the rest laid from where its bytes start.
use Prim.Native.Nat.{ℕ, suc, ◌+◌, ◌*◌, ◌%◌, ◌≤◌, min}
use mathlib.Core.Bool.{true}
use mathlib.Core.List.{List, [], ◌∷◌, ◌++◌}
use mathlib.Core.Path.{◌≡◌, refl, sym, ap, ap₂, ◌∙◌}
use native.Mathlib.Nat.{add-zero}
use native.Mathlib.Omega.{arith}
use borrow.Author.Tests.{le-leb, eq-eqb}
use lib.ListN.{length, get_or, take, drop, length-append, length-take}
use lib.Seq.{sets, slice, take-length, drop-drop, get_or-drop}
use Rattle.bloom.specs.Have.{
  Have,
  have_words,
  have_count,
  filter_with,
  filter_good,
  have_in,
  haves_from,
  haves_of,
  have_good,
  haves_good_from,
  passed_good,
  syncs_few,
  passed_few,
}
use Rattle.message.specs.Sound.{Each, SoundHave}
use Rattle.rules.specs.Hash.{AreHashes, hashes_bytes}
use Rattle.rules.specs.Sizes.{sizes}
use Rattle.rules.proofs.Hash.{slice_parts, hashes_there_and_back, length_hashes_bytes}
use Rattle.rules.proofs.Outputs.{take_sets}
use Rattle.session.specs.Laid.{laid_bytes, laid_from, laid_words}

-- ---- how long they are

length_from : (at : ℕ) (vs : List Have) → length (laid_from at vs) ≡ have_words * length vs
unfolding laid_from
length_from at [] = refl
length_from at (v ∷ vs) =
    let rest : length (laid_from (at + sizes.hash * length v.last_sync + length v.filter.field) vs) ≡ have_words * length vs = length_from (at + sizes.hash * length v.last_sync + length v.filter.field) vs in
    omega arith

-- a record a have
pub laid_length_words : (vs : List Have) → length (laid_words vs) ≡ have_words * length vs
unfolding laid_words
laid_length_words vs = length_from 0 vs

-- a have takes its hashes and its field
pub laid_length_bytes : (v : Have) (vs : List Have)
    → length (laid_bytes (v ∷ vs)) ≡ sizes.hash * length v.last_sync + (length v.filter.field + length (laid_bytes vs))
unfolding laid_bytes
laid_length_bytes v vs = rw (length-append, length-append, length_hashes_bytes) (omega arith)

-- ---- the first have of those that are left

module _ (s words : List ℕ) (end : ℕ) where
  -- What is left from record i on: these haves, their bytes from a place on.
  record Left (i at : ℕ) (vs : List Have) : Type 0 where
    records : drop (i * have_words) words ≡ laid_from at vs
    bytes : slice at end s ≡ laid_bytes vs
    up_to : at + length (laid_bytes vs) ≤ end

  module _ (i at : ℕ) (v : Have) (vs : List Have) (l : Left i at (v ∷ vs)) where
    abbrev field : ℕ
    field = at + sizes.hash * length v.last_sync

    abbrev next : ℕ
    next = field + length v.filter.field

    word : (k : ℕ) → get_or words (i * have_words + k) 0 ≡ get_or (laid_from at (v ∷ vs)) k 0
    word k = sym (get_or-drop (i * have_words) words k 0) ∙ ap (λ (ws : List ℕ). get_or ws k 0) l.records

    first : get_or words (i * have_words) 0 ≡ at
    unfolding laid_from
    first = rw add-zero at (word 0)

    parts : (slice at field s ≡ hashes_bytes v.last_sync) × (slice field next s ≡ v.filter.field) × (slice next end s ≡ laid_bytes vs)
    unfolding laid_bytes
    parts =
        let p =
        slice_parts (sizes.hash * length v.last_sync) at end s (hashes_bytes v.last_sync) (v.filter.field ++ laid_bytes vs)
        (omega (arith, l.up_to, laid_length_bytes v vs)) (length_hashes_bytes v.last_sync) l.bytes
        in
        let q =
        slice_parts (length v.filter.field) field end s v.filter.field (laid_bytes vs)
        (omega (arith, l.up_to, laid_length_bytes v vs)) refl p.1
        in
        (p.0, q.0, q.1)

    rest_left : Left (suc i) next vs
    unfolding laid_from
    rest_left =
        let n : suc i * have_words ≡ i * have_words + have_words = omega arith in
        record {
          records = rw (n, ← drop-drop have_words (i * have_words) words, l.records);
          bytes = parts.2;
          up_to = omega (arith, l.up_to, laid_length_bytes v vs);
        }

    laid_have_lem : AreHashes v.last_sync → have_in s words i ≡ v
    unfolding have_in filter_with laid_from
    laid_have_lem a =
        rw (first, word 1, word 2, word 3, word 4, word 5, word 6, hashes_there_and_back s at v.last_sync a parts.0, parts.1)

    have_good_lem : end ≤ length s → SoundHave v → have_good s words i ≡ true
    unfolding have_good filter_good laid_from
    have_good_lem e g =
        let long = laid_length_bytes v vs in
        let here : field ≤ length s = omega (arith, l.up_to) in
        let there : next ≤ length s = omega (arith, l.up_to) in
        rw (first, word 1, word 2, word 3, word 4, word 5, word 6, le-leb _ _ here, le-leb _ _ there, g.filter)

    sync_few : SoundHave v → get_or words (i * have_words + 1) 0 ≤ sizes.hashes
    unfolding laid_from
    sync_few g = rw (word 1) g.last_sync.few

  -- ---- all that are left

  laid_from_lem : (vs : List Have) (i at : ℕ) → Left i at vs → Each (λ (v : Have). AreHashes v.last_sync) vs → haves_from s words i (length vs) ≡ vs
  unfolding haves_from Each
  laid_from_lem [] i at l a = refl
  laid_from_lem (v ∷ vs) i at l a =
      ap₂ (λ (x : Have) (xs : List Have). x ∷ xs) (laid_have_lem i at v vs l a.0) (laid_from_lem vs (suc i) _ (rest_left i at v vs l) a.1)

  good_from : end ≤ length s → (vs : List Have) (i at : ℕ) → Left i at vs → Each SoundHave vs → haves_good_from s words i (length vs) ≡ true
  unfolding haves_good_from Each
  good_from e [] i at l g = refl
  good_from e (v ∷ vs) i at l g = rw (have_good_lem i at v vs l e g.0) (good_from e vs (suc i) _ (rest_left i at v vs l) g.1)

  few_from : (vs : List Have) (i at : ℕ) → Left i at vs → Each SoundHave vs → syncs_few words i (length vs) ≡ true
  unfolding syncs_few Each
  few_from [] i at l g = refl
  few_from (v ∷ vs) i at l g = rw (le-leb _ _ (sync_few i at v vs l g.0)) (few_from vs (suc i) _ (rest_left i at v vs l) g.1)

-- ---- haves laid at the start of bytes

-- The bytes start with those of the haves.
pub StartsLaid : List ℕ → List Have → Type 0
StartsLaid s vs = take (length (laid_bytes vs)) s ≡ laid_bytes vs

module _ (s : List ℕ) (vs : List Have) (starts : StartsLaid s vs) where
  all_left : Left s (laid_words vs) (length (laid_bytes vs)) 0 0 vs
  unfolding laid_words StartsLaid
  all_left = record { records = refl; bytes = starts; up_to = omega arith }

  many : have_count (laid_words vs) ≡ length vs
  many = rw (laid_length_words vs) (omega arith)

  -- the records are the haves again
  pub laid_over : Each (λ (v : Have). AreHashes v.last_sync) vs → haves_of s (laid_words vs) ≡ vs
  unfolding haves_of
  laid_over a = rw many (laid_from_lem s (laid_words vs) (length (laid_bytes vs)) vs 0 0 all_left a)

  starts_within : length (laid_bytes vs) ≤ length s
  unfolding StartsLaid
  starts_within = rw (← starts) (omega (arith, length-take (length (laid_bytes vs)) s))

  -- and they pass, if each have is sound and they are no more than there may be
  pub laid_passed : Each SoundHave vs → length vs ≤ sizes.haves → (passed_good s (laid_words vs) ≡ true) × (passed_few (laid_words vs) ≡ true)
  unfolding passed_good passed_few
  laid_passed g few =
      let whole : length (laid_words vs) % have_words ≡ 0 = rw (laid_length_words vs) (omega arith) in
      let most : min (length vs) sizes.haves ≡ length vs = omega arith in
      let end : ℕ = length (laid_bytes vs) in
      let good : passed_good s (laid_words vs) ≡ true =
      rw (eq-eqb _ _ whole, many, most) (good_from s (laid_words vs) end starts_within vs 0 0 all_left g)
      in
      (good, rw (many, le-leb _ _ few) (few_from s (laid_words vs) end vs 0 0 all_left g))

-- haves that were laid out are the haves again
pub laid_haves_lem : (vs : List Have) → Each (λ (v : Have). AreHashes v.last_sync) vs → haves_of (laid_bytes vs) (laid_words vs) ≡ vs
unfolding StartsLaid
laid_haves_lem vs a = laid_over (laid_bytes vs) vs (take-length (laid_bytes vs)) a

-- ---- haves laid into lent buffers

module _ (bytes words : List ℕ) (vs : List Have) (fits : length (laid_bytes vs) ≤ length bytes) (room : have_words * length vs ≤ length words) where
  laid_starts : StartsLaid (sets bytes 0 (laid_bytes vs)) vs
  unfolding StartsLaid
  laid_starts = take_sets (laid_bytes vs) bytes fits

  laid_kept : take (have_words * length vs) (sets words 0 (laid_words vs)) ≡ laid_words vs
  laid_kept = rw (laid_length_words vs) at (take_sets (laid_words vs) words (rw (laid_length_words vs) room))

  -- they are read back from where a call has put them
  pub laid_read : Each (λ (v : Have). AreHashes v.last_sync) vs
      → haves_of (sets bytes 0 (laid_bytes vs)) (take (have_words * length vs) (sets words 0 (laid_words vs))) ≡ vs
  laid_read a = rw laid_kept (laid_over (sets bytes 0 (laid_bytes vs)) vs laid_starts a)

  -- and pass there
  pub laid_good : Each SoundHave vs → length vs ≤ sizes.haves
      → (passed_good (sets bytes 0 (laid_bytes vs)) (take (have_words * length vs) (sets words 0 (laid_words vs))) ≡ true)
      × (passed_few (take (have_words * length vs) (sets words 0 (laid_words vs))) ≡ true)
  laid_good g few = rw laid_kept (laid_passed (sets bytes 0 (laid_bytes vs)) vs laid_starts g few)

-- a have that is sound has hashes
pub sound_syncs : (vs : List Have) → Each SoundHave vs → Each (λ (v : Have). AreHashes v.last_sync) vs
unfolding Each
sound_syncs [] g = tt
sound_syncs (v ∷ vs) g = (g.0.last_sync.are, sound_syncs vs g.1)
