-- The words of haves and chunks that were read: the haves pass every test of passed haves, and the chunks stand inside the message.
use Prim.Native.Nat.{ℕ, zero, suc, ◌+◌, ◌-◌, ◌*◌, ◌%◌, ◌≤◌, ◌<◌, min}
use mathlib.Core.Bool.{true}
use mathlib.Core.List.{List, [], ◌∷◌, ◌++◌, append_assoc}
use mathlib.Core.Path.{◌≡◌, refl, sym, ◌∙◌, ap, subst}
use native.Mathlib.Omega.{arith}
use borrow.Author.Tests.{le-leb, eq-eqb}
use lib.ListN.{length, get_or, length-append}
use lib.Seq.{get_or-append-add, get_or-append_seam}
use Rattle.bloom.specs.Filter.{filter_rules}
use Rattle.bloom.specs.Have.{have_words, have_count, filter_good, have_good, haves_good_from, passed_good, syncs_few, passed_few}
use Rattle.bloom.specs.declared.have.FilterNumbers.{FilterNumbers}
use Rattle.bloom.proofs.Filters.{filter_inside, filter_ruled}
use Rattle.rules.specs.Hash.{Bytes}
use Rattle.rules.specs.Sizes.{sizes}
use Rattle.wire.specs.declared.parse.Run.{Run}
use Rattle.wire.proofs.Item.{prefixed_inside, hash_list_inside}
use Rattle.message_items.specs.Items.{have_word_list, have_item, chunk_item, item, many_at, list, haves_at, chunk_words}
use Rattle.message_items.proofs.ItemLaws.{many_behind, have_behind, chunk_behind, haves_behind}

-- ---- haves

-- the words of record i, behind those of the records before it
module _ (before more : List ℕ) (i : ℕ) (sync : Run) (f : FilterNumbers) (long : length before ≡ i * have_words) where
  abbrev pub records : List ℕ
  records = before ++ (have_word_list sync f ++ more)

  pub first_word : get_or records (i * have_words) 0 ≡ sync.start
  first_word = rw (← long) (get_or-append_seam before sync.start (sync.count ∷ f.entries ∷ f.bits ∷ f.probes ∷ f.place ∷ f.size ∷ more) 0)

  pub word : (j : ℕ) → get_or records (i * have_words + j) 0 ≡ get_or (have_word_list sync f ++ more) j 0
  word j = rw (← long) (get_or-append-add before (have_word_list sync f ++ more) j 0)

  one_good : (s : List ℕ) → sync.start + sizes.hash * sync.count ≤ length s → filter_rules f.entries f.bits f.probes f.size ≡ true
      → f.place + f.size ≤ length s
      → have_good s records i ≡ true
  unfolding have_good filter_good
  one_good s there rules inside =
      rw (first_word, word 1, word 2, word 3, word 4, word 5, word 6, le-leb _ _ there, rules, le-leb _ _ inside)

module _ (s : List ℕ) (all : Bytes s) where
  -- the records from record i on, as many as there are, their words standing behind those of the records before
  records_good : (count i at : ℕ) (before words : List ℕ) (next : ℕ) → length before ≡ i * have_words → many_at (have_item s) count at ≡ item words next
      → (haves_good_from s (before ++ words) i count ≡ true) × (syncs_few (before ++ words) i count ≡ true)
  unfolding haves_good_from syncs_few
  records_good zero i at before words next long e = (refl, refl)
  records_good (suc count) i at before words next long e =
      let m = many_behind (have_item s) at words next count e in
      let h = have_behind s at m.first m.after m.is in
      let sync = h.sync in
      let f = h.numbers in
      let l = hash_list_inside s at (length s) sync h.i h.syncs in
      let q = prefixed_inside s h.i (length s) h.from m.after h.part in
      let k = filter_inside s h.from m.after f h.past h.filter in
      let r = filter_ruled s h.from m.after f h.past h.filter all in
      let there : sync.start + sizes.hash * sync.count ≤ length s = omega arith in
      let there2 : f.place + f.size ≤ length s = omega (arith, k.there (omega arith), k.whole) in
      let first : List ℕ = have_word_list sync f in
      let is : before ++ (first ++ m.more) ≡ before ++ words =
      ap (λ (v : List ℕ). before ++ v) (ap (λ (v : List ℕ). v ++ m.more) (sym h.are) ∙ m.are)
      in
      let good = one_good before m.more i sync f long s there r there2 in
      let few : get_or (before ++ (first ++ m.more)) (i * have_words + 1) 0 ≡ sync.count = word before m.more i sync f long 1 in
      let longer : length (before ++ first) ≡ suc i * have_words = rw (length-append before first, long) (omega arith) in
      let again = records_good count (suc i) m.after (before ++ first) m.more next longer m.rest in
      let again2 = rw (append_assoc before first m.more) at again in
      subst (λ (v : List ℕ). (haves_good_from s v i (suc count) ≡ true) × (syncs_few v i (suc count) ≡ true)) is
      (rw (good, few, le-leb _ _ l.small) again2)

pub haves_pass : (s : List ℕ) → Bytes s → (at : ℕ) (items : Run) (words : List ℕ) (next : ℕ) → haves_at s at ≡ list items words next
    → (passed_good s words ≡ true) × (passed_few words ≡ true)
unfolding passed_good passed_few
haves_pass s all at items words next e =
    let h = haves_behind s at items words next e in
    let g = records_good s all items.count 0 items.start [] words next refl h.each in
    let whole : length words % have_words ≡ 0 = omega (arith, h.long) in
    let many : have_count words ≡ items.count = omega (arith, h.long) in
    let few : items.count ≤ sizes.haves = h.few in
    let least : min items.count sizes.haves ≡ items.count = omega arith in
    rw (eq-eqb _ _ whole, many, least, le-leb _ _ few) g

-- ---- chunks

pub chunks_inside : (s : List ℕ) (count at : ℕ) (words : List ℕ) (next : ℕ) → many_at (chunk_item s) count at ≡ item words next
    → (i : ℕ) → i < count → get_or words (i * chunk_words) 0 + get_or words (i * chunk_words + 1) 0 ≤ length s
chunks_inside s zero at words next e i h = absurd (omega arith)
chunks_inside s (suc count) at words next e zero h =
    let m = many_behind (chunk_item s) at words next count e in
    let c = chunk_behind s at m.first m.after m.is in
    let q = prefixed_inside s at (length s) c.start m.after c.part in
    let is : words ≡ c.start ∷ (m.after - c.start) ∷ m.more = sym m.are ∙ ap (λ (v : List ℕ). v ++ m.more) c.are in
    rw is (omega arith)
chunks_inside s (suc count) at words next e (suc i) h =
    let m = many_behind (chunk_item s) at words next count e in
    let c = chunk_behind s at m.first m.after m.is in
    let is : words ≡ c.start ∷ (m.after - c.start) ∷ m.more = sym m.are ∙ ap (λ (v : List ℕ). v ++ m.more) c.are in
    let a : suc i * chunk_words ≡ suc (suc (i * chunk_words)) = omega arith in
    let b : suc i * chunk_words + 1 ≡ suc (suc (i * chunk_words + 1)) = omega arith in
    rw (b, a, is) (chunks_inside s count m.after m.more next m.rest i (omega arith))
