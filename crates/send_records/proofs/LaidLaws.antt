-- What is laid: one have more at each step, until the list or the room ends.
use Prim.Native.Nat.{ℕ, zero, suc, ◌+◌, ◌*◌, ◌≤◌, ◌<◌, min}
use mathlib.Core.List.{List, [], ◌∷◌, ◌++◌}
use mathlib.Core.Path.{◌≡◌, refl, sym, ap, ◌∙◌, subst}
use native.Mathlib.Omega.{arith}
use lib.Dec.{ltb}
use lib.ListN.{length, get_or, set, take, drop, length-append}
use lib.Seq.{sets, sets-eq, length-sets, length-take-le, take-suc, take-append_seam}
use borrow.Author.Tests.{le-leb, lt-leb, ltb-true, ltb-false}
use Rattle.bloom.specs.Have.{have_words}
use Rattle.rules.proofs.Cases.{split}
use Rattle.send_records.specs.Internal.RecordsLaid.{laid_haves, nothing_laid, with_next, laid_one, laid_many, laid_steps, used_words}
use Rattle.send_records.specs.Summary.{record_words, summary_words, no_have}
use Rattle.send_records.specs.declared.laid.Laid.{Laid}
use Rattle.send_records.specs.declared.summary.HaveSummary.{HaveSummary}

-- seven words one after the other
seven_put : (out : List ℕ) (i a b c d e f g : ℕ)
    → set (set (set (set (set (set (set out i a) (i + 1) b) (i + 2) c) (i + 3) d) (i + 4) e) (i + 5) f) (i + 6) g
    ≡ sets out i (a ∷ b ∷ c ∷ d ∷ e ∷ f ∷ g ∷ [])
seven_put out i a b c d e f g =
    let i1 : i + 1 ≡ suc i = omega arith in
    let i2 : i + 2 ≡ suc (suc i) = omega arith in
    let i3 : i + 3 ≡ suc (suc (suc i)) = omega arith in
    let i4 : i + 4 ≡ suc (suc (suc (suc i))) = omega arith in
    let i5 : i + 5 ≡ suc (suc (suc (suc (suc i)))) = omega arith in
    let i6 : i + 6 ≡ suc (suc (suc (suc (suc (suc i))))) = omega arith in
    rw (i1, i2, i3, i4, i5, i6)

module _ (l : Laid) (total : ℕ) (h : HaveSummary) where
  pub next_none : total ≤ l.count → with_next l total h ≡ l
  unfolding with_next
  next_none e = rw (le-leb _ _ e)

  module _ (more : l.count < total) where
    pub next_full : laid_haves ≤ l.count → with_next l total h ≡ l
    unfolding with_next
    next_full e = rw (lt-leb _ _ more, le-leb _ _ e)

    module _ (room : l.count < laid_haves) where
      pub next_laid : with_next l total h ≡ record { words = sets l.words (l.count * have_words) (record_words h); count = l.count + 1 }
      unfolding with_next
      next_laid = rw (lt-leb _ _ more, lt-leb _ _ room)

      -- the next have laid, store by store
      pub next_stored : record {
        words =
            set (set (set (set (set (set (set l.words (l.count * have_words) h.place) (l.count * have_words + 1) h.count)
            (l.count * have_words + 2) h.entries) (l.count * have_words + 3) h.bits) (l.count * have_words + 4) h.probes)
            (l.count * have_words + 5) h.field) (l.count * have_words + 6) h.size;
        count = l.count + 1;
      } ≡ with_next l total h
      next_stored =
          ap (λ (w : List ℕ). record { words = w; count = l.count + 1 })
          (seven_put l.words (l.count * have_words) h.place h.count h.entries h.bits h.probes h.field h.size)
          ∙ sym next_laid

-- ---- the words that are used

pub used_fits : (count n : ℕ) (words : List ℕ) → n ≡ min count laid_haves → length words ≡ laid_haves * have_words → have_words * n ≤ length words
used_fits count n words e long = omega arith

pub used_is : (l : Laid) (n : ℕ) → n ≡ min l.count laid_haves → take (have_words * n) l.words ≡ used_words l
unfolding used_words
used_is l n e = ap (λ (k : ℕ). take (have_words * k) l.words) e

-- ---- the words of a list

pub words_long : (hs : List HaveSummary) → length (summary_words hs) ≡ have_words * length hs
unfolding summary_words
words_long [] = refl
words_long (h ∷ hs) = let e = words_long hs in omega arith

pub words_append : (hs more : List HaveSummary) → summary_words (hs ++ more) ≡ summary_words hs ++ summary_words more
unfolding summary_words
words_append [] more = refl
words_append (h ∷ hs) more = ap (λ (r : List ℕ). record_words h ++ r) (words_append hs more)

one_more : (hs : List HaveSummary) (k : ℕ) → k < length hs → summary_words (take (k + 1) hs) ≡ summary_words (take k hs) ++ record_words (get_or hs k no_have)
unfolding summary_words
one_more hs k h =
    let e : k + 1 ≡ suc k = omega arith in
    ap (λ (n : ℕ). summary_words (take n hs)) e ∙ ap summary_words (take-suc hs k no_have h) ∙ words_append (take k hs) (get_or hs k no_have ∷ [])

-- ---- what is laid are the words of the first haves

pub record LaidStands (hs : List HaveSummary) (l : Laid) : Type 0 where
  pub room : l.count ≤ laid_haves
  pub there : l.count ≤ length hs
  pub long : length l.words ≡ laid_haves * have_words
  pub are : take (l.count * have_words) l.words ≡ summary_words (take l.count hs)

nothing_stands : (hs : List HaveSummary) → LaidStands hs nothing_laid
unfolding nothing_laid summary_words
nothing_stands hs = record { room = omega arith; there = omega arith; long = refl; are = refl }

module _ (hs : List HaveSummary) (l : Laid) (s : LaidStands hs l) where
  laid_stands : l.count < length hs → l.count < laid_haves
      → LaidStands hs (record { words = sets l.words (l.count * have_words) (record_words (get_or hs l.count no_have)); count = l.count + 1 })
  laid_stands more room =
      let h = get_or hs l.count no_have in
      let at = l.count * have_words in
      let fits : at + have_words ≤ length l.words = omega (arith, s.long) in
      let first : length (take at l.words) ≡ at = length-take-le at l.words (omega arith) in
      let seam : length (take at l.words ++ record_words h) ≡ (l.count + 1) * have_words = length-append (take at l.words) (record_words h) ∙ omega (arith, first) in
      record {
        room = omega arith;
        there = omega arith;
        long = length-sets l.words at (record_words h) ∙ s.long;
        are =
            ap (λ (w : List ℕ). take ((l.count + 1) * have_words) w) (sets-eq (record_words h) l.words at fits)
            ∙ ap (λ (n : ℕ). take n (take at l.words ++ record_words h ++ drop (at + have_words) l.words)) (sym seam)
            ∙ take-append_seam (take at l.words ++ record_words h) (drop (at + have_words) l.words)
            ∙ ap (λ (w : List ℕ). w ++ record_words h) s.are
            ∙ sym (one_more hs l.count more);
      }

-- One step keeps it, and lays one more or finds that all is laid.
pub record Steps (hs : List HaveSummary) (l : Laid) (k : ℕ) : Type 0 where
  pub stands : LaidStands hs l
  pub left : min (length hs) laid_haves ≤ l.count + k

one_step : (hs : List HaveSummary) (l : Laid) (k : ℕ) → Steps hs l (suc k) → Steps hs (laid_one hs l) k
unfolding laid_one
one_step hs l k s =
    split (ltb l.count (length hs))
    (λ t.
    let more = ltb-true _ _ t in
    split (ltb l.count laid_haves)
    (λ u.
    let room = ltb-true _ _ u in
    subst (λ (x : Laid). Steps hs x k) (sym (next_laid l (length hs) (get_or hs l.count no_have) more room))
    (record { stands = laid_stands hs l s.stands more room; left = omega (arith, s.left) }))
    (λ u.
    let full = ltb-false _ _ u in
    subst (λ (x : Laid). Steps hs x k) (sym (next_full l (length hs) (get_or hs l.count no_have) more full))
    (record { stands = s.stands; left = omega arith })))
    (λ t.
    let none = ltb-false _ _ t in
    subst (λ (x : Laid). Steps hs x k) (sym (next_none l (length hs) (get_or hs l.count no_have) none))
    (record { stands = s.stands; left = omega arith }))

many_steps : (hs : List HaveSummary) (k : ℕ) (l : Laid) → Steps hs l k → Steps hs (laid_many k hs l) 0
unfolding laid_many
many_steps hs zero l s = s
many_steps hs (suc k) l s = many_steps hs k (laid_one hs l) (one_step hs l k s)

pub all_laid : (hs : List HaveSummary) → used_words (laid_many laid_steps hs nothing_laid) ≡ summary_words (take (min (length hs) laid_haves) hs)
unfolding used_words
all_laid hs =
    let l = laid_many laid_steps hs nothing_laid in
    let s = many_steps hs laid_steps nothing_laid (record { stands = nothing_stands hs; left = omega arith }) in
    let count : l.count ≡ min (length hs) laid_haves = omega (arith, s.left, s.stands.room, s.stands.there) in
    let used : have_words * min l.count laid_haves ≡ l.count * have_words = omega (arith, s.stands.room) in
    ap (λ (n : ℕ). take n l.words) used ∙ s.stands.are ∙ ap (λ (n : ℕ). summary_words (take n hs)) count
