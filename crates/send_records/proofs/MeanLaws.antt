-- The haves that the words of summaries are: those that the summaries name. And the summaries of words: their words are the same.
use Prim.Native.Nat.{ℕ, zero, suc, ◌+◌, ◌*◌, ◌%◌, ◌≤◌, ◌<◌}
use mathlib.Core.List.{List, [], ◌∷◌, ◌++◌, map, append_assoc}
use mathlib.Core.Path.{◌≡◌, refl, sym, ap, ◌∙◌}
use native.Mathlib.Omega.{arith}
use lib.ListN.{length, get_or, drop, length-append, drop_of_length-le}
use lib.Seq.{get_or-append-add, drop-cons}
use borrow.Author.Tests.{lt-leb}
use Rattle.bloom.specs.Have.{Have, have_words, have_count, filter_with, have_in, haves_from, haves_of}
use Rattle.send_records.specs.Summary.{record_words, summary_words, summary_have, summary_in, summaries_from, summaries_of}
use Rattle.send_records.specs.declared.summary.HaveSummary.{HaveSummary}
use Rattle.send_records.proofs.LaidLaws.{words_long}

module _ (s : List ℕ) where
  -- the record behind the words a, which are whole records
  one_means : (a : List ℕ) (i : ℕ) (h : HaveSummary) (hs : List HaveSummary) → length a ≡ have_words * i
      → have_in s (a ++ (record_words h ++ summary_words hs)) i ≡ summary_have s h
  unfolding have_in summary_have filter_with
  one_means a i h hs long =
      let w = record_words h ++ summary_words hs in
      let at : (k : ℕ) → i * have_words + k ≡ length a + k = λ k. omega arith in
      let e0 : get_or (a ++ w) (i * have_words) 0 ≡ h.place = ap (λ (n : ℕ). get_or (a ++ w) n 0) (omega arith) ∙ get_or-append-add a w 0 0 in
      let e1 : get_or (a ++ w) (i * have_words + 1) 0 ≡ h.count = ap (λ (n : ℕ). get_or (a ++ w) n 0) (at 1) ∙ get_or-append-add a w 1 0 in
      let e2 : get_or (a ++ w) (i * have_words + 2) 0 ≡ h.entries = ap (λ (n : ℕ). get_or (a ++ w) n 0) (at 2) ∙ get_or-append-add a w 2 0 in
      let e3 : get_or (a ++ w) (i * have_words + 3) 0 ≡ h.bits = ap (λ (n : ℕ). get_or (a ++ w) n 0) (at 3) ∙ get_or-append-add a w 3 0 in
      let e4 : get_or (a ++ w) (i * have_words + 4) 0 ≡ h.probes = ap (λ (n : ℕ). get_or (a ++ w) n 0) (at 4) ∙ get_or-append-add a w 4 0 in
      let e5 : get_or (a ++ w) (i * have_words + 5) 0 ≡ h.field = ap (λ (n : ℕ). get_or (a ++ w) n 0) (at 5) ∙ get_or-append-add a w 5 0 in
      let e6 : get_or (a ++ w) (i * have_words + 6) 0 ≡ h.size = ap (λ (n : ℕ). get_or (a ++ w) n 0) (at 6) ∙ get_or-append-add a w 6 0 in
      rw (e0, e1, e2, e3, e4, e5, e6)

  all_mean : (hs : List HaveSummary) (a : List ℕ) (i : ℕ) → length a ≡ have_words * i
      → haves_from s (a ++ summary_words hs) i (length hs) ≡ map (summary_have s) hs
  unfolding haves_from summary_words
  all_mean [] a i long = refl
  all_mean (h ∷ hs) a i long =
      let here = one_means a i h hs long in
      let next : length (a ++ record_words h) ≡ have_words * suc i = length-append a (record_words h) ∙ omega arith in
      let rest : haves_from s (a ++ (record_words h ++ summary_words hs)) (suc i) (length hs) ≡ map (summary_have s) hs =
      ap (λ (w : List ℕ). haves_from s w (suc i) (length hs)) (sym (append_assoc a (record_words h) (summary_words hs)))
      ∙ all_mean hs (a ++ record_words h) (suc i) next in
      ap (λ (x : Have). x ∷ haves_from s (a ++ (record_words h ++ summary_words hs)) (suc i) (length hs)) here ∙ ap (λ (xs : List Have). summary_have s h ∷ xs) rest

  pub summaries_mean : (hs : List HaveSummary) → haves_of s (summary_words hs) ≡ map (summary_have s) hs
  unfolding haves_of
  summaries_mean hs =
      let count : have_count (summary_words hs) ≡ length hs = let e = words_long hs in omega arith in
      ap (λ (n : ℕ). haves_from s (summary_words hs) 0 n) count ∙ all_mean hs [] 0 refl

-- ---- words, taken as summaries, are the words again

module _ (words : List ℕ) where
  -- seven words off the front
  seven_off : (at : ℕ) → at + have_words ≤ length words
      → drop at words
      ≡ (get_or words at 0 ∷ get_or words (at + 1) 0 ∷ get_or words (at + 2) 0 ∷ get_or words (at + 3) 0 ∷ get_or words (at + 4) 0 ∷ get_or words (at + 5) 0 ∷ get_or words (at + 6) 0 ∷ [])
      ++ drop (at + 7) words
  seven_off at fits =
      let i1 : suc at ≡ at + 1 = omega arith in
      let i2 : suc (at + 1) ≡ at + 2 = omega arith in
      let i3 : suc (at + 2) ≡ at + 3 = omega arith in
      let i4 : suc (at + 3) ≡ at + 4 = omega arith in
      let i5 : suc (at + 4) ≡ at + 5 = omega arith in
      let i6 : suc (at + 5) ≡ at + 6 = omega arith in
      let i7 : suc (at + 6) ≡ at + 7 = omega arith in
      let d0 = drop-cons words at 0 (omega arith) in
      let d1 = drop-cons words (at + 1) 0 (omega arith) in
      let d2 = drop-cons words (at + 2) 0 (omega arith) in
      let d3 = drop-cons words (at + 3) 0 (omega arith) in
      let d4 = drop-cons words (at + 4) 0 (omega arith) in
      let d5 = drop-cons words (at + 5) 0 (omega arith) in
      let d6 = drop-cons words (at + 6) 0 (omega arith) in
      rw (d0, i1, d1, i2, d2, i3, d3, i4, d4, i5, d5, i6, d6, i7)

  words_from : (count i : ℕ) → have_words * (i + count) ≡ length words → summary_words (summaries_from words i count) ≡ drop (i * have_words) words
  unfolding summaries_from summary_in summary_words
  words_from zero i whole =
      let end : length words ≤ i * have_words = omega arith in
      sym (drop_of_length-le words end)
  words_from (suc count) i whole =
      let more : i < have_count words = omega arith in
      let on : i * have_words + 7 ≡ suc i * have_words = omega arith in
      let rest = words_from count (suc i) (omega arith) in
      rw (lt-leb _ _ more, rest, ← on) (sym (seven_off (i * have_words) (omega arith)))

  -- so the haves of a message go on as records as they are
  pub words_back : length words % have_words ≡ 0 → summary_words (summaries_of words) ≡ words
  unfolding summaries_of
  words_back whole = words_from (have_count words) 0 (omega arith)
