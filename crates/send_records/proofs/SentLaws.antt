-- What is sent for the haves that are laid is what is sent for the list: all of it is laid, or one have more than a list may have. Then both are
-- refused alike, by what their first haves are and by their number.
use Prim.Native.Nat.{ℕ, zero, suc, ◌+◌, ◌*◌, ◌/◌, ◌%◌, ◌≤◌, ◌<◌, min}
use mathlib.Core.Bool.{false}
use mathlib.Core.List.{List, ◌++◌}
use mathlib.Core.Path.{◌≡◌, refl, sym, subst, ap, ◌∙◌}
use native.Mathlib.Omega.{arith}
use lib.Dec.{ltb}
use lib.ListN.{length, take, drop, length-append, take-append-drop, get_or-append}
use lib.Seq.{length-take-le, take_all}
use borrow.Author.Tests.{ltb-true, ltb-false}
use Rattle.bloom.specs.Have.{have_words, have_good, haves_good_from, passed_good, passed_few}
use Rattle.bloom.proofs.HaveLaws.{too_many}
use Rattle.table_index.specs.Index.{index_checked}
use Rattle.rules.proofs.Cases.{split}
use Rattle.rules.specs.Hash.{hashes_at}
use Rattle.rules.specs.Output.{Output, Written}
use Rattle.rules.specs.Passed.{passed_hashes, after_passed}
use Rattle.rules.specs.Sizes.{sizes}
use Rattle.send.specs.ToSend.{send_few, send_needs, send_rows, to_send_output}
use Rattle.table.specs.TableBytes.{table_of}
use Rattle.table.specs.TableCalls.{after_check}
use Rattle.table.specs.Table.{Row}
use Rattle.send_records.specs.Internal.RecordsLaid.{laid_haves, nothing_laid, laid_many, laid_steps, used_words}
use Rattle.send_records.specs.Summary.{summary_words}
use Rattle.send_records.specs.declared.laid.Laid.{Laid}
use Rattle.send_records.specs.declared.summary.HaveSummary.{HaveSummary}
use Rattle.send_records.proofs.LaidLaws.{words_long, words_append, all_laid}
use Rattle.std.specs.Prelude.{Result, Ok, Err}
use Rattle.rules.specs.declared.refusal.Refusal.{Refusal}

-- ---- the first haves decide 10

module _ (s a b : List ℕ) where
  first_good : (i : ℕ) → have_words * (i + 1) ≤ length a → have_good s (a ++ b) i ≡ have_good s a i
  unfolding have_good
  first_good i h =
      let e0 = get_or-append a b 0 (i * have_words) (omega arith) in
      let e1 = get_or-append a b 0 (i * have_words + 1) (omega arith) in
      let e2 = get_or-append a b 0 (i * have_words + 2) (omega arith) in
      let e3 = get_or-append a b 0 (i * have_words + 3) (omega arith) in
      let e4 = get_or-append a b 0 (i * have_words + 4) (omega arith) in
      let e5 = get_or-append a b 0 (i * have_words + 5) (omega arith) in
      let e6 = get_or-append a b 0 (i * have_words + 6) (omega arith) in
      rw (e0, e1, e2, e3, e4, e5, e6)

  firsts_good : (count i : ℕ) → have_words * (i + count) ≤ length a → haves_good_from s (a ++ b) i count ≡ haves_good_from s a i count
  unfolding haves_good_from
  firsts_good zero i h = refl
  firsts_good (suc count) i h = rw (first_good i (omega arith), firsts_good count (suc i) (omega arith))

  part_good : (k m : ℕ) → length a ≡ have_words * k → length b ≡ have_words * m → sizes.haves ≤ k → passed_good s (a ++ b) ≡ passed_good s a
  unfolding passed_good
  part_good k m la lb enough =
      let long : length (a ++ b) ≡ have_words * (k + m) = length-append a b ∙ omega arith in
      let whole : length (a ++ b) % have_words ≡ 0 = omega arith in
      let whole' : length a % have_words ≡ 0 = omega arith in
      let first : min (length (a ++ b) / have_words) sizes.haves ≡ sizes.haves = omega arith in
      let first' : min (length a / have_words) sizes.haves ≡ sizes.haves = omega arith in
      rw (whole, whole', first, first', firsts_good sizes.haves 0 (omega arith))

-- ---- the number decides 4

module _ (s v w need : List ℕ) (many : passed_few v ≡ false) (many' : passed_few w ≡ false) where
  same_few : (t : List Row) (l : List ℕ) → send_few t s v l ≡ send_few t s w l
  unfolding send_few
  same_few t l = rw (many, many')

  same_needs : (t : List Row) → send_needs t s v need ≡ send_needs t s w need
  unfolding send_needs after_passed
  same_needs t = go (passed_hashes need)
    where
      go : (x : Result ℕ Refusal) → after_passed x Output.refuse (λ k. send_few t s v (hashes_at need 0 k)) ≡ after_passed x Output.refuse (λ k. send_few t s w (hashes_at need 0 k))
      go (Ok k) = same_few t (hashes_at need 0 k)
      go (Err r) = refl

  same_rows : (table index : List ℕ) → send_rows table index s v need ≡ send_rows table index s w need
  unfolding send_rows after_check
  same_rows table index = go (index_checked table index)
    where
      go : (x : Result ℕ Refusal) → after_check x (λ n. send_needs (table_of table) s v need) ≡ after_check x (λ n. send_needs (table_of table) s w need)
      go (Ok n) = same_needs (table_of table)
      go (Err r) = refl

  same_output : (table index : List ℕ) → passed_good s v ≡ passed_good s w → to_send_output table index s v need ≡ to_send_output table index s w need
  unfolding to_send_output
  same_output table index e = rw (e, same_rows table index)

-- ---- a list that is too long, and one that isn't

module _ (table index s need : List ℕ) (hs : List HaveSummary) where
  long_output : laid_haves < length hs → to_send_output table index s (summary_words (take laid_haves hs)) need ≡ to_send_output table index s (summary_words hs) need
  long_output long =
      let a = summary_words (take laid_haves hs) in
      let b = summary_words (drop laid_haves hs) in
      let whole : a ++ b ≡ summary_words hs = sym (words_append (take laid_haves hs) (drop laid_haves hs)) ∙ ap summary_words (take-append-drop laid_haves hs) in
      let first : length (take laid_haves hs) ≡ laid_haves = length-take-le laid_haves hs (omega arith) in
      let la : length a ≡ have_words * laid_haves = words_long (take laid_haves hs) ∙ ap (λ (n : ℕ). have_words * n) first in
      let all : length (a ++ b) ≡ have_words * length hs = ap length whole ∙ words_long hs in
      let good = part_good s a b laid_haves (length (drop laid_haves hs)) la (words_long (drop laid_haves hs)) (omega arith) in
      same_output s a (a ++ b) need (too_many a (omega arith)) (too_many (a ++ b) (omega arith)) table index (sym good)
      ∙ ap (λ (w : List ℕ). to_send_output table index s w need) whole

  pub laid_output : to_send_output table index s (used_words (laid_many laid_steps hs nothing_laid)) need ≡ to_send_output table index s (summary_words hs) need
  laid_output =
      split (ltb laid_haves (length hs))
      (λ t.
      let long : laid_haves < length hs = ltb-true _ _ t in
      let e : min (length hs) laid_haves ≡ laid_haves = omega arith in
      ap (λ (w : List ℕ). to_send_output table index s w need) (all_laid hs ∙ ap (λ (n : ℕ). summary_words (take n hs)) e) ∙ long_output long)
      (λ t.
      let few : length hs ≤ laid_haves = ltb-false _ _ t in
      let e : min (length hs) laid_haves ≡ length hs = omega arith in
      ap (λ (w : List ℕ). to_send_output table index s w need)
      (all_laid hs ∙ ap (λ (n : ℕ). summary_words (take n hs)) e ∙ ap summary_words (take_all (length hs) hs (omega arith))))

pub laid_written : (table index s need : List ℕ) (hs : List HaveSummary) (l : Laid) (before after : List ℕ) (r : Result ℕ Refusal)
    → l ≡ laid_many laid_steps hs nothing_laid
    → Written (to_send_output table index s (used_words l) need) before after r
    → Written (to_send_output table index s (summary_words hs) need) before after r
laid_written table index s need hs l before after r e w =
    subst (λ (o : Output). Written o before after r) (ap (λ (k : Laid). to_send_output table index s (used_words k) need) e ∙ laid_output table index s need hs) w
