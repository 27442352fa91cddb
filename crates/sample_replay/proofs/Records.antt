-- Laws of a record: what each test of the code says of the definitions.
use Prim.Native.Nat.{ℕ, ◌+◌, ◌-◌, ◌≤◌, ◌<◌}
use mathlib.Core.Bool.{Bool, true, false, ◌&&◌, cond}
use mathlib.Core.List.{List, [], ◌∷◌}
use mathlib.Core.Path.{◌≡◌, refl, sym, ◌∙◌}
use native.Mathlib.Omega.{arith}
use borrow.Author.Tests.{lt-ltb, le-ltb, eq-eqb, ne_eqb}
use lib.Dec.{eqb}
use lib.ListN.{length, get_or, take, drop}
use Rattle.std.specs.Cmp.Lexicographic.{pointwise}
use Rattle.std.specs.Prelude.{Some, None, Result, Ok, Err}
use Rattle.std.specs.Result.{result_ok}
use Rattle.rules.specs.LittleEndian.{u16_at}
use Rattle.sample_replay.specs.Kind.{kind_of, Decodes}
use Rattle.sample_replay.specs.Record.{size_place, answer_place, input_place, agreeing, verdict_of, record_of, record_at}
use Rattle.sample_replay.specs.SampleWords.{words_at}
use Rattle.sample_replay.specs.declared.kind.Kind.{Kind}
use Rattle.sample_replay.specs.declared.kind.UnknownKind.{UnknownKind}

-- ---- two answers

and_true : (b : Bool) → (b && true) ≡ b
and_true true = refl
and_true false = refl

-- of a refusal the first words decide
pub refusals_agree : (a b : List ℕ) → (get_or a 0 0 ≡ 0 → ⊥) → eqb (get_or a 0 0) (get_or b 0 0) ≡ agreeing a b
unfolding agreeing
refusals_agree a b h = rw (ne_eqb _ _ h) (sym (and_true _))

-- the words of an answer
words : (l : List ℕ) → length l ≡ 4 → l ≡ get_or l 0 0 ∷ get_or l 1 0 ∷ get_or l 2 0 ∷ get_or l 3 0 ∷ []
words [] e = absurd (omega arith)
words (a ∷ []) e = absurd (omega arith)
words (a ∷ (b ∷ [])) e = absurd (omega arith)
words (a ∷ (b ∷ (c ∷ []))) e = absurd (omega arith)
words (a ∷ (b ∷ (c ∷ (d ∷ [])))) e = refl
words (a ∷ (b ∷ (c ∷ (d ∷ (x ∷ l))))) e = absurd (omega arith)

pointwise_words : (a b c d p q r s : ℕ) → a ≡ 0
    → pointwise eqb (a ∷ b ∷ c ∷ d ∷ []) (p ∷ q ∷ r ∷ s ∷ []) ≡ agreeing (a ∷ b ∷ c ∷ d ∷ []) (p ∷ q ∷ r ∷ s ∷ [])
unfolding agreeing
pointwise_words a b c d p q r s z = rw (eq-eqb _ _ z, and_true)

itself_agrees : (a b : List ℕ) → length a ≡ 4 → length b ≡ 4 → get_or a 0 0 ≡ 0 → pointwise eqb a b ≡ agreeing a b
itself_agrees a b m n z = rw (words a m, words b n) (pointwise_words _ _ _ _ _ _ _ _ z)

in_place : (a b f : List ℕ) → get_or b 0 0 ≡ get_or f 0 0 → get_or b 1 0 ≡ get_or f 1 0 → get_or b 2 0 ≡ get_or f 2 0
    → get_or b 3 0 ≡ get_or f 3 0 → agreeing a b ≡ agreeing a f
unfolding agreeing
in_place a b f p q r s = rw (p, q, r, s)

-- where it was accepted, all four decide, if what is compared has each word of the answer found in its place
pub accepted_agree : (a b f : List ℕ) → length a ≡ 4 → length b ≡ 4 → get_or a 0 0 ≡ 0
    → get_or b 0 0 ≡ get_or f 0 0 → get_or b 1 0 ≡ get_or f 1 0 → get_or b 2 0 ≡ get_or f 2 0 → get_or b 3 0 ≡ get_or f 3 0
    → pointwise eqb a b ≡ agreeing a f
accepted_agree a b f m n z p q r s = itself_agrees a b m n z ∙ in_place a b f p q r s

-- ---- the kind of a byte

kind_found : (byte : ℕ) (r : Result Kind UnknownKind) → Decodes byte r → kind_of byte ≡ result_ok r
kind_found byte (Ok kind) d = d
kind_found byte (Err e) d = d.1

-- ---- the record at a place

same_branches : {A : Type 0} (b : Bool) (x : A) → cond b x x ≡ x
same_branches true x = refl
same_branches false x = refl

pub u16_fits : (s : List ℕ) (at : ℕ) → ((i : ℕ) → get_or s i 0 < 256) → u16_at s at < 65536
unfolding u16_at
u16_fits s at h = omega (arith, h at, h (at + 1))

module _ (s : List ℕ) (at : ℕ) where
  pub header_cut : length s - at < input_place → None ≡ record_at s at
  unfolding record_at
  header_cut h = rw (lt-ltb _ _ h)

  module _ (h : input_place ≤ length s - at) where
    pub unknown : (r : Result Kind UnknownKind) → Decodes (get_or s at 0) r → None ≡ result_ok r → None ≡ record_at s at
    unfolding record_at record_of
    unknown r d n =
        let k : kind_of (get_or s at 0) ≡ None = kind_found (get_or s at 0) r d ∙ sym n in
        rw (le-ltb _ _ h, k) (sym (same_branches _ None))

    module _ (size : ℕ) (e : size ≡ u16_at s (at + size_place)) where
      pub input_cut : length s - (at + input_place) < size → None ≡ record_at s at
      unfolding record_at
      input_cut g = rw (le-ltb _ _ h, ← e, lt-ltb _ _ g)

      -- what the record is, by its kind
      pub judged : size ≤ length s - (at + input_place)
          → record_of (kind_of (get_or s at 0)) (take (at + input_place + size - (at + input_place)) (drop (at + input_place) s)) (words_at s (at + answer_place)) (at + input_place + size)
          ≡ record_at s at
      unfolding record_at
      judged g =
          let m : at + input_place + size - (at + input_place) ≡ size = omega arith in
          rw (le-ltb _ _ h, ← e, le-ltb _ _ g, m)

      pub known : size ≤ length s - (at + input_place) → (r : Result Kind UnknownKind) (kind : Kind) → Decodes (get_or s at 0) r → Some kind ≡ result_ok r
          → Some
          (record {
            kind = kind;
            same = verdict_of kind (take (at + input_place + size - (at + input_place)) (drop (at + input_place) s)) (words_at s (at + answer_place));
            next = at + input_place + size;
          })
          ≡ record_at s at
      unfolding record_of
      known g r kind d n =
          let k : kind_of (get_or s at 0) ≡ Some kind = kind_found (get_or s at 0) r d ∙ sym n in
          rw k at (judged g)
