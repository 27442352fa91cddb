-- A message and its words: what is written is read back; and a call that reads a message, or its heads, has one answer and leaves one content of what
-- it was lent.
use Prim.Native.Nat.{ℕ, ◌≤◌, ◌<◌}
use mathlib.Core.List.{List}
use mathlib.Core.Path.{◌≡◌, refl, sym, ap, ap₂, subst, ◌∙◌}
use borrow.Author.Tests.{eq-eqb, ne_eqb, lt-ltb, le-ltb}
use Rattle.message_read.specs.MessageIgnored.{DecodedInto}
use Rattle.message.specs.Write.{parts_of, message_output}
use Rattle.message.specs.Flags.{flags_of}
use Rattle.message.specs.declared.version.MessageVersion.{MessageVersion}
use Rattle.message.specs.declared.version.MessageVersion.TheVariants.{V1, V2}
use Rattle.message_peek.specs.Peek.{PeekedInto}
use Rattle.rules.specs.Output.{Output, Written}
use Rattle.call_words.proofs.Answers.{answered}
use Rattle.call_words.specs.Answer.{write_words, Answered}
use Rattle.message_calls.specs.MessageWords.{version_word, version_of, section_word, section_of, decoded_words, MessageAnswered, peeked_words, PeekAnswered}
use Rattle.std.specs.Prelude.{Result, Option, Some, None}
use Rattle.rules.specs.declared.refusal.Refusal.{Refusal}
use Rattle.message.specs.declared.flags.MessageFlags.{MessageFlags}
use Rattle.message_read.specs.declared.parse.Places.{Places}

-- ---- the words that are passed

module _ (n : ℕ) where
  pub version_two : n ≡ 2 → V2 ≡ version_of n
  unfolding version_of
  version_two e = rw (eq-eqb n 2 e)

  pub version_one : (n ≡ 2 → ⊥) → V1 ≡ version_of n
  unfolding version_of
  version_one h = rw (ne_eqb n 2 h)

  pub section_there : n < 256 → Some (flags_of n) ≡ section_of n
  unfolding section_of
  section_there h = rw (lt-ltb n 256 h)

  pub section_none : 256 ≤ n → None ≡ section_of n
  unfolding section_of
  section_none h = rw (le-ltb n 256 h)

-- A version's word is that version's, and the words of flags that fit a byte are those flags'.
pub version_back : (v : MessageVersion) → version_of (version_word v) ≡ v
unfolding version_of
version_back V1 = refl
version_back V2 = refl

pub flags_back : (f : ℕ) → f < 256 → section_of (section_word (Some (flags_of f))) ≡ Some (flags_of f)
flags_back f h = sym (section_there f h)

-- ---- the words that are answered

pub message_answered : (s haves₀ haves₁ chunks₀ chunks₁ ignored₀ ignored₁ words : List ℕ) (r : Result (Places × ℕ × ℕ) Refusal)
    → DecodedInto s haves₀ haves₁ chunks₀ chunks₁ ignored₀ ignored₁ r
    → words ≡ decoded_words r
    → MessageAnswered s haves₀ haves₁ chunks₀ chunks₁ ignored₀ ignored₁ words
message_answered s haves₀ haves₁ chunks₀ chunks₁ ignored₀ ignored₁ words r d e =
    record { answer = e ∙ ap decoded_words d.answer; haves = d.haves; chunks = d.chunks; ignored = d.ignored }

pub message_answered_once : {s haves chunks ignored h₁ h₂ k₁ k₂ i₁ i₂ w₁ w₂ : List ℕ} → MessageAnswered s haves h₁ chunks k₁ ignored i₁ w₁
    → MessageAnswered s haves h₂ chunks k₂ ignored i₂ w₂
    → (w₁ ≡ w₂) × (h₁ ≡ h₂) × (k₁ ≡ k₂) × (i₁ ≡ i₂)
message_answered_once x y =
    (x.answer ∙ sym y.answer, x.haves ∙ sym y.haves, x.chunks ∙ sym y.chunks, x.ignored ∙ sym y.ignored)

pub peek_answered : (s before after words : List ℕ) (r : Result (MessageVersion × ℕ) Refusal) → PeekedInto s before after r → words ≡ peeked_words r → PeekAnswered s before after words
peek_answered s before after words r p e = record { answer = e ∙ ap peeked_words p.answer; content = p.content }

pub peek_answered_once : {s before a₁ a₂ w₁ w₂ : List ℕ} → PeekAnswered s before a₁ w₁ → PeekAnswered s before a₂ w₂ → (w₁ ≡ w₂) × (a₁ ≡ a₂)
peek_answered_once x y = (x.answer ∙ sym y.answer, x.content ∙ sym y.content)

-- ---- a message that is written

pub message_written : (version flags : ℕ) (v : MessageVersion) (f : Option MessageFlags) (heads need bytes haves chunks lengths before after words : List ℕ) (r : Result ℕ Refusal)
    → v ≡ version_of version
    → f ≡ section_of flags
    → Written (message_output (parts_of v heads need bytes haves chunks lengths f)) before after r
    → words ≡ write_words r
    → Answered (message_output (parts_of (version_of version) heads need bytes haves chunks lengths (section_of flags))) before after words
message_written version flags v f heads need bytes haves chunks lengths before after words r e g w h =
    let same = ap₂ (λ (x : MessageVersion) (y : Option MessageFlags). message_output (parts_of x heads need bytes haves chunks lengths y)) e g in
    answered _ _ _ _ _ (subst (λ (o : Output). Written o before after r) same w) h
