-- A message as words, as exported calls pass it: its version, the places and counts of its parts, its flags.
use Rattle.std.specs.Prelude.{ℕ, cond, List, [], ◌∷◌, ◌≡◌, ltb, eqb, length, Result, Ok, Err, Option, Some, None}
use Rattle.call_words.specs.Answer.{refusal_words}
use Rattle.message_read.specs.MessageIgnored.{counted_of, ignored_into}
use Rattle.message_read.specs.MessageRead.{opening_at, read_with, haves_into, chunks_into}
use Rattle.message.specs.Flags.{flags_of}
use Rattle.message.specs.declared.version.MessageVersion.{MessageVersion}
use Rattle.message.specs.declared.version.MessageVersion.TheVariants.{V1, V2}
use Rattle.message_peek.specs.Peek.{peeked_at, heads_into}
use Rattle.rules.specs.Refusal.{number_of, value_of}
use Rattle.rules.specs.declared.refusal.Refusal.{Refusal}
use Rattle.message.specs.declared.flags.MessageFlags.{MessageFlags}
use Rattle.message_read.specs.declared.parse.Places.{Places}

-- 1 or 2; any other number than 2 is version 1.
abbrev pub version_word : MessageVersion → ℕ
version_word V1 = 1
version_word V2 = 2

-- The version that a word is.
unfoldable pub version_of : ℕ → MessageVersion
version_of n = cond (eqb n 2) V2 V1

-- The flags' number, or 256 without a section; any greater number says the same.
abbrev pub section_word : Option MessageFlags → ℕ
section_word None = 256
section_word (Some f) = f.0

-- The section that a word is.
unfoldable pub section_of : ℕ → Option MessageFlags
section_of n = cond (ltb n 256) (Some (flags_of n)) None

-- The places, then both numbers of ignored bytes: behind the filters' fields, and after the flags section.
abbrev pub decoded_words : Result (Places × ℕ × ℕ) Refusal → List ℕ
decoded_words (Ok (p, ignored, behind)) =
    0
    ∷ version_word p.version
    ∷ p.heads.start
    ∷ p.heads.count
    ∷ p.need.start
    ∷ p.need.count
    ∷ p.haves.start
    ∷ p.haves.count
    ∷ p.chunks.start
    ∷ p.chunks.count
    ∷ section_word p.flags
    ∷ p.next
    ∷ ignored
    ∷ behind
    ∷ []
decoded_words (Err r) = number_of r ∷ value_of r ∷ 0 ∷ 0 ∷ 0 ∷ 0 ∷ 0 ∷ 0 ∷ 0 ∷ 0 ∷ 0 ∷ 0 ∷ 0 ∷ 0 ∷ []

-- Reading a message: its words, and the lent lists at exit.
pub record MessageAnswered (s haves₀ haves₁ chunks₀ chunks₁ ignored₀ ignored₁ words : List ℕ) : Type 0 where
  pub answer : words ≡ decoded_words (counted_of s (read_with s haves₀ chunks₀))
  pub haves : haves₁ ≡ haves_into (read_with s haves₀ chunks₀) haves₀
  pub chunks : chunks₁ ≡ chunks_into (read_with s haves₀ chunks₀) chunks₀
  pub ignored : ignored₁ ≡ ignored_into s (read_with s haves₀ chunks₀) ignored₀

-- The version and the number of heads.
abbrev pub peeked_words : Result (MessageVersion × ℕ) Refusal → List ℕ
peeked_words (Ok (version, count)) = 0 ∷ version_word version ∷ count ∷ 0 ∷ []
peeked_words (Err r) = refusal_words r

-- Reading a message's heads alone: its words, and the lent buffer at exit.
pub record PeekAnswered (s before after words : List ℕ) : Type 0 where
  pub answer : words ≡ peeked_words (peeked_at s (length before))
  pub content : after ≡ heads_into (opening_at s) s before
