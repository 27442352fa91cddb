-- What heads a message brings. 02, M-104: version and heads from the first part of the bytes. What is read is the first stage of the full read,
-- `opening_at`, which tests the total size before anything else; nothing behind its heads says anything here.
use Rattle.std.specs.Prelude.{ℕ, ◌*◌, cond, List, ◌≡◌, ltb, length, Result, Ok, Err}
use Rattle.std.proofs.Math.Seq.{slice}
use Rattle.std.proofs.lemmas.List.Edits.{sets}
use Rattle.rules.specs.Sizes.{sizes}
use Rattle.rules.specs.declared.refusal.Refusal.TheVariants.{NoRoom}
use Rattle.message_read.specs.MessageRead.{opening_at}
use Rattle.rules.specs.declared.refusal.Refusal.{Refusal}
use Rattle.wire.specs.declared.parse.Run.{Run}
use Rattle.message.specs.declared.version.MessageVersion.{MessageVersion}

-- Version and number of heads, with 7 where the buffer for them is too short; and that buffer at exit: the heads at its start and the rest as it was,
-- after a refusal all of it as it was.
unfoldable pub peeked_of : Result (MessageVersion × Run × ℕ) Refusal → ℕ → Result (MessageVersion × ℕ) Refusal
peeked_of (Err r) room = Err r
peeked_of (Ok (version, heads, next)) room =
    cond (ltb room (sizes.hash * heads.count)) (Err (NoRoom (sizes.hash * heads.count))) (Ok (version, heads.count))

-- The buffer at exit: the heads at its start where there is room for them.
unfoldable pub heads_into : Result (MessageVersion × Run × ℕ) Refusal → List ℕ → List ℕ → List ℕ
heads_into (Err r) s before = before
heads_into (Ok (version, heads, next)) s before =
    cond (ltb (length before) (sizes.hash * heads.count)) before (sets before 0 (slice heads.start next s))

-- What is answered for the bytes s with so much room.
abbrev pub peeked_at : List ℕ → ℕ → Result (MessageVersion × ℕ) Refusal
peeked_at s room = peeked_of (opening_at s) room

-- Answer and buffer together.
pub record PeekedInto (s before after : List ℕ) (r : Result (MessageVersion × ℕ) Refusal) : Type 0 where
  pub answer : r ≡ peeked_at s (length before)
  pub content : after ≡ heads_into (opening_at s) s before
