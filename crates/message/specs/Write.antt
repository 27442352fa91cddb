-- A message as it is written. 01, Wire, Message, and the order of refusals: 10 for the haves, then the passed lists' 4, the chunks' bytes, and 4 for the
-- message that would result; 7 comes last (`Written`). A list that isn't whole hashes, and chunks that run past the lent bytes, are cut: 1.
use Rattle.std.specs.Prelude.{ℕ, ◌+◌, ◌-◌, ◌/◌, cond, not, List, [], ◌∷◌, ltb, length, Option}
use Rattle.std.proofs.Math.Seq.{slice}
use Rattle.bloom.specs.Have.{haves_of, passed_good, passed_few}
use Rattle.rules.specs.Hash.{hashes_at}
use Rattle.rules.specs.Output.{Output}
use Rattle.rules.specs.Passed.{passed_hashes, after_passed}
use Rattle.rules.specs.Sizes.{sizes}
use Rattle.rules.specs.declared.refusal.Refusal.TheVariants.{Cut, PastSize, BadNumbers}
use Rattle.message.specs.Message.{Message, message_bytes}
use Rattle.message.specs.declared.version.MessageVersion.{MessageVersion}
use Rattle.message.specs.declared.flags.MessageFlags.{MessageFlags}

-- What is passed: hash lists as bytes, haves as records over bytes, chunks as bytes one after the other and their lengths.
pub record Parts : Type 0 where
  pub version : MessageVersion
  pub heads : List ℕ
  pub need : List ℕ
  pub bytes : List ℕ
  pub haves : List ℕ
  pub chunks : List ℕ
  pub lengths : List ℕ
  pub flags : Option MessageFlags

-- The parts, in the order in which a call is lent them.
abbrev pub parts_of : MessageVersion → List ℕ → List ℕ → List ℕ → List ℕ → List ℕ → List ℕ → Option MessageFlags → Parts
parts_of version heads need bytes haves chunks lengths flags =
    record {
      version = version;
      heads = heads;
      need = need;
      bytes = bytes;
      haves = haves;
      chunks = chunks;
      lengths = lengths;
      flags = flags;
    }

-- The hashes that bytes are.
abbrev pub hashes_of : List ℕ → List ℕ
hashes_of s = hashes_at s 0 (length s / sizes.hash)

-- Chunk after chunk, from a place on; bytes beyond the last aren't used.
unfoldable pub chunks_from : List ℕ → ℕ → List ℕ → List (List ℕ)
chunks_from s at [] = []
chunks_from s at (n ∷ ns) = slice at (at + n) s ∷ chunks_from s (at + n) ns

-- The message that the parts are.
abbrev pub message_of : Parts → Message
message_of p =
    record {
      version = p.version;
      heads = hashes_of p.heads;
      need = hashes_of p.need;
      haves = haves_of p.bytes p.haves;
      chunks = chunks_from p.chunks 0 p.lengths;
      flags = p.flags;
    }

-- The tests, each with its refusal and then what follows. 10 for haves that break a rule.
unfoldable pub test_haves : List ℕ → List ℕ → Output → Output
test_haves s haves next = cond (not (passed_good s haves)) (Output.refuse BadNumbers) next

-- 4, then 1, for a list of hashes.
unfoldable pub test_hashes : List ℕ → Output → Output
test_hashes s next = after_passed (passed_hashes s) Output.refuse (λ n. next)

-- 4 for the haves and for the number of chunks.
unfoldable pub test_few : List ℕ → List ℕ → Output → Output
test_few haves lengths next =
    cond (not (passed_few haves))
    (Output.refuse (PastSize 0))
    (cond (ltb sizes.chunks (length lengths)) (Output.refuse (PastSize 0)) next)

-- 1 with the start of the first chunk for which there aren't enough bytes.
unfoldable pub test_chunks : List ℕ → ℕ → List ℕ → Output → Output
test_chunks s at [] next = next
test_chunks s at (n ∷ ns) next = cond (ltb (length s - at) n) (Output.refuse (Cut at)) (test_chunks s (at + n) ns next)

-- 4 for a message that passes its size.
unfoldable pub within_size : List ℕ → Output
within_size bytes = cond (ltb sizes.message (length bytes)) (Output.refuse (PastSize 0)) (Output.bytes bytes)

-- All of them in their order, and the message.
unfoldable pub message_output : Parts → Output
message_output p =
    test_haves p.bytes p.haves
    (test_hashes p.heads
    (test_hashes p.need
    (test_few p.haves p.lengths
    (test_chunks p.chunks 0 p.lengths
    (within_size (message_bytes (message_of p)))))))
