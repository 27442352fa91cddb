-- Memory and buffers that a host can have: lists of limit size, filled with zeros, beside the words of a fresh session, and four buffers of limit size. So what
-- is asked of memory and buffers can be met. Assumes nothing.
use Prim.Native.Nat.{ℕ, ◌*◌, ◌≤◌}
use mathlib.Core.List.{List}
use mathlib.Core.Path.{refl}
use native.Mathlib.Omega.{arith}
use lib.ListN.{length, replicate, length-replicate}
use Rattle.bloom.specs.Have.{have_words}
use Rattle.session_check.specs.SessionGood.{lent_of}
use Rattle.rules.specs.Hash.{Bytes}
use Rattle.rules.specs.Sizes.{sizes}
use Rattle.call_words.specs.SessionWords.{session_words}
use Rattle.session_state.specs.Counts.{fresh_counts}
use Rattle.session_state.specs.Value.{Lent}
use Rattle.walk_hosts.specs.Memory.{Memory, have_room, Roomy, OfBytes, Fresh, RoomyOut}
use Rattle.rules.proofs.ByteLaws.{zeros_bytes}
use Rattle.session.specs.PlanCall.{Buffers}

-- n zeros.
unfoldable pub zeroes : ℕ → List ℕ
zeroes n = replicate n 0

-- they have room for as many
pub zeroes_room : (n : ℕ) → n ≤ length (zeroes n)
unfolding zeroes
zeroes_room n = omega (arith, length-replicate {A = ℕ} n 0)

zeroes_bytes : (n : ℕ) → Bytes (zeroes n)
unfolding zeroes
zeroes_bytes n = zeros_bytes n

-- The lists of a session, each of limit size.
abbrev lists : Lent
lists =
    lent_of (zeroes (sizes.hash * sizes.hashes)) (zeroes (sizes.hash * sizes.hashes)) (zeroes (sizes.hash * sizes.hashes))
    (zeroes (sizes.hash * sizes.hashes)) (zeroes (have_words * sizes.haves)) (zeroes (have_room * sizes.haves)) (zeroes (sizes.hash * sizes.sent_hashes))

-- A host's memory before anything was said.
abbrev pub zeroed : Memory
zeroed = record { words = session_words fresh_counts; lists = lists }

list_room_lem : sizes.hash * sizes.hashes ≤ length (zeroes (sizes.hash * sizes.hashes))
list_room_lem = zeroes_room (sizes.hash * sizes.hashes)

list_bytes : Bytes (zeroes (sizes.hash * sizes.hashes))
list_bytes = zeroes_bytes (sizes.hash * sizes.hashes)

roomy : Roomy lists
roomy =
    record {
      shared = list_room_lem;
      last_sent = list_room_lem;
      their_heads = list_room_lem;
      their_need = list_room_lem;
      haves = zeroes_room (have_words * sizes.haves);
      bytes = zeroes_room (have_room * sizes.haves);
      sent = zeroes_room (sizes.hash * sizes.sent_hashes);
    }

of_bytes : OfBytes lists
of_bytes =
    record {
      shared = list_bytes;
      last_sent = list_bytes;
      their_heads = list_bytes;
      their_need = list_bytes;
      bytes = zeroes_bytes (have_room * sizes.haves);
      sent = zeroes_bytes (sizes.hash * sizes.sent_hashes);
    }

pub zeroed_fresh : Fresh zeroed
zeroed_fresh = record { words = refl; bytes = of_bytes; room = roomy }

-- Buffers for a message's parts, each of limit size.
abbrev pub zeroed_out : Buffers
zeroed_out =
    record {
      heads = zeroes (sizes.hash * sizes.hashes);
      need = zeroes (sizes.hash * sizes.hashes);
      have = zeroes have_room;
      list = zeroes (sizes.hash * sizes.hashes_to_send);
    }

pub zeroed_wide : RoomyOut zeroed_out
zeroed_wide = record { heads = list_room_lem; need = list_room_lem; have = zeroes_room have_room; list = zeroes_room (sizes.hash * sizes.hashes_to_send) }
