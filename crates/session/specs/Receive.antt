-- What a message does to a session. 01, Session, which goes by `receive_sync_message` of src/sync.rs: the definitions stand in the order in which it
-- computes them. The table is the one after loading; its first rows, "rows before", were held before.
use Rattle.std.specs.Prelude.{ℕ, Bool, true, false, cond, not, ◌&&◌, List, [], ◌∷◌, ◌++◌, ltb, length, take, Option, Some, None}
use Rattle.std.proofs.Math.Option.{some}
use Rattle.bloom.specs.Have.{Have}
use Rattle.message_read.specs.MessageRead.{Reading, message_at, message_in}
use Rattle.table_graph.specs.Graph.{heads, below}
use Rattle.hash_lists.specs.Lists.{same}
use Rattle.message.specs.Flags.{sync_reset, read_only_flag, supports_sync_reset, has_flag}
use Rattle.message.specs.Message.{Message}
use Rattle.message.specs.declared.flags.MessageFlags.{MessageFlags}
use Rattle.hash_order.specs.Order.{member, keep, every, ascend}
use Rattle.rules.specs.Sizes.{sizes}
use Rattle.rules.specs.declared.refusal.Refusal.TheVariants.{PastSize, BadRowsBefore}
use Rattle.rules.specs.declared.refusal.Refusal.{Refusal}
use Rattle.session.specs.Plan.{empty}
use Rattle.session_state.specs.Session.{State}
use Rattle.table.specs.Table.{Row, held}

-- What a session takes from a message: its words, and whether it carries changes. What these are is the host's.
pub record Said : Type 0 where
  pub heads : List ℕ
  pub need : List ℕ
  pub haves : List Have
  pub flags : Option MessageFlags
  pub chunks : Bool

-- Whether there is a chunk at all.
abbrev pub some_chunk : List (List ℕ) → Bool
some_chunk [] = false
some_chunk (c ∷ cs) = true

-- A message that was read says this.
unfoldable pub said_in : Message → Said
said_in m =
    record { heads = m.heads; need = m.need; haves = m.haves; flags = m.flags; chunks = some_chunk m.chunks }

-- What receiving gives: the session afterwards; the session that a failed load leaves, which is 8; or another refusal, which leaves the session as it was.
pub data Received : Type 0 where
  took : State → Received
  failed : State → Received
  refused : Refusal → Received

-- The session after receiving.
abbrev pub left : Received → State → State
left (took s') s = s'
left (failed s') s = s'
left (refused r) s = s

-- What a flags section says, or what was so before where there is none.
abbrev pub flag_taken : (MessageFlags → Bool) → Option MessageFlags → Bool → Bool
flag_taken f None was = was
flag_taken f (Some flags) was = f flags

-- Hashes sent, which a reset makes forgotten.
unfoldable pub sent_flagged : Option MessageFlags → List ℕ → List ℕ
sent_flagged flags sent = cond (flag_taken (λ f. has_flag f sync_reset) flags false) [] sent

-- What every message does, even one whose changes don't load: nothing is in flight any more, and a flags section is taken, which tells that the peer
-- knows V2.
unfoldable pub flagged : Option MessageFlags → State → State
flagged flags s =
    record {
      shared_heads = s.shared_heads;
      last_sent_heads = s.last_sent_heads;
      their_heads = s.their_heads;
      their_need = s.their_need;
      their_have = s.their_have;
      sent_hashes = sent_flagged flags s.sent_hashes;
      in_flight = false;
      have_responded = s.have_responded;
      supports_v2 = flag_taken (λ f. true) flags s.supports_v2;
      supports_reset = flag_taken (λ f. has_flag f supports_sync_reset) flags s.supports_reset;
      read_only = s.read_only;
      peer_read_only = flag_taken (λ f. has_flag f read_only_flag) flags s.peer_read_only;
      needs_reset = s.needs_reset;
    }

-- Changes are loaded where there are some, unless this unit takes none.
unfoldable pub loads : State → Said → Bool
loads s m = m.chunks && not s.read_only

-- `advance_heads`: heads that are new, and shared heads that are heads still; each once, ascending.
unfoldable pub advance : List ℕ → List ℕ → List ℕ → List ℕ
advance headsBefore headsNow shared =
    ascend (keep (λ h. not (member h headsBefore)) headsNow ++ keep (λ h. member h headsNow) shared)

-- The shared heads after loading.
unfoldable pub shared_loaded : ℕ → List Row → State → Said → List ℕ
shared_loaded before t s m = cond (loads s m) (advance (heads (take before t)) (heads t) s.shared_heads) s.shared_heads

-- Shared heads joined with the heads of a message that are held: each once (02, M-101), ascending.
unfoldable pub join : List Row → List ℕ → List ℕ → List ℕ
join t their_heads shared = ascend (keep (held t) their_heads ++ shared)

-- The shared heads: the message's where all of them are held, as they stand; else both joined.
unfoldable pub shared_after : ℕ → List Row → State → Said → List ℕ
shared_after before t s m = cond (every (held t) m.heads) m.heads (join t m.heads (shared_loaded before t s m))

-- The hashes sent: not those that the peer has by now, the message's heads and all below them; a peer without heads has lost everything.
unfoldable pub sent_left : List Row → State → Said → List ℕ
sent_left t s m =
    cond (empty m.heads) [] (keep (λ h. not (below t m.heads h)) (sent_flagged m.flags s.sent_hashes))

-- The heads sent last: a peer without heads has lost them too; one that brings nothing and has the heads of before was told them.
unfoldable pub last_sent_after : ℕ → List Row → State → Said → List ℕ
last_sent_after before t s m =
    cond (empty m.heads)
    []
    (cond (not m.chunks && same m.heads (heads (take before t))) m.heads s.last_sent_heads)

-- The session after a message: its heads, need and haves are kept as they stand, and its flags are taken.
unfoldable pub received : ℕ → List Row → State → Said → State
received before t s m =
    record {
      shared_heads = shared_after before t s m;
      last_sent_heads = last_sent_after before t s m;
      their_heads = some m.heads;
      their_need = some m.need;
      their_have = some m.haves;
      sent_hashes = sent_left t s m;
      in_flight = (flagged m.flags s).in_flight;
      have_responded = (flagged m.flags s).have_responded;
      supports_v2 = (flagged m.flags s).supports_v2;
      supports_reset = (flagged m.flags s).supports_reset;
      read_only = (flagged m.flags s).read_only;
      peer_read_only = (flagged m.flags s).peer_read_only;
      needs_reset = (flagged m.flags s).needs_reset;
    }

-- A message that was read, in 01's order of refusals: 8 where changes were to be loaded and that failed, which alone leaves something, since the flags are
-- taken even so and nothing is in flight; 4 for the joined heads, counted once each; taken.
unfoldable pub receive : Bool → ℕ → List Row → State → Said → Received
receive loaded before t s m =
    cond (loads s m && not loaded)
    (failed (flagged m.flags s))
    (cond (ltb sizes.hashes (length (shared_after before t s m)))
    (refused (PastSize 0))
    (took (received before t s m)))

-- A message that was read, or its refusal.
unfoldable pub receive_read : Bool → ℕ → List Row → State → List ℕ → Reading → Received
receive_read loaded before t s bytes (Reading.read places haves chunks) =
    receive loaded before t s (said_in (message_in bytes places haves chunks))
receive_read loaded before t s bytes (Reading.refused r) = refused r

-- 11 comes first, then the message from its first byte.
unfoldable pub receive_bytes : Bool → ℕ → List Row → State → List ℕ → Received
receive_bytes loaded before t s bytes =
    cond (ltb (length t) before) (refused BadRowsBefore) (receive_read loaded before t s bytes (message_at bytes))
