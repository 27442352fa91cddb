-- Sessions as values, and read-only mode. 01, Session. A session here has its lists themselves; code has their counts (Counts), and lent
-- buffers that they stand in (Value).
use Rattle.std.specs.Prelude.{ℕ, Bool, true, false, cond, List, []}
use Rattle.std.proofs.Math.Option.{Option, none, some}
use Rattle.bloom.specs.Have.{Have}

-- What a unit remembers of a peer. Heads, need and haves are what the peer said last; what it never said is none, which isn't empty.
pub record State : Type 0 where
  pub shared_heads : List ℕ
  pub last_sent_heads : List ℕ
  pub their_heads : Option (List ℕ)
  pub their_need : Option (List ℕ)
  pub their_have : Option (List Have)
  pub sent_hashes : List ℕ
  pub in_flight : Bool
  pub have_responded : Bool
  pub supports_v2 : Bool
  pub supports_reset : Bool
  pub read_only : Bool
  pub peer_read_only : Bool
  pub needs_reset : Bool

-- 01, Session: nothing was said yet, by either peer, but these heads are shared and these haves were heard; the peer's capabilities (V2, resets),
-- whether this unit takes no changes, and whether a reset is wanted.
abbrev pub begun : List ℕ → Option (List Have) → Bool → Bool → Bool → Bool → State
begun shared have v2 reset takesNone wantsReset =
    record {
      shared_heads = shared;
      last_sent_heads = [];
      their_heads = none;
      their_need = none;
      their_have = have;
      sent_hashes = [];
      in_flight = false;
      have_responded = false;
      supports_v2 = v2;
      supports_reset = reset;
      read_only = takesNone;
      peer_read_only = false;
      needs_reset = wantsReset;
    }

-- 01, Session: a fresh one.
abbrev pub fresh : State
fresh = begun [] none false false false false

-- 01, Session: fresh, of a unit that takes no changes.
abbrev pub fresh_read_only : State
fresh_read_only = begun [] none false false true false

-- 01, Wire, saved state: fresh but for its shared heads, and their haves are present and none.
abbrev pub restored : List ℕ → State
restored shared = begun shared (some []) false false false false

-- 01, Session, read-only from off to on: nothing is in flight or was answered any more, so that the next message tells the peer.
abbrev pub switched_on : State → State
switched_on s =
    record {
      shared_heads = s.shared_heads;
      last_sent_heads = s.last_sent_heads;
      their_heads = s.their_heads;
      their_need = s.their_need;
      their_have = s.their_have;
      sent_hashes = s.sent_hashes;
      in_flight = false;
      have_responded = false;
      supports_v2 = s.supports_v2;
      supports_reset = s.supports_reset;
      read_only = true;
      peer_read_only = s.peer_read_only;
      needs_reset = s.needs_reset;
    }

-- 01, Session, read-only from on to off: fresh, but the peer's capabilities stay known, and it is asked to send again what was ignored.
abbrev pub switched_off : State → State
switched_off s = begun [] none s.supports_v2 s.supports_reset false true

-- 01, Session: setting read-only to what it is changes nothing.
unfoldable pub set_read_only : State → Bool → State
set_read_only s on = cond on (cond s.read_only s (switched_on s)) (cond s.read_only (switched_off s) s)
