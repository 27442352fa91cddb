-- The struct that code keeps of a session: its flags and the counts of its lists. What its functions return; with the lent lists each is the
-- session of the same name in Session (ValueLaws).
use Rattle.std.specs.Prelude.{ℕ, Bool, true, false, cond, Option, Some, None}
use Rattle.session_state.specs.declared.session.Session.{Session}

-- Nothing was said yet, but some heads are shared (their number) and these haves were heard; the peer's capabilities (V2, resets), whether this unit takes no
-- changes, and whether a reset is wanted.
abbrev pub begun_counts : ℕ → Option ℕ → Bool → Bool → Bool → Bool → Session
begun_counts shared have v2 reset read_only wantsReset =
    record {
      shared_heads = shared;
      last_sent_heads = 0;
      their_heads = None;
      their_need = None;
      their_have = have;
      sent_hashes = 0;
      in_flight = false;
      have_responded = false;
      supports_v2 = v2;
      supports_reset = reset;
      read_only = read_only;
      peer_read_only = false;
      needs_reset = wantsReset;
    }

-- Nothing was said yet.
abbrev pub fresh_counts : Session
fresh_counts = begun_counts 0 None false false false false

-- Nothing was said yet, and the unit takes no changes.
abbrev pub fresh_read_only_counts : Session
fresh_read_only_counts = begun_counts 0 None false false true false

-- `shared` heads were saved; their haves are present and none.
abbrev pub restored_counts : ℕ → Session
restored_counts shared = begun_counts shared (Some 0) false false false false

-- Read-only from off to on.
abbrev pub switched_on_counts : Session → Session
switched_on_counts s =
    record {
      shared_heads = s.shared_heads;
      last_sent_heads = s.last_sent_heads;
      their_heads = s.their_heads;
      their_need = s.their_need;
      their_have = s.their_have;
      sent_hashes = s.sent_hashes;
      in_flight = false;
      have_responded = false;
      supports_v2 = s.supports_v2;
      supports_reset = s.supports_reset;
      read_only = true;
      peer_read_only = s.peer_read_only;
      needs_reset = s.needs_reset;
    }

-- Read-only from on to off: the lists are gone, so their buffers are free.
abbrev pub switched_off_counts : Session → Session
switched_off_counts s = begun_counts 0 None s.supports_v2 s.supports_reset false true

-- Setting read-only to what it is changes nothing.
unfoldable pub set_read_only_counts : Session → Bool → Session
set_read_only_counts s on =
    cond on (cond s.read_only s (switched_on_counts s)) (cond s.read_only (switched_off_counts s) s)
