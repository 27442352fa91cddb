-- What internal contracts speak of: the counts of a session with flags taken, and which of a message's heads are held. No rule of 01 stands here.
use Rattle.std.specs.Prelude.{ℕ, ◌<◌, Bool, true, false, cond, ◌&&◌, List, ◌≡◌, get_or, Option}
use Rattle.table_graph.specs.Graph.{below_row}
use Rattle.table_graph.specs.Internal.Marks.{Marks}
use Rattle.session.specs.Receive.{flag_taken}
use Rattle.message.specs.Flags.{sync_reset, read_only_flag, supports_sync_reset, has_flag}
use Rattle.hash_order.specs.Order.{every}
use Rattle.session_state.specs.declared.session.Session.{Session}
use Rattle.table.specs.TableBytes.{rows_at}
use Rattle.table.specs.Table.{Row, held, row_number}
use Rattle.message.specs.declared.flags.MessageFlags.{MessageFlags}

-- The counts of a session that a flags section was taken into.
abbrev pub flagged_counts : Option MessageFlags → Session → Session
flagged_counts flags s =
    record {
      shared_heads = s.shared_heads;
      last_sent_heads = s.last_sent_heads;
      their_heads = s.their_heads;
      their_need = s.their_need;
      their_have = s.their_have;
      sent_hashes = cond (flag_taken (λ f. has_flag f sync_reset) flags false) 0 s.sent_hashes;
      in_flight = false;
      have_responded = s.have_responded;
      supports_v2 = flag_taken (λ f. true) flags s.supports_v2;
      supports_reset = flag_taken (λ f. has_flag f supports_sync_reset) flags s.supports_reset;
      read_only = s.read_only;
      peer_read_only = flag_taken (λ f. has_flag f read_only_flag) flags s.peer_read_only;
      needs_reset = s.needs_reset;
    }

-- A hash whose row is marked.
unfoldable pub held_marked : List Row → List Bool → ℕ → Bool
held_marked t marks h = held t h && get_or marks (row_number t h) false

-- Whether all of some hashes are held; and their rows marked with all below them, where hashes were sent: of these the ones are left that aren't marked.
pub record HeadsMarked (table : List ℕ) (n : ℕ) (hs : List ℕ) (sent : ℕ) (marks : List Bool) (all : Bool) : Type 0 where
  pub rows : 0 < sent → Marks n marks (below_row (rows_at table 0 n) hs)
  pub known : all ≡ every (held (rows_at table 0 n)) hs
