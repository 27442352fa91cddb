-- What internal contracts speak of: what a message says by its places, and a session after it as numbers. No rule of 01 stands here.
use Rattle.std.specs.Prelude.{ℕ, ◌*◌, ◌≤◌, Bool, cond, not, ◌&&◌, List, ◌≡◌, ltb, eqb, length, take, Ok}
use Rattle.bloom.specs.Have.{have_words, haves_of}
use Rattle.message_read.specs.MessageRead.{message_at, decoded_of}
use Rattle.message_read.specs.declared.parse.Places.{Places}
use Rattle.table_graph.specs.Graph.{heads, below}
use Rattle.session.specs.Receive.{Said}
use Rattle.table_index.specs.Index.{Indexed}
use Rattle.message_items.specs.Items.{have_item, many_at, words_of}
use Rattle.hash_lists.specs.Lists.{same}
use Rattle.hash_order.specs.Order.{keep}
use Rattle.receive_parts.specs.Internal.ReceiveParts.{HeadsMarked}
use Rattle.rules.specs.Hash.{hashes_at}
use Rattle.rules.specs.Sizes.{sizes}
use Rattle.session.specs.Laid.{laid_bytes}
use Rattle.session_state.specs.declared.session.Session.{Session}
use Rattle.table.specs.TableBytes.{rows_at}
use Rattle.receive_shared.specs.Internal.Shared.{shared_then}
use Rattle.receive_decide.specs.declared.decide.ReceivedCounts.{ReceivedCounts}

-- ---- what a message says, by its places

-- The words of its haves.
abbrev pub haves_words : List ℕ → Places → List ℕ
haves_words s p = words_of (many_at (have_item s) p.haves.count p.haves.start)

-- What a message at these places says.
abbrev pub said_at : List ℕ → Places → Said
said_at s p =
    record {
      heads = hashes_at s p.heads.start p.heads.count;
      need = hashes_at s p.need.start p.need.count;
      haves = haves_of s (haves_words s p);
      flags = p.flags;
      chunks = ltb 0 p.chunks.count;
    }

-- ---- what is computed

-- Room for the records of any haves.
abbrev pub words_room : ℕ
words_room = have_words * sizes.haves

-- What lies below a message's heads is marked, where `kept` hashes were sent, and whether all of its heads are held is known.
pub record Prepared (table : List ℕ) (n : ℕ) (message : List ℕ) (p : Places) (kept : ℕ) (marks : List Bool) (all : Bool) : Type 0 where
  pub long : n ≤ length marks
  pub marked : HeadsMarked table n (said_at message p).heads kept marks all

-- A message that was read, beside a table and its index that were checked, and the lists of a session that is good.
pub record Makes (s : Session) (table index : List ℕ) (n before : ℕ) (message : List ℕ) (p : Places) (oldShared oldSent : List ℕ) : Type 0 where
  pub rows : Indexed table index n
  pub up_to : before ≤ n
  pub placed : decoded_of (message_at message) ≡ Ok p
  pub shared : sizes.hash * s.shared_heads ≤ length oldShared
  pub shared_few : s.shared_heads ≤ sizes.hashes
  pub sent : sizes.hash * s.sent_hashes ≤ length oldSent

-- How many of the message's heads become the ones sent last.
unfoldable pub told_heads : ℕ → ℕ → List ℕ → List ℕ → ℕ
told_heads chunks count hs old = cond (not (ltb 0 chunks) && same hs old) count 0

-- How many heads the ones sent last are then.
unfoldable pub last_sent_count : ℕ → ℕ → ℕ → ℕ
last_sent_count heads told before = cond (eqb heads 0) 0 (cond (ltb 0 told) told before)

-- How many sent hashes are gone through: none where the peer has no heads.
unfoldable pub kept_hashes : ℕ → ℕ → ℕ
kept_hashes heads sent = cond (eqb heads 0) 0 sent

-- The words of a message's haves, and how many bytes these take.
pub record WordsMade (message : List ℕ) (p : Places) (ready : List ℕ) (size : ℕ) : Type 0 where
  pub words : take (have_words * p.haves.count) ready ≡ haves_words message p
  pub bytes : size ≡ length (laid_bytes (said_at message p).haves)

-- The sent hashes that are left of those that are gone through.
abbrev pub left_of : List ℕ → ℕ → List ℕ → Places → List ℕ → ℕ → List ℕ
left_of table n message p sent keeps = keep (λ h. not (below (rows_at table 0 n) (said_at message p).heads h)) (hashes_at sent 0 keeps)

-- The numbers of a session after a message, the counts of before having the message's flags taken; and the words of its haves.
pub record CountsMade (all loads : Bool) (s : Session) (table : List ℕ) (n before : ℕ) (message : List ℕ) (p : Places) (oldShared oldSent ready : List ℕ)
    (d : ReceivedCounts) : Type 0 where
  pub shared : d.shared ≡ length (shared_then all loads before (rows_at table 0 n) (said_at message p).heads (hashes_at oldShared 0 s.shared_heads))
  pub sent : d.sent ≡ length (left_of table n message p oldSent (kept_hashes p.heads.count s.sent_hashes))
  pub told : d.last_sent_from_message ≡ told_heads p.chunks.count p.heads.count (said_at message p).heads (heads (rows_at table 0 before))
  pub last_sent : d.last_sent ≡ last_sent_count p.heads.count d.last_sent_from_message s.last_sent_heads
  pub heads : d.heads ≡ p.heads.count
  pub need : d.need ≡ p.need.count
  pub haves : d.haves ≡ p.haves.count
  pub room : length ready ≡ words_room
  pub words : WordsMade message p ready d.bytes
