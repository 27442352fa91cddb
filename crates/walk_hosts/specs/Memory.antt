-- What a host keeps and lends: sessions as words with lists, buffers for a message's parts, tables as bytes.
use Rattle.std.specs.Prelude.{ℕ, ◌+◌, ◌*◌, ◌≤◌, List, ◌≡◌, length, Ok}
use Rattle.bloom.specs.Have.{have_words}
use Rattle.table_index.specs.Index.{index_checked}
use Rattle.session.specs.Kept.{Stays}
use Rattle.session.specs.PlanCall.{Buffers}
use Rattle.rules.specs.Hash.{Bytes}
use Rattle.rules.specs.Sizes.{sizes}
use Rattle.call_words.specs.SessionWords.{session_words, session_of}
use Rattle.session_state.specs.Counts.{fresh_counts}
use Rattle.session_state.specs.Session.{State}
use Rattle.session_state.specs.Value.{Lent, counts_of}
use Rattle.table.specs.Table.{Row}
use Rattle.waiting.specs.WaitingBytes.{waiting_checked}
use Rattle.session.specs.Written.{Host}

-- A session as a host keeps it: its sixteen words, and the seven lists that are lent beside them.
pub record Memory : Type 0 where
  pub words : List ℕ
  pub lists : Lent

-- Bytes of a have at the most.
abbrev pub have_room : ℕ
have_room = sizes.hash * sizes.hashes + sizes.field

-- 01, Sizes: lists with room for what a session may hold. So 7 is never answered; 01 grants nothing about 7, and this is all that is added to it.
pub record Roomy (l : Lent) : Type 0 where
  pub shared : sizes.hash * sizes.hashes ≤ length l.shared
  pub last_sent : sizes.hash * sizes.hashes ≤ length l.last_sent
  pub their_heads : sizes.hash * sizes.hashes ≤ length l.their_heads
  pub their_need : sizes.hash * sizes.hashes ≤ length l.their_need
  pub haves : have_words * sizes.haves ≤ length l.haves
  pub bytes : have_room * sizes.haves ≤ length l.bytes
  pub sent : sizes.hash * sizes.sent_hashes ≤ length l.sent

-- The lists are slices of bytes, but for the haves' words: each holds bytes, whoever wrote it.
pub record OfBytes (l : Lent) : Type 0 where
  pub shared : Bytes l.shared
  pub last_sent : Bytes l.last_sent
  pub their_heads : Bytes l.their_heads
  pub their_need : Bytes l.their_need
  pub bytes : Bytes l.bytes
  pub sent : Bytes l.sent

-- The words and the lists hold this session: its counts, and over the lists a good session, which is this one.
pub record Holds (x : State) (m : Memory) : Type 0 where
  pub counts : session_of m.words ≡ counts_of x
  pub stays : Stays x m.lists
  pub bytes : OfBytes m.lists
  pub room : Roomy m.lists

-- A session in which nothing was said (bt_fresh), over lists that hold anything.
pub record Fresh (m : Memory) : Type 0 where
  pub words : m.words ≡ session_words fresh_counts
  pub bytes : OfBytes m.lists
  pub room : Roomy m.lists

-- Buffers with room for whatever a message may have.
pub record RoomyOut (o : Buffers) : Type 0 where
  pub heads : sizes.hash * sizes.hashes ≤ length o.heads
  pub need : sizes.hash * sizes.hashes ≤ length o.need
  pub have : have_room ≤ length o.have
  pub list : sizes.hash * sizes.hashes_to_send ≤ length o.list

-- 01, Change table and Waiting table; 02, M-100: bytes that no call refuses, the change table's with an index that fits it, lent beside it.
pub record Tabled (s : List ℕ) : Type 0 where
  pub rows : ℕ
  pub index : List ℕ
  pub good : index_checked s index ≡ Ok rows
  pub bytes : Bytes s

-- A waiting table that no call refuses beside this change table.
pub record Beside (t : List Row) (s : List ℕ) : Type 0 where
  pub rows : ℕ
  pub good : waiting_checked t s ≡ Ok rows
  pub bytes : Bytes s

-- What is lent of changes and of the document are bytes.
pub record HostBytes (host : Host) : Type 0 where
  pub change : (h : ℕ) → Bytes (host.change h)
  pub document : Bytes host.document
