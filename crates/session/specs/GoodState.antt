-- Sessions, messages and tables that keep every size. 01, Sizes, and Refusal numbers, 10: a session that is lent is one of these, and so is what the two
-- steps make of it, so that calls can follow each other for ever.
use Rattle.std.specs.Prelude.{◌≤◌, true, List, ◌≡◌, length}
use Rattle.std.proofs.Math.Option.{Option, none, some}
use Rattle.bloom.specs.Have.{Have}
use Rattle.message.specs.Sound.{Each, SoundHashes, SoundHave}
use Rattle.hash_order.specs.Order.{ascends}
use Rattle.rules.specs.Hash.{AreHashes}
use Rattle.rules.specs.Sizes.{sizes}
use Rattle.session_state.specs.Session.{State}
use Rattle.table.specs.Table.{Row, GoodTable, rows}
use Rattle.session.specs.Receive.{Said}

-- A good table of hashes, with no more rows than there may be.
pub record SoundTable (t : List Row) : Type 0 where
  pub good : GoodTable t
  pub are : AreHashes (rows t)
  pub few : length t ≤ sizes.rows

-- Haves that a message or a session may hold.
pub record SoundHaves (vs : List Have) : Type 0 where
  pub few : length vs ≤ sizes.haves
  pub each : Each SoundHave vs

-- Of what was heard, if anything was.
abbrev pub WhereHeard : {A : Type 0} → (A → Type 0) → Option A → Type 0
WhereHeard P none = Unit {0}
WhereHeard P (some x) = P x

-- A session whose lists are hashes within their limits, the sent ones ascending.
pub record GoodState (s : State) : Type 0 where
  pub shared : SoundHashes s.shared_heads
  pub last_sent : SoundHashes s.last_sent_heads
  pub their_heads : WhereHeard SoundHashes s.their_heads
  pub their_need : WhereHeard SoundHashes s.their_need
  pub their_have : WhereHeard SoundHaves s.their_have
  pub sent_few : length s.sent_hashes ≤ sizes.sent_hashes
  pub sent_are : AreHashes s.sent_hashes
  pub ascending : ascends s.sent_hashes ≡ true

-- A message that a session can take.
pub record SoundSaid (m : Said) : Type 0 where
  pub heads : SoundHashes m.heads
  pub need : SoundHashes m.need
  pub haves : SoundHaves m.haves
