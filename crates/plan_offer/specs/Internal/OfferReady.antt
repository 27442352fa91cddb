-- What internal contracts speak of: what a body is chosen from. No rule of 01 stands here.
use Rattle.std.specs.Prelude.{ℕ, ◌*◌, ◌≤◌, true, List, ◌≡◌, length}
use Rattle.rules.specs.Sizes.{sizes}
use Rattle.session_check.specs.SessionGood.{heard_good, haves_good}
use Rattle.session_state.specs.declared.session.Session.{Session}
use Rattle.table_index.specs.Index.{Indexed}

-- The table, its index and the lists of the session were tested.
pub record OfferReady (table index : List ℕ) (n : ℕ) (s : Session) (their_need haves bytes sent : List ℕ) : Type 0 where
  pub rows : Indexed table index n
  pub need : heard_good their_need s.their_need ≡ true
  pub have : haves_good bytes haves s.their_have ≡ true
  pub there : sizes.hash * s.sent_hashes ≤ length sent
