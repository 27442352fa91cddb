-- When a session is bad. 01, Refusal numbers, 10: a count passes its limit, or what is lent of its list; sent hashes don't ascend; a kept have isn't
-- one.
use Rattle.std.specs.Prelude.{ℕ, ◌*◌, Bool, true, ◌&&◌, List, leb, length, Option, Some, None}
use Rattle.bloom.specs.Have.{have_words, passed_good, passed_few}
use Rattle.hash_order.specs.Order.{ascends}
use Rattle.rules.specs.Hash.{hashes_at}
use Rattle.rules.specs.Sizes.{sizes}
use Rattle.session_state.specs.Value.{Lent, kept_haves}
use Rattle.session_state.specs.declared.session.Session.{Session}

-- A list of hashes: no more than a list may have, and all of them are lent.
unfoldable pub list_good : List ℕ → ℕ → Bool
list_good s n = leb n sizes.hashes && leb (sizes.hash * n) (length s)

-- A list of hashes that may be absent: absent, or good.
unfoldable pub heard_good : List ℕ → Option ℕ → Bool
heard_good s None = true
heard_good s (Some n) = list_good s n

-- Kept haves, which may be absent: no more than there may be, all of their records are lent, and these are good as passed ones are, with no
-- more last-sync hashes each than a list may have.
unfoldable pub haves_good : List ℕ → List ℕ → Option ℕ → Bool
haves_good s haves None = true
haves_good s haves (Some n) =
    (leb n sizes.haves && leb (have_words * n) (length haves))
    && (passed_good s (kept_haves haves n) && passed_few (kept_haves haves n))

-- Sent hashes are strictly ascending; there may be as many as the session remembers.
unfoldable pub sent_good : List ℕ → ℕ → Bool
sent_good s n = (leb n sizes.sent_hashes && leb (sizes.hash * n) (length s)) && ascends (hashes_at s 0 n)

-- The lists that are lent with a session, in the order in which calls take them.
abbrev pub lent_of : List ℕ → List ℕ → List ℕ → List ℕ → List ℕ → List ℕ → List ℕ → Lent
lent_of shared last_sent their_heads their_need haves bytes sent =
    record {
      shared = shared;
      last_sent = last_sent;
      their_heads = their_heads;
      their_need = their_need;
      haves = haves;
      bytes = bytes;
      sent = sent;
    }

-- Every list of the session.
unfoldable pub session_good : Session → Lent → Bool
session_good s l =
    (list_good l.shared s.shared_heads && list_good l.last_sent s.last_sent_heads)
    && ((heard_good l.their_heads s.their_heads && heard_good l.their_need s.their_need)
    && (haves_good l.bytes l.haves s.their_have && sent_good l.sent s.sent_hashes))
