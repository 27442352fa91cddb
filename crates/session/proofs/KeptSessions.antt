-- A session that stands in its lent lists is read back from them as itself, and is good there if it is good; and a good session, read, stands where it
-- was read. So counts with lists and sessions as values tell each other.
use Prim.Native.Nat.{ℕ}
use mathlib.Core.Bool.{true}
use mathlib.Core.List.{List}
use mathlib.Core.Option.{Option as Maybe, none, some}
use mathlib.Core.Path.{◌≡◌, refl, ap, ◌∙◌}
use borrow.Author.Tests.{le-leb}
use lib.ListN.{length}
use Rattle.bloom.specs.Have.{Have}
use Rattle.session.proofs.GoodLaws.{sound_hashes, sound_haves}
use Rattle.session.specs.GoodState.{SoundHaves, WhereHeard, GoodState}
use Rattle.session_check.proofs.GoodLaws.{list_where, heard_nothing, heard_count_lem, haves_nothing, syncs_decide, sent_there, all_good}
use Rattle.session_check.proofs.GoodSessions.{ListParts, HavesParts, session_parts, LentBytes}
use Rattle.session_check.specs.SessionGood.{list_good, heard_good, haves_good, session_good}
use Rattle.message.specs.Sound.{SoundHashes}
use Rattle.hash_order.specs.Order.{ascends}
use Rattle.rules.proofs.Hash.{length_hashes_at, hashes_are_hashes}
use Rattle.rules.specs.Hash.{Bytes, hashes_at}
use Rattle.session_state.proofs.ValueLaws.{counts_back as counts-read}
use Rattle.session_state.specs.Session.{State}
use Rattle.session_state.specs.Value.{Lent, heard_hashes, heard_haves, state_of, count_heard, counts_of}
use Rattle.session_state.specs.declared.session.Session.{Session}
use Rattle.session.specs.Kept.{Stand, StandHeard, StandHeardHaves, Kept}
use Rattle.session.proofs.Stands.{stand_at, heard_at, haves_at_lem}
use Rattle.std.specs.Prelude.{Option, Some, None}

-- ---- read back

heard_value : (o : Maybe (List ℕ)) (buffer : List ℕ) → StandHeard o buffer → heard_hashes buffer (count_heard o) ≡ o
unfolding heard_hashes
heard_value none buffer k = refl
heard_value (some hs) buffer k = ap some k.are

haves_value : (o : Maybe (List Have)) (records bytes : List ℕ) → StandHeardHaves o records bytes → heard_haves bytes records (count_heard o) ≡ o
unfolding heard_haves
haves_value none records bytes k = refl
haves_value (some vs) records bytes k = ap some k.are

-- a session that stands in lent lists is what its counts are with them
pub kept_value : (s : State) (l : Lent) → Kept s l → state_of (counts_of s) l ≡ s
kept_value s l k =
    let heads = heard_value s.their_heads l.their_heads k.their_heads in
    let need = heard_value s.their_need l.their_need k.their_need in
    let haves = haves_value s.their_have l.haves l.bytes k.their_have in
    rw (k.shared.are, k.last_sent.are, heads, need, haves, k.sent.are)

-- ---- good

list_good_lem : (hs buffer : List ℕ) → SoundHashes hs → Stand hs buffer → list_good buffer (length hs) ≡ true
list_good_lem hs buffer g k = list_where buffer (length hs) g.few ∙ le-leb _ _ k.fit

heard_good_lem : (o : Maybe (List ℕ)) (buffer : List ℕ) → WhereHeard SoundHashes o → StandHeard o buffer → heard_good buffer (count_heard o) ≡ true
heard_good_lem none buffer g k = heard_nothing buffer None refl
heard_good_lem (some hs) buffer g k = heard_count_lem buffer (Some (length hs)) (length hs) refl ∙ list_good_lem hs buffer g k

haves_good_lem : (o : Maybe (List Have)) (records bytes : List ℕ) → WhereHeard SoundHaves o → StandHeardHaves o records bytes
    → haves_good bytes records (count_heard o) ≡ true
haves_good_lem none records bytes g k = haves_nothing bytes records None refl
haves_good_lem (some vs) records bytes g k =
    syncs_decide bytes records (Some (length vs)) (length vs) refl g.few k.fit k.good ∙ k.few

-- and no call refuses it
pub kept_good : (s : State) (l : Lent) → GoodState s → Kept s l → session_good (counts_of s) l ≡ true
kept_good s l g k =
    let ascending : ascends (hashes_at l.sent 0 (length s.sent_hashes)) ≡ true = rw k.sent.are g.ascending in
    all_good (counts_of s) l
    (list_good_lem s.shared_heads l.shared g.shared k.shared)
    (list_good_lem s.last_sent_heads l.last_sent g.last_sent k.last_sent)
    (heard_good_lem s.their_heads l.their_heads g.their_heads k.their_heads)
    (heard_good_lem s.their_need l.their_need g.their_need k.their_need)
    (haves_good_lem s.their_have l.haves l.bytes g.their_have k.their_have)
    (sent_there l.sent (length s.sent_hashes) g.sent_few k.sent.fit ∙ ascending)

-- ---- a good session, read

heard_sound : (buffer : List ℕ) (h : Option ℕ) → Bytes buffer → ((n : ℕ) → h ≡ Some n → ListParts buffer n)
    → WhereHeard SoundHashes (heard_hashes buffer h)
unfolding heard_hashes
heard_sound buffer None all f = tt
heard_sound buffer (Some n) all f = sound_hashes buffer 0 n all (f n refl).few

haves_sound : (bytes records : List ℕ) (h : Option ℕ) → Bytes bytes → ((n : ℕ) → h ≡ Some n → HavesParts bytes records n)
    → WhereHeard SoundHaves (heard_haves bytes records h)
unfolding heard_haves
haves_sound bytes records None all f = tt
haves_sound bytes records (Some n) all f = sound_haves bytes _ all (f n refl).passed

module _ (c : Session) (l : Lent) (good : session_good c l ≡ true) where
  pub good_kept : Kept (state_of c l) l
  good_kept =
      let p = session_parts c l good in
      record {
        shared = stand_at l.shared c.shared_heads p.shared.there;
        last_sent = stand_at l.last_sent c.last_sent_heads p.last_sent.there;
        their_heads = heard_at l.their_heads c.their_heads p.their_heads;
        their_need = heard_at l.their_need c.their_need p.their_need;
        their_have = haves_at_lem l.bytes l.haves c.their_have p.their_have;
        sent = stand_at l.sent c.sent_hashes p.sent.there;
      }

  -- its counts are those of the session that it is
  pub counts_back : counts_of (state_of c l) ≡ c
  counts_back = counts-read c l (λ n e. ((session_parts c l good).their_have n e).there)

  -- and over bytes that session keeps every size
  pub good_state : LentBytes l → GoodState (state_of c l)
  good_state all =
      let p = session_parts c l good in
      record {
        shared = sound_hashes l.shared 0 c.shared_heads all.shared p.shared.few;
        last_sent = sound_hashes l.last_sent 0 c.last_sent_heads all.last_sent p.last_sent.few;
        their_heads = heard_sound l.their_heads c.their_heads all.their_heads p.their_heads;
        their_need = heard_sound l.their_need c.their_need all.their_need p.their_need;
        their_have = haves_sound l.bytes l.haves c.their_have all.bytes p.their_have;
        sent_few = rw (length_hashes_at l.sent 0 c.sent_hashes) p.sent.few;
        sent_are = hashes_are_hashes l.sent 0 c.sent_hashes all.sent;
        ascending = p.sent.ascending;
      }
