-- What a good session has, as lent and as a value; and that the sessions that calls hand back are good.
use Prim.Native.Nat.{ℕ, zero, suc, ◌+◌, ◌*◌, ◌≤◌, ◌<◌}
use mathlib.Core.Bool.{Bool, true, false, ◌&&◌}
use mathlib.Core.List.{List, [], ◌∷◌}
use mathlib.Core.Option.{some}
use mathlib.Core.Path.{◌≡◌, sym, ◌∙◌}
use native.Mathlib.Omega.{arith}
use borrow.Author.Tests.{le-leb, leb-true}
use lib.Dec.{leb}
use lib.ListN.{length}
use Rattle.bloom.proofs.HaveLaws.{PassedHaves, passed_haves, good_filters}
use Rattle.bloom.specs.Have.{Have, have_words, have_count, sync_place, sync_count, have_in, haves_from, haves_of, haves_good_from, passed_good, syncs_few, passed_few, GoodFilters}
use Rattle.hash_order.specs.Order.{ascends}
use Rattle.rules.proofs.Cases.{split, both}
use Rattle.rules.proofs.Hash.{length_hashes_at, hashes_are_hashes}
use Rattle.rules.specs.Hash.{Bytes, AreHashes, hashes_at}
use Rattle.rules.specs.Sizes.{sizes}
use Rattle.session_state.proofs.CountsLaws.{counts_same, counts_on, counts_off}
use Rattle.session_state.proofs.ValueLaws.{kept_length, kept_records}
use Rattle.session_state.specs.Counts.{fresh_counts, fresh_read_only_counts, restored_counts, set_read_only_counts}
use Rattle.session_state.specs.Session.{State}
use Rattle.session_state.specs.Value.{Lent, kept_haves, heard_hashes, heard_haves, state_of}
use Rattle.session_state.specs.declared.session.Session.{Session}
use Rattle.session_check.specs.SessionGood.{list_good, heard_good, haves_good, sent_good, session_good}
use Rattle.session_check.proofs.GoodLaws.{heard_count_lem}
use Rattle.std.specs.Prelude.{Option, Some, None}

-- ---- what is lent with a good session

pub record ListParts (s : List ℕ) (count : ℕ) : Type 0 where
  pub few : count ≤ sizes.hashes
  pub there : sizes.hash * count ≤ length s

pub list_parts : (s : List ℕ) (count : ℕ) → list_good s count ≡ true → ListParts s count
unfolding list_good
list_parts s count e =
    let p = both (leb count sizes.hashes) (leb (sizes.hash * count) (length s)) e in
    record { few = leb-true _ _ p.0; there = leb-true _ _ p.1 }

pub record SentParts (s : List ℕ) (count : ℕ) : Type 0 where
  pub few : count ≤ sizes.sent_hashes
  pub there : sizes.hash * count ≤ length s
  pub ascending : ascends (hashes_at s 0 count) ≡ true

pub sent_parts : (s : List ℕ) (count : ℕ) → sent_good s count ≡ true → SentParts s count
unfolding sent_good
sent_parts s count e =
    let p = both (leb count sizes.sent_hashes && leb (sizes.hash * count) (length s)) (ascends (hashes_at s 0 count)) e in
    let q = both (leb count sizes.sent_hashes) (leb (sizes.hash * count) (length s)) p.0 in
    record { few = leb-true _ _ q.0; there = leb-true _ _ q.1; ascending = p.1 }

-- Every have's last-sync hashes stand inside the lent bytes.
pub SyncsThere : List ℕ → List ℕ → Type 0
SyncsThere s haves = (i : ℕ) → i < have_count haves → sync_place haves i + sizes.hash * sync_count haves i ≤ length s

-- Of kept haves: that they are good as passed ones are, and so what those have.
pub record HavesParts (s haves : List ℕ) (count : ℕ) : Type 0 where
  pub few : count ≤ sizes.haves
  pub there : have_words * count ≤ length haves
  pub records : have_count (kept_haves haves count) ≡ count
  pub good : passed_good s (kept_haves haves count) ≡ true
  pub short : passed_few (kept_haves haves count) ≡ true
  pub passed : PassedHaves s (kept_haves haves count)
  pub filters : GoodFilters s (kept_haves haves count)
  pub syncs : SyncsThere s (kept_haves haves count)

pub haves_parts : (s haves : List ℕ) (count : ℕ) → haves_good s haves (Some count) ≡ true → HavesParts s haves count
unfolding haves_good SyncsThere
haves_parts s haves count e =
    let kept : List ℕ = kept_haves haves count in
    let p = both (leb count sizes.haves && leb (have_words * count) (length haves)) (passed_good s kept && passed_few kept) e in
    let q = both (leb count sizes.haves) (leb (have_words * count) (length haves)) p.0 in
    let t = both (passed_good s kept) (passed_few kept) p.1 in
    let there : have_words * count ≤ length haves = leb-true _ _ q.1 in
    let passed : PassedHaves s kept = passed_haves s kept t.0 t.1 in
    record {
      few = leb-true _ _ q.0;
      there = there;
      records = kept_records haves count there;
      good = t.0;
      short = t.1;
      passed = passed;
      filters = good_filters s kept passed;
      syncs = λ i h. (passed.each i h).there;
    }

-- Every test of a good session, apart.
pub record SessionTests (s : Session) (l : Lent) : Type 0 where
  pub shared : list_good l.shared s.shared_heads ≡ true
  pub last_sent : list_good l.last_sent s.last_sent_heads ≡ true
  pub their_heads : heard_good l.their_heads s.their_heads ≡ true
  pub their_need : heard_good l.their_need s.their_need ≡ true
  pub their_have : haves_good l.bytes l.haves s.their_have ≡ true
  pub sent : sent_good l.sent s.sent_hashes ≡ true

pub session_tests : (s : Session) (l : Lent) → session_good s l ≡ true → SessionTests s l
unfolding session_good
session_tests s l e =
    let a : Bool = list_good l.shared s.shared_heads in
    let b : Bool = list_good l.last_sent s.last_sent_heads in
    let c : Bool = heard_good l.their_heads s.their_heads in
    let d : Bool = heard_good l.their_need s.their_need in
    let f : Bool = haves_good l.bytes l.haves s.their_have in
    let g : Bool = sent_good l.sent s.sent_hashes in
    let p = both (a && b) ((c && d) && (f && g)) e in
    let q = both a b p.0 in
    let t = both (c && d) (f && g) p.1 in
    let u = both c d t.0 in
    let v = both f g t.1 in
    record { shared = q.0; last_sent = q.1; their_heads = u.0; their_need = u.1; their_have = v.0; sent = v.1 }

pub record SessionParts (s : Session) (l : Lent) : Type 0 where
  pub shared : ListParts l.shared s.shared_heads
  pub last_sent : ListParts l.last_sent s.last_sent_heads
  pub their_heads : (n : ℕ) → s.their_heads ≡ Some n → ListParts l.their_heads n
  pub their_need : (n : ℕ) → s.their_need ≡ Some n → ListParts l.their_need n
  pub their_have : (n : ℕ) → s.their_have ≡ Some n → HavesParts l.bytes l.haves n
  pub sent : SentParts l.sent s.sent_hashes

pub session_parts : (s : Session) (l : Lent) → session_good s l ≡ true → SessionParts s l
session_parts s l e =
    let t = session_tests s l e in
    record {
      shared = list_parts _ _ t.shared;
      last_sent = list_parts _ _ t.last_sent;
      their_heads = λ n h. list_parts _ _ (sym (heard_count_lem _ _ n h) ∙ t.their_heads);
      their_need = λ n h. list_parts _ _ (sym (heard_count_lem _ _ n h) ∙ t.their_need);
      their_have = λ n h. haves_parts l.bytes l.haves n (rw h at t.their_have);
      sent = sent_parts _ _ t.sent;
    }

-- ---- a good session as a value

-- Each have is one of P.
pub EachHave : (Have → Type 0) → List Have → Type 0
EachHave P [] = Unit {0}
EachHave P (h ∷ hs) = P h × EachHave P hs

each_have_from : (P : Have → Type 0) (s haves : List ℕ) (count i : ℕ) → ((j : ℕ) → i ≤ j → j < i + count → P (have_in s haves j))
    → EachHave P (haves_from s haves i count)
unfolding EachHave haves_from
each_have_from P s haves zero i f = tt
each_have_from P s haves (suc count) i f =
    (f i (omega arith) (omega arith), each_have_from P s haves count (suc i) (λ j a b. f j (omega arith) (omega arith)))

each_have : (P : Have → Type 0) (s haves : List ℕ) → ((j : ℕ) → j < have_count haves → P (have_in s haves j)) → EachHave P (haves_of s haves)
unfolding haves_of
each_have P s haves f = each_have_from P s haves (have_count haves) 0 (λ j a b. f j (omega arith))

-- The lists of a session are within their limits, and the sent hashes ascend.
pub record Within (v : State) : Type 0 where
  pub shared : length v.shared_heads ≤ sizes.hashes
  pub last_sent : length v.last_sent_heads ≤ sizes.hashes
  pub their_heads : (hs : List ℕ) → v.their_heads ≡ some hs → length hs ≤ sizes.hashes
  pub their_need : (hs : List ℕ) → v.their_need ≡ some hs → length hs ≤ sizes.hashes
  pub their_have : (hs : List Have) → v.their_have ≡ some hs → length hs ≤ sizes.haves
  pub their_syncs : (hs : List Have) → v.their_have ≡ some hs → EachHave (λ h. length h.last_sync ≤ sizes.hashes) hs
  pub sent : length v.sent_hashes ≤ sizes.sent_hashes
  pub ascending : ascends v.sent_hashes ≡ true

pub heard_within : (s : List ℕ) (h : Option ℕ) → heard_good s h ≡ true → (hs : List ℕ) → heard_hashes s h ≡ some hs → length hs ≤ sizes.hashes
unfolding heard_good heard_hashes
heard_within s None e hs q = absurd (let z : ◌≡◌ {A = ℕ} 0 1 = cc in omega arith)
heard_within s (Some n) e hs q =
    let r : hashes_at s 0 n ≡ hs = cc in
    let few : n ≤ sizes.hashes = (list_parts s n e).few in
    rw (← r, length_hashes_at s 0 n) few

haves_within : (s haves : List ℕ) (h : Option ℕ) → haves_good s haves h ≡ true → (hs : List Have) → heard_haves s haves h ≡ some hs → length hs ≤ sizes.haves
unfolding heard_haves
haves_within s haves None e hs q = absurd (let z : ◌≡◌ {A = ℕ} 0 1 = cc in omega arith)
haves_within s haves (Some n) e hs q =
    let r : haves_of s (kept_haves haves n) ≡ hs = cc in
    let p = haves_parts s haves n e in
    rw (← r, kept_length s haves n p.there) p.few

syncs_within : (s haves : List ℕ) (h : Option ℕ) → haves_good s haves h ≡ true → (hs : List Have) → heard_haves s haves h ≡ some hs
    → EachHave (λ h. length h.last_sync ≤ sizes.hashes) hs
unfolding heard_haves have_in
syncs_within s haves None e hs q = absurd (let z : ◌≡◌ {A = ℕ} 0 1 = cc in omega arith)
syncs_within s haves (Some n) e hs q =
    let kept : List ℕ = kept_haves haves n in
    let r : haves_of s kept ≡ hs = cc in
    let p = haves_parts s haves n e in
    rw (← r)
    (each_have (λ h. length h.last_sync ≤ sizes.hashes) s kept
    (λ j h. rw (length_hashes_at s (sync_place kept j) (sync_count kept j)) (p.passed.syncs j h)))

pub good_within : (s : Session) (l : Lent) → session_good s l ≡ true → Within (state_of s l)
good_within s l e =
    let p = session_parts s l e in
    let t = session_tests s l e in
    record {
      shared = rw (length_hashes_at l.shared 0 s.shared_heads) p.shared.few;
      last_sent = rw (length_hashes_at l.last_sent 0 s.last_sent_heads) p.last_sent.few;
      their_heads = heard_within l.their_heads s.their_heads t.their_heads;
      their_need = heard_within l.their_need s.their_need t.their_need;
      their_have = haves_within l.bytes l.haves s.their_have t.their_have;
      their_syncs = syncs_within l.bytes l.haves s.their_have t.their_have;
      sent = rw (length_hashes_at l.sent 0 s.sent_hashes) p.sent.few;
      ascending = p.sent.ascending;
    }

-- ---- lent bytes

-- What is lent are bytes; code has this of every slice of bytes.
pub record LentBytes (l : Lent) : Type 0 where
  pub shared : Bytes l.shared
  pub last_sent : Bytes l.last_sent
  pub their_heads : Bytes l.their_heads
  pub their_need : Bytes l.their_need
  pub bytes : Bytes l.bytes
  pub sent : Bytes l.sent

-- The lists of a session are lists of hashes.
pub record OfHashes (v : State) : Type 0 where
  pub shared : AreHashes v.shared_heads
  pub last_sent : AreHashes v.last_sent_heads
  pub their_heads : (hs : List ℕ) → v.their_heads ≡ some hs → AreHashes hs
  pub their_need : (hs : List ℕ) → v.their_need ≡ some hs → AreHashes hs
  pub their_syncs : (hs : List Have) → v.their_have ≡ some hs → EachHave (λ h. AreHashes h.last_sync) hs
  pub sent : AreHashes v.sent_hashes

heard_hashes_lem : (s : List ℕ) (h : Option ℕ) → Bytes s → (hs : List ℕ) → heard_hashes s h ≡ some hs → AreHashes hs
unfolding heard_hashes
heard_hashes_lem s None b hs q = absurd (let z : ◌≡◌ {A = ℕ} 0 1 = cc in omega arith)
heard_hashes_lem s (Some n) b hs q =
    let r : hashes_at s 0 n ≡ hs = cc in
    rw (← r) (hashes_are_hashes s 0 n b)

syncs_hashes : (s haves : List ℕ) (h : Option ℕ) → Bytes s → (hs : List Have) → heard_haves s haves h ≡ some hs → EachHave (λ h. AreHashes h.last_sync) hs
unfolding heard_haves have_in
syncs_hashes s haves None b hs q = absurd (let z : ◌≡◌ {A = ℕ} 0 1 = cc in omega arith)
syncs_hashes s haves (Some n) b hs q =
    let kept : List ℕ = kept_haves haves n in
    let r : haves_of s kept ≡ hs = cc in
    rw (← r) (each_have (λ h. AreHashes h.last_sync) s kept (λ j h. hashes_are_hashes s (sync_place kept j) (sync_count kept j) b))

pub lent_hashes : (s : Session) (l : Lent) → LentBytes l → OfHashes (state_of s l)
lent_hashes s l b =
    record {
      shared = hashes_are_hashes l.shared 0 s.shared_heads b.shared;
      last_sent = hashes_are_hashes l.last_sent 0 s.last_sent_heads b.last_sent;
      their_heads = heard_hashes_lem l.their_heads s.their_heads b.their_heads;
      their_need = heard_hashes_lem l.their_need s.their_need b.their_need;
      their_syncs = syncs_hashes l.bytes l.haves s.their_have b.bytes;
      sent = hashes_are_hashes l.sent 0 s.sent_hashes b.sent;
    }

-- ---- good sessions

module _ (l : Lent) where
  -- a session in which nothing was said is as good as its shared heads
  pub restored_good : (count : ℕ) → list_good l.shared count ≡ true → session_good (restored_counts count) l ≡ true
  unfolding session_good list_good heard_good haves_good passed_good haves_good_from passed_few syncs_few sent_good hashes_at ascends
  restored_good count e = rw (e, le-leb 0 (length l.last_sent) (omega arith), le-leb 0 (length l.haves) (omega arith), le-leb 0 (length l.sent) (omega arith))

  pub fresh_good : session_good fresh_counts l ≡ true
  unfolding session_good list_good heard_good haves_good sent_good hashes_at ascends
  fresh_good = rw (le-leb 0 (length l.shared) (omega arith), le-leb 0 (length l.last_sent) (omega arith), le-leb 0 (length l.sent) (omega arith))

  pub fresh_read_only_good : session_good fresh_read_only_counts l ≡ true
  unfolding session_good
  fresh_read_only_good = fresh_good

  -- setting read-only keeps a session good over the same lists
  pub switched_good : (s : Session) (on : Bool) → session_good s l ≡ true → session_good (set_read_only_counts s on) l ≡ true
  unfolding session_good
  switched_good s true e = split s.read_only (λ w. rw (counts_same s true w) e) (λ w. rw (counts_on s w) e)
  switched_good s false e = split s.read_only (λ w. rw (counts_off s w) fresh_good) (λ w. rw (counts_same s false w) e)
