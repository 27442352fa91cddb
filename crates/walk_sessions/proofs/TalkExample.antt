-- The example's walk talked by two sessions: what is granted holds in each of its three rounds, with a pick and with none, so the theorem and the corollary are
-- about something, and 2 (m + 1) messages are needed here. Last-sync hashes stay none, as B never holds a head of A before the end. Assumes nothing.
use Prim.Native.Nat.{ℕ, zero, suc, ◌+◌, ◌/◌, ◌≤◌, ◌<◌}
use mathlib.Core.Bool.{true, false, not, ◌&&◌}
use mathlib.Core.List.{List, [], ◌∷◌, ◌++◌}
use mathlib.Core.Path.{◌≡◌, refl, sym, ap, ap₂, subst, ◌∙◌}
use native.Mathlib.Omega.{arith}
use borrow.Author.Tests.{ltb-true}
use lib.ListN.{length, get_or, take, length-append}
use Rattle.bloom.proofs.Rules.{pair_good_lem, default_good}
use Rattle.bloom.specs.Filter.{default_bits, default_probes, SettingGood, default_setting, most_bits}
use Rattle.bloom.specs.declared.setting.Setting.{Setting}
use Rattle.table_graph.specs.Graph.{needed, heads}
use Rattle.session.proofs.ReceiveLaws.{join_members, advance_members, shared_taken, shared_joined}
use Rattle.session.specs.Receive.{Said, shared_loaded, shared_after, loads}
use Rattle.message.specs.Message.{joined, counted}
use Rattle.message.specs.declared.version.MessageVersion.TheVariants.{V1, V2}
use Rattle.message.specs.declared.version.MessageVersion.{MessageVersion}
use Rattle.waiting_missing.specs.Missing.{missing}
use Rattle.leb128.proofs.Number.{shortest_ten}
use Rattle.leb128.specs.Number.{shortest}
use Rattle.hash_order.proofs.KeepLaws.{no_members, every_member}
use Rattle.hash_order.proofs.OrderLaws.{member_none}
use Rattle.hash_order.specs.Order.{member, keep, every, insert_once, ascend}
use Rattle.hash_order.specs.Reach.{some_below}
use Rattle.pick.specs.Picking.{goes_with, hash_fits, first_broken, size_sum, pick_checked}
use Rattle.rules.proofs.Cases.{split, both, either, true_false}
use Rattle.rules.specs.Hash.{big_endian, AreHashes}
use Rattle.rules.specs.Sizes.{sizes}
use Rattle.send.specs.ToSend.{to_send_less}
use Rattle.session.specs.Plan.{empty, haves_for, document_part, planned}
use Rattle.session_state.specs.Session.{State}
use Rattle.table.specs.Table.{Row, rows, hash_of, deps_of, index_in, row_number, held, deps, rows_from, rows_where}
use Rattle.waiting.specs.Waiting.{Waiting}
use Rattle.walk.proofs.Example.{a, b, c, one, three, c_waits, only, good_three, part_one, load_none, load_c, load_both, computed}
use Rattle.walk.specs.Round.{Loads, trim}
use Rattle.walk.specs.Walk.{heard_in, holds_all, lacking}
use Rattle.wire.specs.Item.{prefixed_bytes}
use Rattle.walk_picked.specs.PickedWalk.{AllFit}
use Rattle.walk_sessions.specs.Passing.{Passes, FitIn, Replies}
use Rattle.walk_sessions.specs.Talk.{pair_at, Reached, PassAccepted, Granted, Tables, Ended}
use Rattle.walk_sessions.proofs.Corollary.{corollary}
use Rattle.walk_sessions.proofs.Passing.{AcceptedOf}
use Rattle.walk_sessions.proofs.Sides.{Going}
use Rattle.walk_sessions.proofs.Small.{most_words}
use Rattle.walk_sessions.proofs.Talk.{Standing, start, start_sent, next, next_sent, next_shared, reply_heads, accepts_offer, round_granted}
use Rattle.session.specs.Written.{Host, list_chunks}
use Rattle.std.specs.Prelude.{Ok}

-- ---- what the hosts have

-- B's table before each round, and what waits there.
abbrev pub held_by_b : ℕ → List Row
held_by_b zero = one
held_by_b (suc zero) = one
held_by_b (suc (suc zero)) = one
held_by_b (suc (suc (suc k))) = three

abbrev pub waiting_at_b : ℕ → List Waiting
waiting_at_b zero = []
waiting_at_b (suc zero) = []
waiting_at_b (suc (suc zero)) = c_waits
waiting_at_b (suc (suc (suc k))) = []

abbrev pub waiting_at_a : ℕ → List Waiting
waiting_at_a k = []

-- Changes of no bytes will do.
abbrev pub lent : ℕ → Host
lent k = record { change = λ h. []; document = [] }

-- What filters are built with: at A the most that may be set, then the least, at B 10 and 7.
abbrev pub set_by_a : ℕ → Setting
set_by_a zero = record { bits = most_bits; probes = sizes.probes }
set_by_a (suc k) = record { bits = 1; probes = 1 }

abbrev pub set_by_b : ℕ → Setting
set_by_b k = default_setting

pub good_at_a : (k : ℕ) → SettingGood (set_by_a k).bits (set_by_a k).probes
good_at_a zero = pair_good_lem most_bits sizes.probes (omega arith) (omega arith) (omega arith)
good_at_a (suc k) = pair_good_lem 1 1 (omega arith) (omega arith) (omega arith)

pub good_at_b : (k : ℕ) → SettingGood (set_by_b k).bits (set_by_b k).probes
good_at_b k = default_good

three_hashes : AreHashes (rows three)
unfolding AreHashes rows big_endian
three_hashes = (ltb-true _ _ refl, (ltb-true _ _ refl, (ltb-true _ _ refl, tt)))

-- ---- a reply of one hash at the most

count_small : (n : ℕ) → n ≤ 1 → length (shortest n) ≤ 10
count_small n h = shortest_ten n (omega (arith, h))

leaves_room : (k : ℕ) (l : List ℕ) → length l ≤ 1 → (v : MessageVersion)
    → most_words + length (counted prefixed_bytes (list_chunks (lent k) v l)) ≤ sizes.message
unfolding counted joined prefixed_bytes list_chunks
leaves_room k [] h V1 = rw (length-append (shortest 0) []) (omega (arith, count_small 0 (omega arith)))
leaves_room k [] h V2 = rw (length-append (shortest 0) []) (omega (arith, count_small 0 (omega arith)))
leaves_room k (x ∷ []) h V1 =
    rw (length-append (shortest 1) _, length-append (shortest 0 ++ []) [], length-append (shortest 0) [])
    (omega (arith, count_small 0 (omega arith), count_small 1 (omega arith)))
leaves_room k (x ∷ []) h V2 =
    rw (length-append (shortest 1) _, length-append (shortest 0 ++ []) [], length-append (shortest 0) [])
    (omega (arith, count_small 0 (omega arith), count_small 1 (omega arith)))
leaves_room k (x ∷ y ∷ ys) h v = absurd (omega (arith, h))

-- a is B's head before the end
one_heads : heads one ≡ a ∷ []
unfolding heads rows_where rows_from needed some_below deps_of member ascend insert_once
one_heads = refl

three_heads : heads three ≡ c ∷ []
unfolding heads rows_where rows_from needed some_below deps_of member ascend insert_once
three_heads = refl

-- What round k sends where no last-sync hash is named and T is this.
abbrev sends : ℕ → List ℕ → List ℕ
sends k T =
    to_send_less three
    (haves_for default_bits default_probes (held_by_b k) (missing (held_by_b k) (waiting_at_b k) (heard_in k three)) (heard_in k three) [])
    (missing (held_by_b k) (waiting_at_b k) (heard_in k three))
    (trim three (heads (held_by_b k)) T)

-- ---- last-sync hashes stay none

-- where none is shared, no head of the message is held, and no head is new
still_none : (before : ℕ) (t : List Row) (s : State) (m : Said) → s.shared_heads ≡ []
    → ((h : ℕ) → member h m.heads ≡ true → held t h ≡ false)
    → ((h : ℕ) → member h (heads t) ≡ true → member h (heads (take before t)) ≡ true)
    → shared_after before t s m ≡ []
unfolding shared_loaded
still_none before t s m none strange old =
    no_members (shared_after before t s m)
    (λ h.
    let shared : List ℕ = shared_loaded before t s m in
    let was : List ℕ = heads (take before t) in
    let un : member h s.shared_heads ≡ true → ⊥ = rw none (member_none h) in
    split (every (held t) m.heads)
    (λ e. rw (shared_taken before t s m e) (λ f. true_false (held t h) (every_member (held t) m.heads e h f) (strange h f)))
    (λ e.
    rw (shared_joined before t s m e)
    (λ f.
    either (held t h && member h m.heads) (member h shared) (sym (join_members t m.heads shared h) ∙ f)
    (λ g. let x = both (held t h) (member h m.heads) g in true_false (held t h) x.0 (strange h x.1))
    (split (loads s m)
    (λ g.
    rw g
    (λ i.
    either (not (member h was) && member h (heads t)) (member h (heads t) && member h s.shared_heads)
    (sym (advance_members was (heads t) s.shared_heads h) ∙ i)
    (λ j. let x = both (not (member h was)) (member h (heads t)) j in true_false (not (member h was)) x.0 (ap not (old h x.1)))
    (λ j. un (both (member h (heads t)) (member h s.shared_heads) j).1)))
    (λ g. rw g un)))))

c_unheld : held one c ≡ false
unfolding held rows member big_endian
c_unheld = refl

one_lacks : holds_all three one ≡ false
unfolding every held rows member big_endian
one_lacks = refl

three_has : holds_all three three ≡ true
unfolding every held rows member big_endian
three_has = refl

a_head : empty (heads one) ≡ false
a_head = rw one_heads

-- the first three rounds are still to be talked
going : (k : ℕ) → holds_all three (held_by_b k) ≡ false → Going three (held_by_b k) k
going k e h = e

-- What each of the three rounds brings.
abbrev pub brought : ℕ → List ℕ
brought zero = []
brought (suc zero) = c ∷ []
brought (suc (suc zero)) = b ∷ []
brought (suc (suc (suc k))) = []

-- What A may pass: picks of all that a round brings, or none.
pub record BringsAll (pass : ℕ → Passes) : Type 0 where
  pub fits : (k : ℕ) → FitIn three (pass k)
  pub accepted : (k : ℕ) → AcceptedOf three (pass k) (brought k)
  pub names : (k : ℕ) (l : List ℕ) → Replies three (pass k) (brought k) l → l ≡ brought k

module _ (pass : ℕ → Passes) (brings : BringsAll pass) where
  pub tables : Tables set_by_a set_by_b pass three held_by_b waiting_at_b waiting_at_a lent
  tables =
      record {
        good = good_three;
        limit = omega arith;
        hashes = three_hashes;
        part = part_one;
        nothing = refl;
        fits = brings.fits;
        setting_a = λ k n h. (good_at_a k).each n (omega arith);
        setting_b = λ k n h. (good_at_b k).each n (omega arith);
      }

  abbrev TalkStands : ℕ → Type 0
  TalkStands = Standing set_by_a set_by_b pass three held_by_b waiting_at_b waiting_at_a lent tables

  abbrev Grants : ℕ → Type 0
  Grants = Granted set_by_a set_by_b pass three held_by_b waiting_at_b waiting_at_a lent

  -- B's last-sync hashes in round k.
  abbrev last_sync : ℕ → List ℕ
  last_sync k = (pair_at set_by_a set_by_b pass three held_by_b waiting_at_b waiting_at_a lent k).at_b.shared_heads

  -- what A offers in round k where T is this
  abbrev offers : ℕ → List ℕ → List ℕ
  offers k T =
      to_send_less three
      (haves_for default_bits default_probes (held_by_b k) (missing (held_by_b k) (waiting_at_b k) (heard_in k three)) (heard_in k three) (last_sync k))
      (missing (held_by_b k) (waiting_at_b k) (heard_in k three))
      (trim three (heads (held_by_b k)) T)

  -- it is what the round brings, where no last-sync hash is named
  offers_so : (k : ℕ) (T T' : List ℕ) → last_sync k ≡ [] → T ≡ T' → sends k T' ≡ brought k → offers k T ≡ brought k
  offers_so k T T' none t is =
      let need : List ℕ = missing (held_by_b k) (waiting_at_b k) (heard_in k three) in
      ap₂ (λ (x y : List ℕ).
      to_send_less three (haves_for default_bits default_probes (held_by_b k) need (heard_in k three) x) need (trim three (heads (held_by_b k)) y))
      none t
      ∙ is

  -- and the reply to it is that
  names_so : (k : ℕ) (offer l : List ℕ) → offer ≡ brought k → Replies three (pass k) offer l → l ≡ brought k
  names_so k offer l same r = brings.names k l (subst (λ o. Replies three (pass k) o l) same r)

  -- so much is granted in a round of no last-sync hash, with this T
  grants : (k : ℕ) (st : TalkStands k) → Going three (held_by_b k) k → (T : List ℕ) → last_sync k ≡ [] → st.sent ≡ T → sends k T ≡ brought k
      → length (brought k) ≤ 1
      → empty (heads (held_by_b k)) ≡ false
      → Loads three (held_by_b k) (waiting_at_b k) (brought k) (held_by_b (suc k)) (waiting_at_b (suc k))
      → length (waiting_at_b (suc k)) ≤ sizes.waiting_rows
      → Grants k
  grants k st going T none t is one found loads few =
      let same : offers k st.sent ≡ brought k = offers_so k st.sent T none t is in
      let short : length (offers k st.sent) ≤ length three / document_part = rw same (omega (arith, one)) in
      let accepts : PassAccepted set_by_a set_by_b pass three held_by_b waiting_at_b waiting_at_a lent k =
      accepts_offer set_by_a set_by_b pass three held_by_b waiting_at_b waiting_at_a lent tables k st going found short
      (subst (AcceptedOf three (pass k)) (sym same) (brings.accepted k))
      in
      round_granted set_by_a set_by_b pass three held_by_b waiting_at_b waiting_at_a lent tables k st going accepts found short (brought k)
      (names_so k (offers k st.sent) _ same)
      (leaves_room k (brought k) one)
      loads
      few

  -- so last-sync hashes stay none
  stays_none : (k : ℕ) (st : TalkStands k) (going : Going three (held_by_b k) k) → Grants k → last_sync k ≡ []
      → held (held_by_b (suc k)) c ≡ false
      → ((h : ℕ) → member h (heads (held_by_b (suc k))) ≡ true → member h (heads (take (length (held_by_b k)) (held_by_b (suc k)))) ≡ true)
      → last_sync (suc k) ≡ []
  unfolding planned member
  stays_none k st going granted none strange old =
      next_shared set_by_a set_by_b pass three held_by_b waiting_at_b waiting_at_a lent tables k st going granted
      ∙ still_none (length (held_by_b k)) (held_by_b (suc k)) _ _ none
      (λ h m.
      let is : h ≡ c =
      only c h
      (rw (reply_heads set_by_a set_by_b pass three held_by_b waiting_at_b waiting_at_a lent tables k st going granted.accepts, three_heads) at m)
      in
      rw is strange)
      old

  -- ---- the rounds

  first : TalkStands 0
  first = start set_by_a set_by_b pass three held_by_b waiting_at_b waiting_at_a lent tables

  first_sent : first.sent ≡ []
  unfolding first
  first_sent = start_sent set_by_a set_by_b pass three held_by_b waiting_at_b waiting_at_a lent tables

  first_none : last_sync 0 ≡ []
  unfolding pair_at
  first_none = refl

  -- T after a round of this T
  sent_after_lem : (k : ℕ) (st : TalkStands k) (g : Going three (held_by_b k) k) (granted : Grants k) (T kept : List ℕ) → last_sync k ≡ [] → st.sent ≡ T
      → sends k T ≡ brought k
      → trim three (heads (held_by_b k)) T ≡ kept
      → (next set_by_a set_by_b pass three held_by_b waiting_at_b waiting_at_a lent tables k st g granted).sent ≡ kept ++ brought k
  sent_after_lem k st g granted T kept none t is keeps =
      next_sent set_by_a set_by_b pass three held_by_b waiting_at_b waiting_at_a lent tables k st g granted (brought k)
      (names_so k (offers k st.sent) _ (offers_so k st.sent T none t is))
      ∙ ap (λ (x : List ℕ). x ++ brought k) (ap (trim three (heads (held_by_b k))) t ∙ keeps)

  -- round one: nothing comes
  grants0 : Grants 0
  grants0 = grants 0 first (going 0 one_lacks) [] first_none first_sent computed.0 (omega arith) a_head load_none (omega arith)

  second : TalkStands 1
  second = next set_by_a set_by_b pass three held_by_b waiting_at_b waiting_at_a lent tables 0 first (going 0 one_lacks) grants0

  second_sent : second.sent ≡ []
  unfolding second
  second_sent = sent_after_lem 0 first (going 0 one_lacks) grants0 [] [] first_none first_sent computed.0 computed.3

  second_none : last_sync 1 ≡ []
  second_none = stays_none 0 first (going 0 one_lacks) grants0 first_none c_unheld (λ h m. m)

  -- round two: c comes and waits
  grants1 : Grants 1
  grants1 = grants 1 second (going 1 one_lacks) [] second_none second_sent computed.1 (omega arith) a_head load_c (omega arith)

  third : TalkStands 2
  third = next set_by_a set_by_b pass three held_by_b waiting_at_b waiting_at_a lent tables 1 second (going 1 one_lacks) grants1

  third_sent : third.sent ≡ c ∷ []
  unfolding third
  third_sent = sent_after_lem 1 second (going 1 one_lacks) grants1 [] [] second_none second_sent computed.1 computed.3

  third_none : last_sync 2 ≡ []
  third_none = stays_none 1 second (going 1 one_lacks) grants1 second_none c_unheld (λ h m. m)

  -- round three: b comes, and both move
  grants2 : Grants 2
  grants2 = grants 2 third (going 2 one_lacks) (c ∷ []) third_none third_sent computed.2 (omega arith) a_head load_both (omega arith)

  -- ---- so all is granted in each round that is reached

  pub all_granted : (k : ℕ) → Reached set_by_a set_by_b pass three held_by_b waiting_at_b waiting_at_a lent k → Grants k
  all_granted zero r = grants0
  all_granted (suc zero) r = grants1
  all_granted (suc (suc zero)) r = grants2
  all_granted (suc (suc (suc k))) r = absurd (true_false (holds_all three three) three_has (r 2 (omega arith)))

  -- The corollary speaks of these sessions.
  pub talk_ends : Ended set_by_a set_by_b pass three held_by_b waiting_at_b waiting_at_a lent (lacking three one)
  talk_ends = corollary set_by_a set_by_b pass three held_by_b waiting_at_b waiting_at_a lent tables all_granted

two_lacking : lacking three one ≡ 2
unfolding keep member held rows big_endian
two_lacking = refl

last_is : (k : ℕ) → k ≤ 2 → holds_all three (held_by_b (suc k)) ≡ true → k ≡ 2
last_is zero h e = absurd (true_false (holds_all three one) e one_lacks)
last_is (suc zero) h e = absurd (true_false (holds_all three one) e one_lacks)
last_is (suc (suc zero)) h e = refl
last_is (suc (suc (suc k))) h e = absurd (omega (arith, h))

-- ---- with no pick, and with picks

-- No pick is passed.
abbrev pub passes_none : ℕ → Passes
passes_none k = Passes.all

pub brings_none : BringsAll passes_none
brings_none = record { fits = λ k. tt; accepted = λ k. tt; names = λ k l e. e }

-- The changes have 3, 4 and 5 bytes, and a message takes 5: in round two a pick is passed, then none.
abbrev pub passes_some : ℕ → Passes
passes_some zero = Passes.all
passes_some (suc zero) = Passes.picked (3 ∷ 4 ∷ 5 ∷ []) 5 (c ∷ [])
passes_some (suc (suc k)) = Passes.all

all_fit : AllFit three (3 ∷ 4 ∷ 5 ∷ []) 5
all_fit = record { each = refl; fit = fit }
  where
    fit : (i : ℕ) → i < length three → get_or (3 ∷ 4 ∷ 5 ∷ []) i 0 ≤ 5
    fit zero h = omega arith
    fit (suc zero) h = omega arith
    fit (suc (suc zero)) h = omega arith
    fit (suc (suc (suc i))) h = absurd (omega (arith, h))

c_accepted : pick_checked three (c ∷ []) (3 ∷ 4 ∷ 5 ∷ []) 5 (c ∷ []) ≡ Ok tt
unfolding pick_checked first_broken hash_fits goes_with size_sum held rows member every row_number index_in deps deps_of hash_of big_endian
c_accepted = refl

pub brings_some : BringsAll passes_some
brings_some = record { fits = fits; accepted = accepted; names = names }
  where
    fits : (k : ℕ) → FitIn three (passes_some k)
    fits zero = tt
    fits (suc zero) = all_fit
    fits (suc (suc k)) = tt

    accepted : (k : ℕ) → AcceptedOf three (passes_some k) (brought k)
    accepted zero = tt
    accepted (suc zero) = c_accepted
    accepted (suc (suc k)) = tt

    names : (k : ℕ) (l : List ℕ) → Replies three (passes_some k) (brought k) l → l ≡ brought k
    names zero l e = e
    names (suc zero) l e = e.0
    names (suc (suc k)) l e = e

-- The bound is met, whatever is passed: B lacks two rows, and the last round is number two, counted from 0.
pub talk_takes_all : (pass : ℕ → Passes) (brings : BringsAll pass) → (lacking three one ≡ 2) × ((talk_ends pass brings).last ≡ 2)
talk_takes_all pass brings =
    let ends = talk_ends pass brings in
    (two_lacking, last_is ends.last (rw two_lacking at ends.bound) ends.holds)
