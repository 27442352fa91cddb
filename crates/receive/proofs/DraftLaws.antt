-- What was computed is what the definitions of receiving give, part by part, and its numbers are their counts. Assumes nothing.
use Prim.Native.Nat.{ℕ, zero, suc, ◌+◌, ◌≤◌}
use mathlib.Core.Bool.{Bool, true, false, cond, not, ◌&&◌}
use mathlib.Core.List.{List, []}
use mathlib.Core.Path.{◌≡◌, refl, sym, ap, ◌∙◌}
use native.Mathlib.Omega.{arith}
use borrow.Author.Tests.{lt-ltb, ne_eqb}
use lib.Dec.{ltb, eqb}
use lib.ListN.{length, take}
use Rattle.message_read.specs.MessageRead.{message_at, decoded_of}
use Rattle.message_read.specs.declared.parse.Places.{Places}
use Rattle.table_graph.specs.Graph.{heads, below}
use Rattle.session.specs.Receive.{Said, flag_taken, sent_flagged, flagged, loads, shared_loaded, shared_after, sent_left, last_sent_after, received}
use Rattle.session_check.proofs.GoodSessions.{session_parts}
use Rattle.session_check.specs.SessionGood.{session_good}
use Rattle.hash_lists.specs.Lists.{same}
use Rattle.message.specs.Flags.{sync_reset, has_flag}
use Rattle.hash_order.specs.Order.{keep, every}
use Rattle.receive_parts.specs.Internal.ReceiveParts.{flagged_counts}
use Rattle.rules.proofs.Cases.{split}
use Rattle.rules.proofs.Hash.{length_hashes_at}
use Rattle.rules.specs.Hash.{hashes_at}
use Rattle.rules.specs.Sizes.{sizes}
use Rattle.session.specs.Plan.{empty}
use Rattle.session_state.proofs.ValueLaws.{hashes_counted, haves_counted}
use Rattle.session_state.specs.Session.{State}
use Rattle.session_state.specs.Value.{Lent, state_of, counts_of}
use Rattle.session_state.specs.declared.session.Session.{Session}
use Rattle.table.proofs.TableLaws.{take_rows_at}
use Rattle.table.specs.TableBytes.{rows_at}
use Rattle.table.specs.Table.{Row, held}
use Rattle.session.specs.ReceiveCall.{kept_room}
use Rattle.receive_make.specs.Internal.ReceiveMake.{said_at, told_heads, last_sent_count, kept_hashes, left_of, CountsMade}
use Rattle.receive_decide.specs.Internal.ReceivedCounts.{SmallCounts, session_counts, counts_room}
use Rattle.session.specs.declared.receive_answer.SessionRooms.{SessionRooms}
use Rattle.receive_decide.specs.declared.decide.ReceivedCounts.{ReceivedCounts}
use Rattle.receive_make.proofs.SaidLaws.{read_words, haves_many}
use Rattle.receive_shared.specs.Internal.Shared.{shared_then}
use Rattle.std.specs.Prelude.{Ok, Option}
use Rattle.message.specs.declared.flags.MessageFlags.{MessageFlags}

-- ---- counts of a good session

flagged_count : (flags : Option MessageFlags) (s : List ℕ) (n : ℕ)
    → length (sent_flagged flags (hashes_at s 0 n)) ≡ cond (flag_taken (λ f. has_flag f sync_reset) flags false) 0 n
unfolding sent_flagged
flagged_count flags s n = split (flag_taken (λ f. has_flag f sync_reset) flags false) (λ e. rw e) (λ e. rw e (length_hashes_at s 0 n))

-- the counts that a failed load leaves
pub flagged_counts_lem : (s : Session) (l : Lent) → session_good s l ≡ true → (flags : Option MessageFlags)
    → counts_of (flagged flags (state_of s l)) ≡ flagged_counts flags s
unfolding flagged
flagged_counts_lem s l good flags =
    let shared = length_hashes_at l.shared 0 s.shared_heads in
    let last_sent = length_hashes_at l.last_sent 0 s.last_sent_heads in
    let heads = hashes_counted l.their_heads s.their_heads in
    let need = hashes_counted l.their_need s.their_need in
    let haves = haves_counted l.bytes l.haves s.their_have (λ n e. ((session_parts s l good).their_have n e).there) in
    rw (shared, last_sent, heads, need, haves, flagged_count flags l.sent s.sent_hashes)

-- ---- lists of the message's heads, which may be none

not_none : (n : ℕ) → eqb (suc n) 0 ≡ false
not_none n = ne_eqb (suc n) 0 (λ e. omega arith)

some_more : (n : ℕ) → ltb 0 (suc n) ≡ true
some_more n = lt-ltb 0 (suc n) (omega arith)

-- sent hashes that are gone through, none where there are no heads
left_is : (p : ℕ → Bool) (message : List ℕ) (place count : ℕ) (b : Bool) (sent : List ℕ) (n : ℕ)
    → keep p (hashes_at sent 0 (kept_hashes count (cond b 0 n)))
    ≡ cond (empty (hashes_at message place count)) [] (keep p (cond b [] (hashes_at sent 0 n)))
unfolding kept_hashes hashes_at keep
left_is p message place zero b sent n = refl
left_is p message place (suc count) true sent n = rw (not_none count)
left_is p message place (suc count) false sent n = rw (not_none count)

last_is : (message : List ℕ) (place count : ℕ) (b : Bool) (last_sent : List ℕ) (n : ℕ)
    → last_sent_count count (cond b count 0) n
    ≡ length (cond (empty (hashes_at message place count)) [] (cond b (hashes_at message place count) (hashes_at last_sent 0 n)))
unfolding last_sent_count hashes_at
last_is message place zero b last_sent n = refl
last_is message place (suc count) true last_sent n = rw (not_none count, some_more count) (sym (ap suc (length_hashes_at message (place + sizes.hash) count)))
last_is message place (suc count) false last_sent n = rw (not_none count) (sym (length_hashes_at last_sent 0 n))

last_most : (count n most : ℕ) (b : Bool) → count ≤ most → n ≤ most → last_sent_count count (cond b count 0) n ≤ most
unfolding last_sent_count
last_most zero n most b h k = omega arith
last_most (suc count) n most true h k = rw (not_none count, some_more count) h
last_most (suc count) n most false h k = rw (not_none count) k

told_most : (count n : ℕ) (b : Bool) → cond b count 0 ≤ last_sent_count count (cond b count 0) n
unfolding last_sent_count
told_most zero n true = omega arith
told_most zero n false = omega arith
told_most (suc count) n true = rw (not_none count, some_more count) (omega arith)
told_most (suc count) n false = omega arith

told_least : (b : Bool) (n : ℕ) → cond b n 0 ≤ n
told_least true n = omega arith
told_least false n = omega arith

pub forgets_most : (b : Bool) (n : ℕ) → cond b 0 n ≤ n
forgets_most true n = omega arith
forgets_most false n = omega arith

-- ---- all parts

-- The numbers of a session after a message that was read, its flags being taken: whether all of its heads are held is known, and its changes are loaded if
-- there are some and this unit takes changes.
abbrev pub Drafted : Session → Lent → List ℕ → ℕ → ℕ → List ℕ → Places → List ℕ → ReceivedCounts → Type 0
Drafted s l table n before message p ready d =
    CountsMade (every (held (rows_at table 0 n)) (said_at message p).heads) (ltb 0 p.chunks.count && not s.read_only) (flagged_counts p.flags s) table n
    before message p l.shared l.sent ready d

module _ (s : Session) (l : Lent) (good : session_good s l ≡ true) (table : List ℕ) (n before : ℕ) (inside : before ≤ n) (message : List ℕ) (p : Places)
    (read : decoded_of (message_at message) ≡ Ok p) where
  abbrev v : State
  v = state_of s l

  abbrev t : List Row
  t = rows_at table 0 n

  abbrev m : Said
  m = said_at message p

  abbrev forgets : Bool
  forgets = flag_taken (λ f. has_flag f sync_reset) p.flags false

  abbrev tells : Bool
  tells = not (ltb 0 p.chunks.count) && same m.heads (heads (take before t))

  -- the sent hashes that are left
  pub sent_is : left_of table n message p l.sent (kept_hashes p.heads.count (cond forgets 0 s.sent_hashes)) ≡ sent_left t v m
  unfolding sent_left sent_flagged
  sent_is = left_is (λ h. not (below t m.heads h)) message p.heads.start p.heads.count forgets l.sent s.sent_hashes

  -- the shared heads
  pub shared_is : shared_then (every (held t) m.heads) (ltb 0 p.chunks.count && not s.read_only) before t m.heads (hashes_at l.shared 0 s.shared_heads)
      ≡ shared_after before t v m
  unfolding shared_then shared_after shared_loaded loads
  shared_is = refl

  module _ (ready : List ℕ) (d : ReceivedCounts) (made : Drafted s l table n before message p ready d) where
    pub sent_count : d.sent ≡ length (sent_left t v m)
    sent_count = made.sent ∙ ap length sent_is

    pub told_made : d.last_sent_from_message ≡ cond tells p.heads.count 0
    unfolding told_heads
    told_made = rw (take_rows_at table 0 before n inside) made.told

    last_made : d.last_sent ≡ last_sent_count p.heads.count (cond tells p.heads.count 0) s.last_sent_heads
    last_made = rw (← told_made) made.last_sent

    pub last_count : d.last_sent ≡ length (last_sent_after before t v m)
    unfolding last_sent_after
    last_count = last_made ∙ last_is message p.heads.start p.heads.count tells l.last_sent s.last_sent_heads

    pub heads_count_lem : d.heads ≡ length m.heads
    heads_count_lem = made.heads ∙ sym (length_hashes_at message p.heads.start p.heads.count)

    pub need_count : d.need ≡ length m.need
    need_count = made.need ∙ sym (length_hashes_at message p.need.start p.need.count)

    pub haves_count : d.haves ≡ length m.haves
    haves_count = made.haves ∙ sym (haves_many message p read)

    pub told_few : d.last_sent_from_message ≤ p.heads.count
    told_few = rw told_made (told_least tells p.heads.count)

    -- what is told has room where the heads sent last have it
    pub told_within : d.last_sent_from_message ≤ d.last_sent
    told_within = rw (told_made, last_made) (told_most p.heads.count s.last_sent_heads tells)

    pub draft_small : SmallCounts d
    draft_small =
        let g = session_parts s l good in
        let w = read_words message p read in
        record {
          last_sent = rw last_made (last_most p.heads.count s.last_sent_heads sizes.hashes tells w.few_heads g.last_sent.few);
          heads = rw made.heads w.few_heads;
          need = rw made.need w.few_need;
          haves = rw made.haves w.few_haves;
        }

    pub shared_count : d.shared ≡ length (shared_after before t v m)
    shared_count = rw shared_is at made.shared

    -- the counts that a message leaves
    pub received_counts : counts_of (received before t v m) ≡ session_counts (flagged_counts p.flags s) d
    unfolding received flagged
    received_counts = rw (shared_count, last_count, heads_count_lem, need_count, haves_count, sent_count)

    pub room_is : (r : SessionRooms) → kept_room (received before t v m) r ≡ counts_room d r
    unfolding kept_room counts_room received
    room_is r = rw (← shared_count, ← last_count, ← heads_count_lem, ← need_count, ← haves_count, ← made.words.bytes)
