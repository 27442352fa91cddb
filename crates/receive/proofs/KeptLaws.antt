-- What is put where a message is taken has room, and is what the call promises to keep. Assumes nothing.
use Prim.Native.Nat.{ℕ, zero, suc, ◌+◌, ◌*◌, ◌≤◌}
use mathlib.Core.Bool.{Bool, true, false, cond, not, ◌&&◌}
use mathlib.Core.List.{List, [], ◌++◌}
use mathlib.Core.Path.{◌≡◌, refl, sym, ◌∙◌}
use native.Mathlib.Nat.{zero-add}
use native.Mathlib.Omega.{arith}
use borrow.Author.Tests.{ltb-false}
use lib.Dec.{ltb}
use lib.ListN.{length, take, drop, take-append-drop}
use lib.Seq.{sets, slice, sets-eq, length-take-le}
use Rattle.bloom.specs.Have.{have_words, haves_of}
use Rattle.message_read.specs.MessageRead.{message_at, decoded_of}
use Rattle.message_read.specs.declared.parse.Places.{Places}
use Rattle.table_graph.specs.Graph.{heads}
use Rattle.session_check.specs.SessionGood.{session_good, lent_of}
use Rattle.session_check.proofs.GoodSessions.{session_parts}
use Rattle.hash_lists.specs.Lists.{same}
use Rattle.rules.specs.Hash.{Bytes, hashes_at, hashes_bytes}
use Rattle.rules.specs.Sizes.{sizes}
use Rattle.rules.proofs.Cases.{split}
use Rattle.rules.proofs.Hash.{hashes_at_bytes}
use Rattle.session.specs.Plan.{empty}
use Rattle.session.specs.Receive.{Said, Received, shared_after, sent_left, last_sent_after, received}
use Rattle.session_state.specs.Session.{State}
use Rattle.session_state.specs.Value.{Lent, kept_haves, state_of}
use Rattle.session_state.specs.declared.session.Session.{Session}
use Rattle.table.specs.TableBytes.{rows_at}
use Rattle.table.specs.Table.{Row}
use Rattle.receive_haves.specs.Internal.HavesLaid.{LaidPut}
use Rattle.session.specs.ReceiveCall.{received_lists, received_rooms}
use Rattle.receive_make.specs.Internal.ReceiveMake.{said_at, haves_words}
use Rattle.receive_decide.specs.Internal.ReceivedCounts.{counts_room, HeardFits}
use Rattle.session.specs.declared.receive_answer.SessionRooms.{SessionRooms}
use Rattle.session.specs.Rooms.{or_short}
use Rattle.receive_decide.specs.declared.decide.ReceivedCounts.{ReceivedCounts}
use Rattle.receive.proofs.DraftLaws.{Drafted, shared_count, told_made, told_few, told_within, draft_small}
use Rattle.receive_make.proofs.SaidLaws.{read_words, read_layable}
use Rattle.receive_decide.proofs.PutLaws.{lents_same}
use Rattle.std.specs.Prelude.{Result, Ok, Err}

-- ---- heads sent last that stay

-- the first hashes of a buffer put at its start are the buffer
stays : (s : List ℕ) (n : ℕ) → Bytes s → sizes.hash * n ≤ length s → sets s 0 (hashes_bytes (hashes_at s 0 n)) ≡ s
stays s n b h =
    let k : ℕ = sizes.hash * n in
    let at : hashes_bytes (hashes_at s 0 n) ≡ slice 0 (0 + k) s = hashes_at_bytes s 0 n b (omega arith) in
    let is : hashes_bytes (hashes_at s 0 n) ≡ take k s = rw zero-add at at in
    let long : length (take k s) ≡ k = length-take-le k s h in
    let all : sets s 0 (take k s) ≡ take k s ++ drop (0 + length (take k s)) s = sets-eq (take k s) s 0 (omega arith) in
    let end : 0 + length (take k s) ≡ k = zero-add _ ∙ long in
    rw is (all ∙ rw end (take-append-drop k s))

last_put : (message : List ℕ) (place count : ℕ) (b : Bool) (last_sent : List ℕ) (n : ℕ) → Bytes last_sent → sizes.hash * n ≤ length last_sent
    → sets last_sent 0 (hashes_bytes (hashes_at message place (cond b count 0)))
    ≡ sets last_sent 0 (hashes_bytes (cond (empty (hashes_at message place count)) [] (cond b (hashes_at message place count) (hashes_at last_sent 0 n))))
unfolding hashes_at hashes_bytes
last_put message place zero true last_sent n d k = refl
last_put message place zero false last_sent n d k = refl
last_put message place (suc count) true last_sent n d k = refl
last_put message place (suc count) false last_sent n d k = sym (stays last_sent n d k)

-- ---- room

short_enough : {A : Type 0} {wanted : ℕ} → ◌≡◌ {A = Result Unit ℕ} (Err wanted) (Ok tt) → A
short_enough e = absurd (let z : ◌≡◌ {A = ℕ} 0 1 = cc in omega arith)

not_short : (room wanted : ℕ) (rest : Result Unit ℕ) → or_short room wanted rest ≡ Ok tt → (wanted ≤ room) × (rest ≡ Ok tt)
not_short room wanted rest e =
    split (ltb room wanted)
    (λ t. short_enough (let f : ◌≡◌ {A = Result Unit ℕ} (Err wanted) (Ok tt) = rw t at e in f))
    (λ t. let f : rest ≡ Ok tt = rw t at e in (omega (arith, ltb-false room wanted t), f))

-- Room for every list.
pub record RoomForEach (d : ReceivedCounts) (r : SessionRooms) : Type 0 where
  pub shared : sizes.hash * d.shared ≤ r.shared
  pub last_sent : sizes.hash * d.last_sent ≤ r.last_sent
  pub heads : sizes.hash * d.heads ≤ r.their_heads
  pub need : sizes.hash * d.need ≤ r.their_need
  pub haves : have_words * d.haves ≤ r.haves
  pub bytes : d.bytes ≤ r.bytes

roomy : (d : ReceivedCounts) (r : SessionRooms) → counts_room d r ≡ Ok tt → RoomForEach d r
unfolding counts_room
roomy d r e =
    let a = not_short _ _ _ e in
    let b = not_short _ _ _ a.1 in
    let c = not_short _ _ _ b.1 in
    let f = not_short _ _ _ c.1 in
    let g = not_short _ _ _ f.1 in
    let h = not_short _ _ _ g.1 in
    record { shared = a.0; last_sent = b.0; heads = c.0; need = f.0; haves = g.0; bytes = h.0 }

-- ---- all parts

module _ (s : Session) (l : Lent) (good : session_good s l ≡ true) (table : List ℕ) (n before : ℕ) (inside : before ≤ n) (message : List ℕ) (p : Places)
    (read : decoded_of (message_at message) ≡ Ok p) (ready : List ℕ) (d : ReceivedCounts) (made : Drafted s l table n before message p ready d)
    (all : Bytes message) (room : counts_room d (received_rooms l) ≡ Ok tt)
  where
    abbrev v : State
    v = state_of s l

    abbrev t : List Row
    t = rows_at table 0 n

    abbrev m : Said
    m = said_at message p

    words_ready : take (have_words * d.haves) ready ≡ haves_words message p
    words_ready = rw made.haves made.words.words

    -- the shared heads have room
    pub shared_fits : sizes.hash * length (shared_after before t v m) ≤ length l.shared
    shared_fits = omega (arith, shared_count s l good table n before inside message p read ready d made, (roomy d (received_rooms l) room).shared)

    -- what the message says has room
    pub heard_fits : HeardFits d message p.heads.start p.need.start ready l.last_sent l.their_heads l.their_need l.haves l.bytes
    heard_fits =
        let w = read_words message p read in
        let r = roomy d (received_rooms l) room in
        let small = draft_small s l good table n before inside message p read ready d made in
        let tells = told_within s l good table n before inside message p read ready d made in
        record {
          told = omega (arith, w.heads_there, told_few s l good table n before inside message p read ready d made);
          told_room = omega (arith, r.last_sent);
          heads = rw made.heads w.heads_there;
          heads_room = r.heads;
          need = rw made.need w.need_there;
          need_room = r.need;
          haves =
              record {
                there = omega (arith, made.room, small.haves);
                layable = rw words_ready (read_layable message p read all);
                room = r.haves;
                bytes_room = rw (words_ready, ← made.words.bytes) r.bytes;
              };
        }

    -- all parts put are what is kept
    pub parts_kept : {shared last_sent their_heads their_need records bytes sent : List ℕ} → Bytes l.last_sent
        → shared ≡ sets l.shared 0 (hashes_bytes (shared_after before t v m))
        → last_sent ≡ sets l.last_sent 0 (hashes_bytes (hashes_at message p.heads.start d.last_sent_from_message))
        → their_heads ≡ sets l.their_heads 0 (hashes_bytes (hashes_at message p.heads.start d.heads))
        → their_need ≡ sets l.their_need 0 (hashes_bytes (hashes_at message p.need.start d.need))
        → LaidPut (haves_of message (kept_haves ready d.haves)) l.haves l.bytes records bytes
        → sent ≡ sets l.sent 0 (hashes_bytes (sent_left t v m))
        → lent_of shared last_sent their_heads their_need records bytes sent ≡ received_lists (Received.took (received before t v m)) l
    unfolding received_lists received last_sent_after
    parts_kept lastBytes a b c e laid g =
        let tells : Bool = not (ltb 0 p.chunks.count) && same m.heads (heads (take before t)) in
        lents_same a
        (b
        ∙ rw (told_made s l good table n before inside message p read ready d made)
        (last_put message p.heads.start p.heads.count tells l.last_sent s.last_sent_heads lastBytes (session_parts s l good).last_sent.there))
        (c ∙ rw made.heads)
        (e ∙ rw made.need)
        (laid.records ∙ rw words_ready)
        (laid.bytes ∙ rw words_ready)
        g
