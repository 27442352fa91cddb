-- The call's promise, from what its parts ensure: where a test before fails, and where all of them passed. Assumes nothing.
use Prim.Native.Nat.{ℕ, ◌+◌, ◌*◌, ◌≤◌, ◌<◌}
use mathlib.Core.Bool.{Bool, true, false, cond, not, ◌&&◌}
use mathlib.Core.List.{List}
use mathlib.Core.Path.{◌≡◌, refl, sym, ap, ◌∙◌}
use native.Mathlib.Omega.{arith}
use borrow.Author.Tests.{ltb-false}
use lib.Dec.{ltb}
use lib.ListN.{length, replicate, length-replicate}
use lib.Seq.{sets}
use Rattle.message_read.specs.MessageRead.{Reading, message_at, decoded_of}
use Rattle.message_read.specs.declared.parse.Places.{Places}
use Rattle.message_read.proofs.ReadLaws.{not_placed}
use Rattle.table_index.proofs.CheckLaws.{checked_table, checked_indexed}
use Rattle.session_check.specs.SessionGood.{session_good, lent_of}
use Rattle.session_check.proofs.GoodSessions.{session_parts}
use Rattle.message.specs.Flags.{sync_reset, has_flag}
use Rattle.rules.specs.Hash.{Bytes, hashes_at, hashes_bytes}
use Rattle.rules.specs.Sizes.{sizes}
use Rattle.rules.specs.declared.refusal.Refusal.{Refusal}
use Rattle.rules.specs.declared.refusal.Refusal.TheVariants.{BadNumbers, BadRowsBefore}
use Rattle.rules.proofs.Cases.{split, true_false, read_same}
use Rattle.session.specs.Receive.{Received, flag_taken, shared_after, sent_left, received, receive, receive_read, receive_bytes}
use Rattle.session_state.specs.Value.{Lent, kept_haves, state_of}
use Rattle.session_state.specs.declared.session.Session.{Session}
use Rattle.table.specs.TableBytes.{rows_at, table_of}
use Rattle.table.proofs.TableLaws.{table_good}
use Rattle.receive_parts.specs.Internal.ReceiveParts.{flagged_counts, held_marked, HeadsMarked}
use Rattle.session.specs.ReceiveCall.{after_table, receive_with, received_roomed, received_answer, received_lists, received_rooms, ReceiveCalled}
use Rattle.receive_make.specs.Internal.ReceiveChecks.{beside_rows, after_rows, checked, Accepted}
use Rattle.receive_make.specs.Internal.ReceiveMake.{said_at, kept_hashes, Prepared, Makes, CountsMade}
use Rattle.receive_decide.specs.Internal.ReceivedCounts.{counts_room, counts_decided, SmallCounts, is_taken, HeardFits}
use Rattle.session.specs.declared.receive_answer.ReceiveAnswer.{ReceiveAnswer}
use Rattle.receive_decide.specs.declared.decide.ReceivedCounts.{ReceivedCounts}
use Rattle.receive.proofs.DraftLaws.{forgets_most, Drafted, draft_small, sent_is, shared_is}
use Rattle.receive.proofs.Outcomes.{Outcome, Outcomes, outcome, same_answer}
use Rattle.receive.proofs.KeptLaws.{shared_fits, heard_fits, parts_kept}
use Rattle.receive_make.proofs.SaidLaws.{read_words, read_receives}
use Rattle.receive_make.proofs.MakeLaws.{keeps_there, left_trimmed}
use Rattle.receive_shared.specs.Internal.Shared.{shared_then}
use Rattle.receive_haves.specs.Internal.HavesLaid.{LaidPut}
use Rattle.bloom.specs.Have.{haves_of}
use Rattle.hash_order.specs.Order.{keep}
use Rattle.table_graph.specs.Graph.{below_row}
use Rattle.table_graph.specs.Internal.Marks.{Marks, Blank}
use Rattle.table_graph.proofs.MarkLaws.{blank}
use Rattle.table_index.specs.Index.{index_checked, Indexed}
use Rattle.std.specs.Prelude.{Result, Ok, Err}

-- ---- the tests before, taken apart

abbrev Checked : Type 0
Checked = Result (ℕ × Places) Refusal

refused_not_good : {A : Type 0} {r : Refusal} {n : ℕ} {p : Places} → ◌≡◌ {A = Checked} (Err r) (Ok (n, p)) → A
refused_not_good e = absurd (let z : ◌≡◌ {A = ℕ} 0 1 = cc in omega arith)

good_not_refused : {A : Type 0} {r : Refusal} {n : ℕ} {p : Places} → ◌≡◌ {A = Checked} (Ok (n, p)) (Err r) → A
good_not_refused e = absurd (let z : ◌≡◌ {A = ℕ} 0 1 = cc in omega arith)

module _ (s : Session) (l : Lent) (table index : List ℕ) (before : ℕ) (message : List ℕ) where
  module _ (loaded : Bool) where
    abbrev result : Received
    result = receive_with loaded before s l table index message

    as_refused : (r : Refusal) → result ≡ Received.refused r → ReceiveCalled result l l (Err r)
    unfolding received_roomed received_answer received_lists
    as_refused r e = record { answer = rw e; lists = rw e }

    module _ (good : session_good s l ≡ true) (r : Refusal) where
      -- 11, and the message's own
      beside : (n : ℕ) → index_checked table index ≡ Ok n → (x : Result Places Refusal) → decoded_of (message_at message) ≡ x
          → cond (ltb n before) (Err BadRowsBefore) (beside_rows n x) ≡ Err r → ReceiveCalled result l l (Err r)
      unfolding receive_with after_table beside_rows receive_bytes receive_read
      beside n rows x is e =
          let long : length (table_of table) ≡ n = (table_good table n (checked_table table index n rows)).long in
          split (ltb n before)
          (λ t.
          let f : ◌≡◌ {A = Checked} (Err BadRowsBefore) (Err r) = rw t at e in
          let same : BadRowsBefore ≡ r = cc in
          rw (← same) (as_refused BadRowsBefore (rw (good, rows, long, t))))
          (λ t. go x is t (rw t at e))
        where
          go : (x : Result Places Refusal) → decoded_of (message_at message) ≡ x → ltb n before ≡ false → beside_rows n x ≡ Err r
              → ReceiveCalled result l l (Err r)
          go (Ok p) is t e = good_not_refused e
          go (Err f) is t e =
              let same : f ≡ r = cc in
              let q : message_at message ≡ Reading.refused f = not_placed (message_at message) f is in
              let long : length (table_of table) ≡ n = (table_good table n (checked_table table index n rows)).long in
              rw (← same) (as_refused f (rw (good, rows, long, t, q)))

      -- 4, 6 and 12 before these
      after : (x : Result ℕ Refusal) → index_checked table index ≡ x → after_rows x before message ≡ Err r → ReceiveCalled result l l (Err r)
      unfolding after_rows receive_with after_table
      after (Ok n) is e = beside n is (decoded_of (message_at message)) refl e
      after (Err f) is e =
          let same : f ≡ r = cc in
          rw (← same) (as_refused f (rw (good, is)))

    -- a test that fails is the answer, and everything lent stays
    pub refused_called : (r : Refusal) → checked s l table index before message ≡ Err r → ReceiveCalled result l l (Err r)
    unfolding checked receive_with
    refused_called r e =
        split (session_good s l)
        (λ t. after t r (index_checked table index) refl (rw t at e))
        (λ t.
        let f : ◌≡◌ {A = Checked} (Err BadNumbers) (Err r) = rw t at e in
        let same : BadNumbers ≡ r = cc in
        rw (← same) (as_refused BadNumbers (rw t)))

  module _ (n : ℕ) (p : Places) where
    beside_good : (k : ℕ) (x : Result Places Refusal) → beside_rows k x ≡ Ok (n, p) → (k ≡ n) × (x ≡ Ok p)
    unfolding beside_rows
    beside_good k (Ok f) e =
        let same = read_same e in
        (same.0, ap Ok same.1)
    beside_good k (Err r) e = refused_not_good e

    after_good : session_good s l ≡ true → (x : Result ℕ Refusal) → index_checked table index ≡ x → after_rows x before message ≡ Ok (n, p)
        → Accepted s l table index n before message p
    unfolding after_rows
    after_good good (Ok k) is e =
        split (ltb k before)
        (λ t. refused_not_good (let f : ◌≡◌ {A = Checked} (Err BadRowsBefore) (Ok (n, p)) = rw t at e in f))
        (λ t.
        let f = beside_good k (decoded_of (message_at message)) (rw t at e) in
        record { good = good; rows = is ∙ ap Ok f.0; inside = omega (arith, f.0, ltb-false k before t); read = f.1 })
    after_good good (Err r) is e = refused_not_good e

    -- all of them passed
    pub accepted : checked s l table index before message ≡ Ok (n, p) → Accepted s l table index n before message p
    unfolding checked
    accepted e =
        split (session_good s l)
        (λ t. after_good t (index_checked table index) refl (rw t at e))
        (λ t. refused_not_good (let f : ◌≡◌ {A = Checked} (Err BadNumbers) (Ok (n, p)) = rw t at e in f))

-- ---- all tests passed

module _ (s : Session) (l : Lent) (table index : List ℕ) (n before : ℕ) (message : List ℕ) (p : Places) (ok : Accepted s l table index n before message p) where
  -- what computing asks
  pub can_make : (flagged : Session) → flagged ≡ flagged_counts p.flags s → Makes flagged table index n before message p l.shared l.sent
  can_make flagged e =
      let g = session_parts s l ok.good in
      let least = forgets_most (flag_taken (λ f. has_flag f sync_reset) p.flags false) s.sent_hashes in
      rw e
      (record {
        rows = checked_indexed table index n ok.rows;
        up_to = ok.inside;
        placed = ok.read;
        shared = g.shared.there;
        shared_few = g.shared.few;
        sent = omega (arith, g.sent.there);
      })

  abbrev unmarked : List Bool
  unmarked = replicate sizes.rows false

  -- what marking asks
  pub can_mark : Indexed table index n × (p.heads.start + sizes.hash * p.heads.count ≤ length message) × (n ≤ length unmarked) × Blank n unmarked
  can_mark =
      let rows = checked_indexed table index n ok.rows in (
        rows,
        (read_words message p ok.read).heads_there,
        omega (arith, length-replicate sizes.rows false, rows.rows.few),
        blank n sizes.rows rows.rows.few,
      )

  module _ (flagged : Session) (flags : flagged ≡ flagged_counts p.flags s) (marks : List Bool) (known : Bool)
      (marked : HeadsMarked table n (said_at message p).heads s.sent_hashes marks known)
    where
      -- marks that are asked for where hashes were sent are there where some stay remembered
      still_marked : 0 < flagged.sent_hashes → Marks n marks (below_row (rows_at table 0 n) (said_at message p).heads)
      still_marked h =
          let least = forgets_most (flag_taken (λ f. has_flag f sync_reset) p.flags false) s.sent_hashes in
          let some : 0 < cond (flag_taken (λ f. has_flag f sync_reset) p.flags false) 0 s.sent_hashes = rw flags at h in
          marked.rows (omega (arith, least))

      -- what counting asks
      pub can_count : length marks ≡ length unmarked → Prepared table n message p flagged.sent_hashes marks known
      can_count long = record { long = omega (arith, can_mark.2); marked = record { rows = still_marked; known = marked.known } }

      module _ (loads : Bool) (loading : loads ≡ (ltb 0 p.chunks.count && not s.read_only)) (ready : List ℕ) (d : ReceivedCounts)
          (made : CountsMade known loads flagged table n before message p l.shared l.sent ready d)
        where
          drafted : Drafted s l table n before message p ready d
          drafted = rw (← flags, ← loading, ← marked.known) made

          -- what deciding asks
          pub is_small : SmallCounts d
          is_small = draft_small s l ok.good table n before ok.inside message p ok.read ready d drafted

          module _ (loaded failed : Bool) (a : Result ReceiveAnswer Refusal) (failing : failed ≡ (loads && not loaded)) (decides : a ≡ counts_decided flagged failed d (received_rooms l)) where
            is_decided : a ≡ counts_decided (flagged_counts p.flags s) ((ltb 0 p.chunks.count && not s.read_only) && not loaded) d (received_rooms l)
            is_decided = rw (← loading, ← failing, ← flags) decides

            abbrev values : Received
            values = received_roomed (received_rooms l) (receive loaded before (rows_at table 0 n) (state_of s l) (said_at message p))

            together : Outcomes s l table n before message p d (received_rooms l) a values
            together = rw is_decided (outcome s l ok.good table n before ok.inside message p ok.read ready d drafted loaded (received_rooms l))

            result_is : receive_with loaded before s l table index message ≡ receive loaded before (rows_at table 0 n) (state_of s l) (said_at message p)
            unfolding receive_with after_table
            result_is =
                let t = table_good table n (checked_table table index n ok.rows) in
                let inside : before ≤ length (table_of table) = omega (arith, t.long, ok.inside) in
                rw (ok.good, ok.rows, read_receives message p ok.read loaded before (table_of table) (state_of s l) inside, t.is)

            called : (after : Lent) → after ≡ received_lists values l → ReceiveCalled (receive_with loaded before s l table index message) l after a
            called after lists = rw result_is (record { answer = same_answer _ _ _ _ a values together; lists = lists })

            -- a message that isn't taken leaves everything
            pub left_called : is_taken a ≡ false → ReceiveCalled (receive_with loaded before s l table index message) l l a
            left_called not_taken = called l (stays a values not_taken together)
              where
                stays : (a : Result ReceiveAnswer Refusal) (q : Received) → is_taken a ≡ false → Outcomes s l table n before message p d (received_rooms l) a q → l ≡ received_lists q l
                stays a q e (Outcome.leaves kept f g) = sym (kept l)
                stays a q e (Outcome.takes room f g h) = absurd (true_false (is_taken a) f e)

            module _ (yes : is_taken a ≡ true) where
              -- taken, with room for all of it
              taking : (a : Result ReceiveAnswer Refusal) (q : Received) → is_taken a ≡ true → Outcomes s l table n before message p d (received_rooms l) a q
                  → (counts_room d (received_rooms l) ≡ Ok tt)
                  × (q ≡ Received.took (received before (rows_at table 0 n) (state_of s l) (said_at message p)))
              taking a q e (Outcome.leaves kept f g) = absurd (true_false (is_taken a) e f)
              taking a q e (Outcome.takes room f g h) = (room, g)

              room : counts_room d (received_rooms l) ≡ Ok tt
              room = (taking a values yes together).0

              shared_same : shared_then known loads before (rows_at table 0 n) (said_at message p).heads (hashes_at l.shared 0 s.shared_heads)
                  ≡ shared_after before (rows_at table 0 n) (state_of s l) (said_at message p)
              shared_same = rw (loading, marked.known) (shared_is s l ok.good table n before ok.inside message p ok.read)

              -- what putting asks
              pub can_share : Bytes message → Indexed table index n × (before ≤ n) × (sizes.hash * s.shared_heads ≤ length l.shared)
                  × (p.heads.start + sizes.hash * p.heads.count ≤ length message)
                  × (sizes.hash * length (shared_then known loads before (rows_at table 0 n) (said_at message p).heads (hashes_at l.shared 0 s.shared_heads))
                  ≤ length l.shared)
              can_share all = (
                can_mark.0,
                ok.inside,
                (session_parts s l ok.good).shared.there,
                can_mark.1,
                rw shared_same (shared_fits s l ok.good table n before ok.inside message p ok.read ready d drafted all room),
              )

              pub can_hear : Bytes message
                  → HeardFits d message p.heads.start p.need.start ready l.last_sent l.their_heads l.their_need l.haves l.bytes
              can_hear all = heard_fits s l ok.good table n before ok.inside message p ok.read ready d drafted all room

              module _ (keeps : ℕ) (keeping : keeps ≡ kept_hashes p.heads.count flagged.sent_hashes) where
                pub can_trim : (sent : List ℕ) → length sent ≡ length l.sent → sizes.hash * keeps ≤ length sent
                can_trim sent same = keeps_there _ _ _ _ keeping (omega (arith, (can_make flagged flags).sent))

                -- the promise
                pub taken_called : {shared last_sent their_heads their_need records bytes sent : List ℕ} → Bytes message → Bytes l.last_sent
                    → shared ≡ sets l.shared 0
                    (hashes_bytes (shared_then known loads before (rows_at table 0 n) (said_at message p).heads (hashes_at l.shared 0 s.shared_heads)))
                    → (last_sent ≡ sets l.last_sent 0 (hashes_bytes (hashes_at message p.heads.start d.last_sent_from_message)))
                    × (their_heads ≡ sets l.their_heads 0 (hashes_bytes (hashes_at message p.heads.start d.heads)))
                    × (their_need ≡ sets l.their_need 0 (hashes_bytes (hashes_at message p.need.start d.need)))
                    × LaidPut (haves_of message (kept_haves ready d.haves)) l.haves l.bytes records bytes
                    → sent ≡ sets l.sent 0
                    (hashes_bytes (keep (λ h. not (held_marked (rows_at table 0 n) marks h)) (hashes_at l.sent 0 keeps)))
                    → ReceiveCalled (receive_with loaded before s l table index message) l (lent_of shared last_sent their_heads their_need records bytes sent) a
                taken_called {shared} {last_sent} {their_heads} {their_need} {records} {bytes} {sent} all last a b e =
                    let trimmed = left_trimmed table n marks (said_at message p).heads l.sent sent p.heads.count flagged.sent_hashes keeps still_marked keeping e in
                    let left : sent ≡ sets l.sent 0 (hashes_bytes (sent_left (rows_at table 0 n) (state_of s l) (said_at message p))) =
                    rw (flags, sent_is s l ok.good table n before ok.inside message p ok.read) at trimmed in
                    let put : shared ≡ sets l.shared 0 (hashes_bytes (shared_after before (rows_at table 0 n) (state_of s l) (said_at message p))) = rw shared_same at a in
                    let kept =
                    parts_kept s l ok.good table n before ok.inside message p ok.read ready d drafted all room last put b.0 b.1 b.2 b.3 left in
                    called (lent_of shared last_sent their_heads their_need records bytes sent)
                    (kept ∙ ap (λ (q : Received). received_lists q l) (sym (taking _ values yes together).1))
