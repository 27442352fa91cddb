-- What is offered: the marks that were set name the body that the session asks for, and what is put where there is room is that body; one law for each
-- answer. Assumes nothing.
use Prim.Native.Nat.{ℕ, ◌+◌, ◌*◌, ◌≤◌, ◌<◌}
use mathlib.Core.Bool.{Bool, true, false, cond}
use mathlib.Core.List.{List, []}
use mathlib.Core.Path.{◌≡◌, refl, sym, ap, ◌∙◌}
use native.Mathlib.Omega.{arith}
use borrow.Author.Tests.{lt-ltb, le-ltb}
use lib.Dec.{ltb}
use lib.ListN.{length, get_or, length-append}
use lib.Seq.{sets}
use Rattle.plan_parts.proofs.HeardLaws.{heard_there}
use Rattle.plan_parts.specs.Internal.PlanParts.{BodyChosen}
use Rattle.plan_parts.specs.declared.body.BodyCount.{BodyCount}
use Rattle.rules.proofs.Hash.{length_hashes_at}
use Rattle.rules.specs.Hash.{hashes_at, hashes_bytes}
use Rattle.rules.specs.Sizes.{sizes}
use Rattle.rules.specs.declared.refusal.Refusal.{Refusal}
use Rattle.rules.specs.declared.refusal.Refusal.TheVariants.{NoRoom, BadNumbers}
use Rattle.send.specs.Internal.Chosen.{chosen_by}
use Rattle.session.specs.Plan.{Body, heard_as, list_of, body_heard, body_of}
use Rattle.session_check.proofs.GoodSessions.{list_parts}
use Rattle.session_check.specs.SessionGood.{heard_good, lent_of, session_good}
use Rattle.session_state.specs.Value.{Lent, heard_count, heard_hashes, heard_haves, state_of}
use Rattle.session_state.specs.declared.session.Session.{Session}
use Rattle.table.proofs.TableLaws.{table_good}
use Rattle.table.specs.Table.{Row, rows}
use Rattle.table.specs.TableBytes.{rows_at, table_of}
use Rattle.table_graph.proofs.GraphMarks.{many_rows}
use Rattle.table_graph.proofs.PickLaws.{pick_most}
use Rattle.table_graph.specs.Internal.Marks.{picked}
use Rattle.table_index.proofs.CheckLaws.{checked_table}
use Rattle.table_index.specs.Index.{index_checked}
use Rattle.plan_offer.specs.Internal.OfferReady.{OfferReady}
use Rattle.plan_offer.specs.OfferCall.{Offered, offered_after, offer_of, offer_answer, offer_content, OfferCalled}
use Rattle.std.specs.Prelude.{Result, Ok, Err, Option, Some, None}

-- ---- a refusal

-- the list is left as it was
pub none_offered : (r : Refusal) (before : List ℕ) → OfferCalled (Offered.none r) before before (Err r)
unfolding offer_answer offer_content
none_offered r before = record { answer = refl; content = refl }

-- ---- a body

-- 7 with the bytes that its hashes have
too_short : (b : Body) (k : ℕ) (before : List ℕ) → k ≡ length b.hashes → length before < sizes.hash * k
    → OfferCalled (Offered.body b) before before (Err (NoRoom (sizes.hash * k)))
unfolding offer_answer offer_content
too_short b k before e short =
    let h : ltb (length before) (sizes.hash * length b.hashes) ≡ true = lt-ltb (length before) (sizes.hash * length b.hashes) (omega arith) in
    record { answer = rw (e, h); content = rw h }

-- or all of it
whole : (b : Body) (d : Bool) (k : ℕ) (before after : List ℕ) → d ≡ b.document → k ≡ length b.hashes → sizes.hash * k ≤ length before
    → after ≡ sets before 0 (hashes_bytes b.hashes)
    → OfferCalled (Offered.body b) before after (Ok (d, k))
unfolding offer_answer offer_content
whole b d k before after is e room put =
    let h : ltb (length before) (sizes.hash * length b.hashes) ≡ false = le-ltb (length before) (sizes.hash * length b.hashes) (omega arith) in
    record { answer = rw (is, e, h); content = rw h put }

pub heard_few : (s : List ℕ) (h : Option ℕ) → heard_good s h ≡ true → heard_count h ≤ sizes.hashes
unfolding heard_good
heard_few s None g = omega arith
heard_few s (Some n) g = omega (arith, (list_parts s n g).few)

module _ {table index : List ℕ} {n : ℕ} {s : Session} {their_need haves bytes sent : List ℕ} (ready : OfferReady table index n s their_need haves bytes sent) where
  abbrev asked : List ℕ
  asked = hashes_at their_need 0 (heard_count s.their_need)

  pub need_there_lem : (k : ℕ) → k ≡ heard_count s.their_need → 0 + sizes.hash * k ≤ length their_need
  need_there_lem k e = heard_there their_need s.their_need k e ready.need

  module _ {marks needs : List Bool} {b : BodyCount} {body : Body}
      (chosen : BodyChosen body (rows_at table 0 n) marks (hashes_at their_need 0 (heard_count s.their_need)) needs b) where
    -- no more than the needs and the rows
    few : b.hashes ≤ sizes.hashes + sizes.rows
    unfolding chosen_by picked
    few =
        let t : List Row = rows_at table 0 n in
        let many : b.hashes ≡ length (chosen_by t marks asked needs) = chosen.hashes.many ∙ sym (ap length chosen.hashes.list) in
        omega (
          arith,
          many,
          length-append (picked asked needs) (picked (rows t) marks),
          pick_most asked (λ i. get_or needs i false) 0,
          pick_most (rows t) (λ i. get_or marks i false) 0,
          length_hashes_at their_need 0 (heard_count s.their_need),
          many_rows table n,
          heard_few their_need s.their_need ready.need,
          ready.rows.rows.few,
        )

    pub offer_small : sizes.hash * b.hashes ≤ sizes.hash * (sizes.hashes + sizes.rows)
    offer_small = omega (arith, few)

    pub offer_room : (k room : ℕ) → k ≡ heard_count s.their_need → sizes.hash * b.hashes ≤ room
        → sizes.hash * length (chosen_by (rows_at table 0 n) marks (hashes_at their_need 0 k) needs) ≤ room
    offer_room k room e h = rw (e, chosen.hashes.list) (omega (arith, chosen.hashes.many))

module _ {table index : List ℕ} {n : ℕ} {s : Session} {their_need haves bytes sent : List ℕ} (ready : OfferReady table index n s their_need haves bytes sent)
    {headless : Bool} (none : (theirs : List ℕ) → headless ≡ heard_as [] (heard_hashes theirs s.their_heads)) {marks needs : List Bool} {b : BodyCount}
    (chosen : BodyChosen (cond s.peer_read_only (list_of [])
    (body_heard (rows_at table 0 n) s.supports_v2 headless (heard_haves bytes haves s.their_have) (heard_hashes their_need s.their_need)
    (hashes_at sent 0 s.sent_hashes))) (rows_at table 0 n) marks (hashes_at their_need 0 (heard_count s.their_need)) needs b) where
  -- they are what the session asks for, wherever its other lists are
  body_is : (shared last_sent their_heads : List ℕ)
      → BodyChosen (body_of (rows_at table 0 n) (state_of s (lent_of shared last_sent their_heads their_need haves bytes sent))) (rows_at table 0 n) marks
      (hashes_at their_need 0 (heard_count s.their_need)) needs b
  unfolding body_of
  body_is shared last_sent their_heads = rw (none their_heads) at chosen

  pub offer_short : (before : List ℕ) → length before < sizes.hash * b.hashes → (shared last_sent their_heads : List ℕ)
      → OfferCalled (Offered.body (body_of (rows_at table 0 n) (state_of s (lent_of shared last_sent their_heads their_need haves bytes sent)))) before before
      (Err (NoRoom (sizes.hash * b.hashes)))
  offer_short before short shared last_sent their_heads = too_short _ _ before (body_is shared last_sent their_heads).hashes.many short

  pub offer_put : (k : ℕ) → k ≡ heard_count s.their_need → (before after : List ℕ) → sizes.hash * b.hashes ≤ length before
      → after ≡ sets before 0 (hashes_bytes (chosen_by (rows_at table 0 n) marks (hashes_at their_need 0 k) needs))
      → (shared last_sent their_heads : List ℕ)
      → OfferCalled (Offered.body (body_of (rows_at table 0 n) (state_of s (lent_of shared last_sent their_heads their_need haves bytes sent)))) before after
      (Ok (b.document, b.hashes))
  offer_put k e before after room put shared last_sent their_heads =
      let c = body_is shared last_sent their_heads in
      whole _ _ _ before after c.document c.hashes.many room (rw (e, c.hashes.list) at put)

-- ---- the call

module _ (s : Session) (l : Lent) (table index : List ℕ) {found : Bool} (is : found ≡ session_good s l) where
  pub offer_bad : found ≡ false → offer_of s l table index ≡ Offered.none BadNumbers
  unfolding offer_of
  offer_bad e = rw (sym is ∙ e)

  module _ (good : found ≡ true) {checked : Result ℕ Refusal} (those : checked ≡ index_checked table index) where
    pub offer_table : (r : Refusal) → checked ≡ Err r → offer_of s l table index ≡ Offered.none r
    unfolding offer_of offered_after
    offer_table r e = rw (sym is ∙ good, sym those ∙ e)

    pub offer_good : (n : ℕ) → checked ≡ Ok n → offer_of s l table index ≡ Offered.body (body_of (rows_at table 0 n) (state_of s l))
    unfolding offer_of offered_after
    offer_good n e =
        let same : table_of table ≡ rows_at table 0 n = (table_good table n (checked_table table index n (sym those ∙ e))).is in
        rw (sym is ∙ good, sym those ∙ e, same)
