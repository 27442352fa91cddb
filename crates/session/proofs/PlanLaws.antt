-- What planning does, piece by piece, so that callers open none of its definitions: the body and its hashes, the hashes sent, what a message asks for
-- and says, and one law for each way through the stages.
use Prim.Native.Nat.{ℕ, ◌+◌, ◌/◌, ◌≤◌, ◌<◌}
use mathlib.Core.Bool.{Bool, true, false, ◌&&◌, ◌||◌}
use mathlib.Core.List.{List, [], ◌∷◌, ◌++◌}
use mathlib.Core.Option.{Option, none, some}
use mathlib.Core.Path.{◌≡◌, refl, sym, ap, ◌∙◌}
use native.Mathlib.Omega.{arith}
use borrow.Author.Tests.{ltb-true, ltb-false, lt-ltb, le-ltb}
use lib.Dec.{ltb}
use lib.ListN.{length}
use Rattle.bloom.specs.Have.{Have}
use Rattle.table_graph.specs.Graph.{heads}
use Rattle.hash_lists.specs.Lists.{same}
use Rattle.waiting_missing.specs.Missing.{missing}
use Rattle.hash_order.proofs.KeepLaws.{every_one}
use Rattle.hash_order.proofs.OrderLaws.{ascend_ascends, ascend_members, member_append}
use Rattle.hash_order.specs.Order.{member, every, ascends}
use Rattle.rules.proofs.Cases.{split, true_false, and_false}
use Rattle.rules.specs.Hash.{AreHashes}
use Rattle.rules.specs.Sizes.{sizes}
use Rattle.rules.specs.declared.refusal.Refusal.TheVariants.{PastSize}
use Rattle.rules.specs.declared.refusal.Refusal.{Refusal}
use Rattle.send.proofs.SelectLaws.{less_few, less_held, less_hashes}
use Rattle.send.specs.ToSend.{to_send_less}
use Rattle.session_state.specs.Session.{State}
use Rattle.table.proofs.TableLaws.{length_rows}
use Rattle.table.specs.Table.{Row, GoodTable, rows, held}
use Rattle.waiting.specs.Waiting.{Waiting}
use Rattle.session.specs.Plan.{Body, Plan, Planned, heard, heard_as, need_of, have_of, haves_for, unknown_sync, list_of, document_of, document_part, body_for, body_heard, body_of, empty, silence, sent_after, flags_for, plan_of, planned, reset_of, is_fine, unless_broken, plan_body, after}
use Rattle.std.specs.Prelude.{Result, Ok, Err}

-- ---- the body

module _ (t : List Row) (s : State) (P : Body → Type 0) where
  -- A body is nothing, the document for a peer that knows V2, or the hashes to send for what was heard, less those that were sent.
  pub record Bodies : Type 0 where
    pub nothing : P (list_of [])
    pub document : s.supports_v2 ≡ true → P (document_of t)
    pub list : (haves : List Have) (need : List ℕ) → s.their_have ≡ some haves → s.their_need ≡ some need
        → P (list_of (to_send_less t haves need s.sent_hashes))

  for_heard : Bodies → (haves : List Have) (need : List ℕ) → s.their_have ≡ some haves → s.their_need ≡ some need → (v2 headless : Bool)
      → (v2 ≡ true → s.supports_v2 ≡ true) → P (body_for t v2 headless haves need s.sent_hashes)
  unfolding body_for
  for_heard b haves need p q true true f = b.document (f refl)
  for_heard b haves need p q true false f =
      split (ltb (length t / document_part) (length (to_send_less t haves need s.sent_hashes)))
      (λ e. rw e (b.document (f refl)))
      (λ e. rw e (b.list haves need p q))
  for_heard b haves need p q false headless f = b.list haves need p q

  heard_body : Bodies → (have : Option (List Have)) (need : Option (List ℕ)) → s.their_have ≡ have → s.their_need ≡ need
      → P (body_heard t s.supports_v2 (heard_as [] s.their_heads) have need s.sent_hashes)
  unfolding body_heard
  heard_body b none need p q = b.nothing
  heard_body b (some haves) none p q = b.nothing
  heard_body b (some haves) (some need) p q = for_heard b haves need p q s.supports_v2 (heard_as [] s.their_heads) (λ e. e)

  pub body_cases : Bodies → P (body_of t s)
  unfolding body_of
  body_cases b = split s.peer_read_only (λ e. rw e b.nothing) (λ e. rw e (heard_body b s.their_have s.their_need refl refl))

for_list : (t : List Row) (v2 headless : Bool) (haves : List Have) (need sent : List ℕ) → (body_for t v2 headless haves need sent).document ≡ false
    → (body_for t v2 headless haves need sent).hashes ≡ to_send_less t haves need sent
unfolding body_for
for_list t true true haves need sent = λ d. absurd (true_false true refl d)
for_list t true false haves need sent =
    split (ltb (length t / document_part) (length (to_send_less t haves need sent)))
    (λ e. rw e (λ d. absurd (true_false true refl d)))
    (λ e. rw e (λ d. refl))
for_list t false headless haves need sent = λ d. refl

-- every hash of a body is a row
pub planned_held : (t : List Row) → GoodTable t → (s : State) → every (held t) (body_of t s).hashes ≡ true
unfolding held every
planned_held t good s =
    body_cases t s (λ b. every (held t) b.hashes ≡ true)
    (record {
      nothing = refl;
      document = λ e. every_one (held t) (rows t) (λ h m. m);
      list = λ haves need p q. every_one (held t) (to_send_less t haves need s.sent_hashes) (less_held t haves need s.sent_hashes good);
    })

-- a peer that takes no changes gets none
pub body_read_only : (t : List Row) (s : State) → s.peer_read_only ≡ true → body_of t s ≡ list_of []
unfolding body_of
body_read_only t s e = rw e

-- the hashes of any other body that isn't the document are those to send for what was heard, less those that were sent
pub list_hashes : (t : List Row) (s : State) (haves : List Have) (need : List ℕ) → s.peer_read_only ≡ false → s.their_have ≡ some haves
    → s.their_need ≡ some need
    → (body_of t s).document ≡ false
    → (body_of t s).hashes ≡ to_send_less t haves need s.sent_hashes
unfolding body_of body_heard
list_hashes t s haves need p q r = rw (p, q, r) (for_list t s.supports_v2 (heard_as [] s.their_heads) haves need s.sent_hashes)

-- only a peer that knows V2 gets the document
pub document_v2 : (t : List Row) (s : State) → (body_of t s).document ≡ true → s.supports_v2 ≡ true
document_v2 t s =
    body_cases t s (λ b. b.document ≡ true → s.supports_v2 ≡ true)
    (record {
      nothing = λ d. absurd (true_false false d refl);
      document = λ e d. e;
      list = λ haves need p q d. absurd (true_false false d refl);
    })

-- and the document is all rows
pub document_whole : (t : List Row) (s : State) → (body_of t s).document ≡ true → (body_of t s).hashes ≡ rows t
document_whole t s =
    body_cases t s (λ b. b.document ≡ true → b.hashes ≡ rows t)
    (record {
      nothing = λ d. absurd (true_false false d refl);
      document = λ e d. refl;
      list = λ haves need p q d. absurd (true_false false d refl);
    })

rows_told : (t : List Row) → 0 < length t → empty (rows t) ≡ false
unfolding rows
rows_told [] h = absurd (omega arith)
rows_told (r ∷ rs) h = refl

-- so there is something to tell in it where there is a row
pub document_not_empty : (t : List Row) (s : State) → (body_of t s).document ≡ true → 0 < length t → empty (body_of t s).hashes ≡ false
document_not_empty t s d h = rw (document_whole t s d) (rows_told t h)

fit : (a b c most : ℕ) → a ≤ b + c → b ≤ sizes.hashes → c ≤ sizes.rows → sizes.hashes + sizes.rows ≤ most → a ≤ most
fit a b c most h k l m = omega arith

-- no more hashes than may be sent at once
pub list_few : (t : List Row) (s : State) → length t ≤ sizes.rows → ((need : List ℕ) → s.their_need ≡ some need → length need ≤ sizes.hashes)
    → length (body_of t s).hashes ≤ sizes.hashes_to_send
list_few t s h f =
    body_cases t s (λ b. length b.hashes ≤ sizes.hashes_to_send)
    (record {
      nothing = omega arith;
      document = λ e. rw (length_rows t) (fit (length t) 0 (length t) sizes.hashes_to_send (omega arith) (omega arith) h (omega arith));
      list = λ haves need p q. fit _ _ _ _ (less_few t haves need s.sent_hashes) (f need q) h (omega arith);
    })

pub body_hashes : (t : List Row) → GoodTable t → (s : State) → AreHashes (rows t) → AreHashes (body_of t s).hashes
unfolding AreHashes
body_hashes t good s a =
    body_cases t s (λ b. AreHashes b.hashes)
    (record { nothing = tt; document = λ e. a; list = λ haves need p q. less_hashes t haves need s.sent_hashes good a })

-- ---- the hashes sent

module _ (s : State) (b : Body) where
  pub sent_ascends : ascends (sent_after s b) ≡ true
  unfolding sent_after
  sent_ascends = ascend_ascends (b.hashes ++ s.sent_hashes)

  -- those of the body and those of before, and no others
  pub sent_members : (h : ℕ) → member h (sent_after s b) ≡ (member h b.hashes || member h s.sent_hashes)
  unfolding sent_after
  sent_members h = ascend_members h (b.hashes ++ s.sent_hashes) ∙ member_append h b.hashes s.sent_hashes

-- ---- what a message says

-- a read-only unit asks for nothing
pub need_none_read_only : (t : List Row) (w : List Waiting) (l : List ℕ) → need_of t w true l ≡ []
unfolding need_of
need_none_read_only t w l = refl

-- another asks for what is missing from the heads that were heard
pub need_missing : (t : List Row) (w : List Waiting) (l : List ℕ) → need_of t w false l ≡ missing t w l
unfolding need_of
need_missing t w l = refl

module _ (bits probes : ℕ) (t : List Row) (need their_heads last_sync : List ℕ) where
  pub have_one : every (λ h. member h their_heads) need ≡ true → haves_for bits probes t need their_heads last_sync ≡ have_of bits probes t last_sync ∷ []
  unfolding haves_for
  have_one e = rw e

  pub have_none : every (λ h. member h their_heads) need ≡ false → haves_for bits probes t need their_heads last_sync ≡ []
  unfolding haves_for
  have_none e = rw e

  -- at most one have
  pub have_or_none : length (haves_for bits probes t need their_heads last_sync) ≤ 1
  have_or_none =
      split (every (λ h. member h their_heads) need) (λ e. rw (have_one e) (omega arith)) (λ e. rw (have_none e) (omega arith))

-- flags that a flags section can carry
pub said_flags : (readOnlyUnit tellsReset : Bool) → (flags_for readOnlyUnit tellsReset).0 < 0x80
unfolding flags_for
said_flags true true = omega arith
said_flags true false = omega arith
said_flags false true = omega arith
said_flags false false = omega arith

-- ---- silence

-- the six tests of silence, and how each of them breaks it
unfoldable quiet : Bool → Bool → Bool → Bool → Bool → Bool → Bool
quiet told answered heard read_only nothing in_flight = (told && answered) && (((heard || read_only) && nothing) || in_flight)

module _ (a b c d e f : Bool) where
  untold : a ≡ false → quiet a b c d e f ≡ false
  unfolding quiet
  untold p = rw p

  unanswered : b ≡ false → quiet a b c d e f ≡ false
  unfolding quiet
  unanswered p = rw (p, and_false a)

  something : f ≡ false → e ≡ false → quiet a b c d e f ≡ false
  unfolding quiet
  something q p = rw (q, p, and_false (c || d)) (and_false (a && b))

  apart : f ≡ false → c ≡ false → d ≡ false → quiet a b c d e f ≡ false
  unfolding quiet
  apart q p r = rw (q, p, r) (and_false (a && b))

module _ (t : List Row) (s : State) (nothing : Bool) where
  abbrev told : Bool
  told = same s.last_sent_heads (heads t)

  silence_is : silence t s nothing ≡ quiet told s.have_responded (heard_as (heads t) s.their_heads) s.read_only nothing s.in_flight
  unfolding silence quiet
  silence_is = refl

  -- nobody is silent about heads that changed
  pub speaks_heads : same s.last_sent_heads (heads t) ≡ false → silence t s nothing ≡ false
  speaks_heads e = silence_is ∙ untold _ _ _ _ _ _ e

  -- or before the first answer
  pub speaks_first : s.have_responded ≡ false → silence t s nothing ≡ false
  speaks_first e = silence_is ∙ unanswered _ _ _ _ _ _ e

  module _ (lands : s.in_flight ≡ false) where
    -- or with something to tell, once nothing is in flight
    pub speaks_body : nothing ≡ false → silence t s nothing ≡ false
    speaks_body e = silence_is ∙ something _ _ _ _ _ _ lands e

    -- or to a peer of other heads, if this unit takes changes
    pub speaks_apart : heard_as (heads t) s.their_heads ≡ false → s.read_only ≡ false → silence t s nothing ≡ false
    speaks_apart e f = silence_is ∙ apart _ _ _ _ _ _ lands e f

-- ---- the stages

-- a message is none of the other answers
refused_unsaid : {A : Type 0} {r : Refusal} {q : Plan} {s : State} → Planned.refused r ≡ Planned.says q s → A
refused_unsaid e = absurd (let z : ◌≡◌ {A = ℕ} 0 1 = cc in omega arith)

reset_unsaid : {A : Type 0} {p q : Plan} {s : State} → Planned.reset p ≡ Planned.says q s → A
reset_unsaid e = absurd (let z : ◌≡◌ {A = ℕ} 0 1 = cc in omega arith)

silent_unsaid : {A : Type 0} {q : Plan} {s : State} → Planned.silent ≡ Planned.says q s → A
silent_unsaid e = absurd (let z : ◌≡◌ {A = ℕ} 0 1 = cc in omega arith)

broken_unsaid : {A : Type 0} (place : ℕ) (p : Planned) {q : Plan} {s : State} → unless_broken (Err place) p ≡ Planned.says q s → A
broken_unsaid place p e = refused_unsaid e

-- what goes where a message is said breaks no rule
said_fine : (c : Result Unit ℕ) (p : Planned) {q : Plan} {s : State} → unless_broken c p ≡ Planned.says q s → c ≡ Ok tt
said_fine (Ok tt) p e = refl
said_fine (Err place) p e = broken_unsaid place p e

module _ (bits probes : ℕ) (t : List Row) (w : List Waiting) (s : State) (b : Body) (c : Result Unit ℕ) where
  abbrev need : List ℕ
  need = need_of t w s.read_only (heard s.their_heads)

  abbrev nothing_goes : Bool
  nothing_goes = is_fine c && empty b.hashes

  pub plan_need_past : sizes.hashes < length need → plan_body bits probes t w s b c ≡ Planned.refused (PastSize 0)
  unfolding plan_body
  plan_need_past h = rw (lt-ltb _ _ h)

  module _ (few : length need ≤ sizes.hashes) where
    pub plan_resets : unknown_sync t s.their_have ≡ true → plan_body bits probes t w s b c ≡ Planned.reset (reset_of t)
    unfolding plan_body
    plan_resets e = rw (le-ltb _ _ few, e)

    module _ (known : unknown_sync t s.their_have ≡ false) where
      pub plan_silent : silence t s nothing_goes ≡ true → plan_body bits probes t w s b c ≡ Planned.silent
      unfolding plan_body
      plan_silent e = rw (le-ltb _ _ few, known, e)

      module _ (speaks : silence t s nothing_goes ≡ false) where
        pub plan_sent_past : sizes.sent_hashes < length (sent_after s b) → plan_body bits probes t w s b c ≡ Planned.refused (PastSize 0)
        unfolding plan_body
        plan_sent_past h = rw (le-ltb _ _ few, known, speaks, lt-ltb _ _ h)

        -- 17 for a pick that isn't accepted, else the message
        pub plan_ends : length (sent_after s b) ≤ sizes.sent_hashes
            → plan_body bits probes t w s b c ≡ unless_broken c (Planned.says (plan_of bits probes t w s b) (planned t s b))
        unfolding plan_body
        plan_ends h = rw (le-ltb _ _ few, known, speaks, le-ltb _ _ h)

        pub plan_is : length (sent_after s b) ≤ sizes.sent_hashes → c ≡ Ok tt
            → plan_body bits probes t w s b c ≡ Planned.says (plan_of bits probes t w s b) (planned t s b)
        plan_is h e = plan_ends h ∙ ap (λ (k : Result Unit ℕ). unless_broken k (Planned.says (plan_of bits probes t w s b) (planned t s b))) e

  -- What stands where a message is said.
  pub record Saying (q : Plan) (s' : State) : Type 0 where
    pub few : length need ≤ sizes.hashes
    pub known : unknown_sync t s.their_have ≡ false
    pub speaks : silence t s nothing_goes ≡ false
    pub sent_few : length (sent_after s b) ≤ sizes.sent_hashes
    pub fine : c ≡ Ok tt
    pub message : q ≡ plan_of bits probes t w s b
    pub session : s' ≡ planned t s b

  pub plan_saying : (q : Plan) (s' : State) → plan_body bits probes t w s b c ≡ Planned.says q s' → Saying q s'
  plan_saying q s' e =
      split (ltb sizes.hashes (length need))
      (λ x. refused_unsaid (sym (plan_need_past (ltb-true _ _ x)) ∙ e))
      (λ x.
      let few : length need ≤ sizes.hashes = ltb-false _ _ x in
      split (unknown_sync t s.their_have)
      (λ y. reset_unsaid (sym (plan_resets few y) ∙ e))
      (λ y.
      split (silence t s nothing_goes)
      (λ z. silent_unsaid (sym (plan_silent few y z) ∙ e))
      (λ z.
      split (ltb sizes.sent_hashes (length (sent_after s b)))
      (λ v. refused_unsaid (sym (plan_sent_past few y z (ltb-true _ _ v)) ∙ e))
      (λ v.
      let sent : length (sent_after s b) ≤ sizes.sent_hashes = ltb-false _ _ v in
      let fine : c ≡ (Ok tt) = said_fine c _ (sym (plan_ends few y z sent) ∙ e) in
      let is : Planned.says q s' ≡ Planned.says (plan_of bits probes t w s b) (planned t s b) = sym e ∙ plan_is few y z sent fine in
      record { few = few; known = y; speaks = z; sent_few = sent; fine = fine; message = cc; session = cc }))))

  -- a message that is said is this one, and the session after it this
  pub plan_says : (q : Plan) (s' : State) → plan_body bits probes t w s b c ≡ Planned.says q s'
      → (q ≡ plan_of bits probes t w s b) × (s' ≡ planned t s b)
  plan_says q s' e = let p = plan_saying q s' e in (p.message, p.session)

-- own filters never enter the session: it is the same whatever bits and probes they have
pub own_filters : (bits probes bits' probes' : ℕ) (t : List Row) (w : List Waiting) (s : State) (b : Body) (c : Result Unit ℕ)
    → after (plan_body bits probes t w s b c) s ≡ after (plan_body bits' probes' t w s b c) s
unfolding plan_body
own_filters bits probes bits' probes' t w s b c =
    split (ltb sizes.hashes (length (need_of t w s.read_only (heard s.their_heads))))
    (λ x. rw x)
    (λ x.
    split (unknown_sync t s.their_have)
    (λ y. rw (x, y))
    (λ y.
    split (silence t s (is_fine c && empty b.hashes))
    (λ z. rw (x, y, z))
    (λ z.
    split (ltb sizes.sent_hashes (length (sent_after s b)))
    (λ v. rw (x, y, z, v))
    (λ v. rw (x, y, z, v) (same_after c _ _ (planned t s b) s)))))
  where
    same_after : (c : Result Unit ℕ) (p q : Plan) (n s : State) → after (unless_broken c (Planned.says p n)) s ≡ after (unless_broken c (Planned.says q n)) s
    same_after (Ok tt) p q n s = refl
    same_after (Err place) p q n s = refl
