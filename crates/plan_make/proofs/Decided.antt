-- What is decided from the numbers of a plan is what is planned on values, as counts: stage by stage, in the order of the refusals. Assumes nothing.
use Prim.Native.Nat.{ℕ, ◌*◌, ◌≤◌, ◌<◌}
use mathlib.Core.Bool.{Bool, true, false, cond, ◌&&◌, not}
use mathlib.Core.List.{List, [], ◌∷◌}
use mathlib.Core.Path.{◌≡◌, refl, sym, ap, ◌∙◌}
use native.Mathlib.Omega.{arith}
use borrow.Author.Tests.{ltb-true, ltb-false, lt-ltb, le-ltb}
use lib.Dec.{ltb}
use lib.ListN.{length, length-replicate}
use Rattle.bloom.specs.Filter.{field_size}
use Rattle.bloom.specs.Have.{numbers_of}
use Rattle.bloom.specs.declared.have.FilterNumbers.{FilterNumbers}
use Rattle.plan_decide.specs.Internal.Draft.{heads_count, count_if, filter_if, drafted, reset_stated, planned_counts, says_with, unless_breaks, decided}
use Rattle.plan_decide.specs.declared.decide.Draft.{Draft}
use Rattle.table_graph.specs.Graph.{heads, beyond}
use Rattle.message.specs.declared.flags.MessageFlags.{MessageFlags}
use Rattle.message.specs.declared.version.MessageVersion.{MessageVersion}
use Rattle.plan_parts.specs.Internal.PlanParts.{NeedCounted}
use Rattle.plan_parts.specs.declared.need.Asked.{Asked}
use Rattle.hash_order.specs.Order.{member, every}
use Rattle.session.specs.PlanCall.{syncs_of, filter_numbers, stated_of, planned_answer, message_room, session_room, planned_roomed}
use Rattle.session.specs.declared.plan_answer.PlanAnswer.TheVariants.{Reset}
use Rattle.session.specs.declared.plan_answer.PlanAnswer.{PlanAnswer}
use Rattle.session.specs.declared.plan_answer.Rooms.{Rooms}
use Rattle.session.specs.declared.plan_answer.Stated.{Stated}
use Rattle.session.specs.Rooms.{if_room}
use Rattle.bloom_probe.proofs.FieldLaws.{length_add_hashes}
use Rattle.bloom_probe.specs.Build.{filter_of}
use Rattle.rules.proofs.Cases.{split}
use Rattle.rules.proofs.Hash.{length_hashes_at}
use Rattle.rules.specs.Sizes.{sizes}
use Rattle.rules.specs.declared.refusal.Refusal.TheVariants.{PastSize}
use Rattle.session.specs.Plan.{Body, Planned, heard, need_of, have_of, haves_for, sent_after, heads_for, plan_of, planned, reset_of, unless_broken, plan_body}
use Rattle.session.proofs.PlanStages.{from_sent}
use Rattle.session_check.proofs.GoodSessions.{session_parts}
use Rattle.session_check.specs.SessionGood.{session_good}
use Rattle.session_state.proofs.ValueLaws.{hashes_counted, haves_counted}
use Rattle.session_state.specs.Value.{Lent, state_of, counts_of}
use Rattle.session_state.specs.declared.session.Session.{Session}
use Rattle.table.specs.Table.{Row}
use Rattle.waiting.specs.Waiting.{Waiting}
use Rattle.plan_count.specs.Internal.PlanCount.{DraftCounted}
use Rattle.std.specs.Prelude.{Result, Ok, Err}
use Rattle.rules.specs.declared.refusal.Refusal.{Refusal}

-- ---- counts of parts

-- room is asked before the answer is counted, or after
room_answers : (x : Result Unit ℕ) (q : Planned) → if_room Err x (planned_answer q) ≡ planned_answer (if_room Planned.refused x q)
unfolding if_room planned_answer
room_answers (Ok tt) q = refl
room_answers (Err wanted) q = refl

-- a test decides the same on both sides
both_ways : (f : Planned → Result PlanAnswer Refusal) (b : Bool) {x y : Result PlanAnswer Refusal} {p q : Planned} → x ≡ f p → y ≡ f q → cond b x y ≡ f (cond b p q)
both_ways f true e g = e
both_ways f false e g = g

-- and so does a pick that isn't accepted
broken_answers : (r : Rooms) (k : Result Unit ℕ) (q : Planned) {x : Result PlanAnswer Refusal} → x ≡ planned_answer (planned_roomed r q)
    → unless_breaks k x ≡ planned_answer (planned_roomed r (unless_broken k q))
unfolding unless_breaks planned_roomed planned_answer
broken_answers r (Ok tt) q e = e
broken_answers r (Err place) q e = refl

heads_count_lem : (needs supports : Bool) (hs : List ℕ) → length (heads_for needs supports hs) ≡ heads_count needs supports (length hs)
unfolding heads_for heads_count
heads_count_lem needs supports hs = split (needs && not supports) (λ e. rw e) (λ e. rw e)

pub field_long : (bits probes : ℕ) (hs : List ℕ) (entries : ℕ) → entries ≡ length hs → length (filter_of bits probes hs).field ≡ field_size entries bits
unfolding filter_of
field_long bits probes hs entries many = length_add_hashes probes _ hs ∙ length-replicate _ _ ∙ ap (λ (n : ℕ). field_size n bits) (sym many)

-- ---- the counts of a message

abbrev stated_counts : MessageVersion → MessageFlags → Bool → ℕ → ℕ → ℕ → ℕ → FilterNumbers → ℕ → Stated
stated_counts version flags document heads need haves syncs filter hashes =
    record {
      version = version;
      flags = flags;
      document = document;
      heads = heads;
      need = need;
      haves = haves;
      syncs = syncs;
      filter = filter;
      hashes = hashes;
    }

counted_same : {version : MessageVersion} {flags : MessageFlags} {b b' : Bool} {h h' n n' v v' s s' : ℕ} {f f' : FilterNumbers} {k k' : ℕ}
    → b ≡ b' → h ≡ h' → n ≡ n' → v ≡ v' → s ≡ s' → f ≡ f' → k ≡ k'
    → stated_counts version flags b h n v s f k ≡ stated_counts version flags b' h' n' v' s' f' k'
counted_same b h n v s f k = rw (b, h, n, v, s, f, k)

numbers_same : {bits probes e e' p p' z z' : ℕ} → e ≡ e' → p ≡ p' → z ≡ z' → numbers_of e bits probes p z ≡ numbers_of e' bits probes p' z'
numbers_same e p z = rw (e, p, z)

module _ (bits probes : ℕ) (t : List Row) (w : List Waiting) (s : Session) (l : Lent) (b : Body) (k : Result Unit ℕ) (a : Asked) (d : Draft)
    (m : DraftCounted t (state_of s l) b k a d)
    (f : NeedCounted (need_of t w s.read_only (heard (state_of s l).their_heads)) (state_of s l).their_heads a) where
  abbrev theirs : List ℕ
  theirs = heard (state_of s l).their_heads

  abbrev needs : List ℕ
  needs = need_of t w s.read_only theirs

  abbrev shared : List ℕ
  shared = (state_of s l).shared_heads

  pub asked_all : d.need ≤ sizes.hashes → d.need ≡ length needs
  asked_all few = m.need ∙ f.all (omega (arith, m.need))

  pub asked_many : sizes.hashes < d.need → sizes.hashes < length needs
  asked_many more = f.many (omega (arith, m.need))

  module _ (few : d.need ≤ sizes.hashes) where
    gives_every : every (λ h. member h theirs) needs ≡ d.gives
    gives_every = sym (m.gives ∙ f.each (omega (arith, m.need)))

    pub have_given : d.gives ≡ true → haves_for bits probes t needs theirs shared ≡ have_of bits probes t shared ∷ []
    unfolding haves_for
    have_given e = rw (gives_every ∙ e)

    pub have_none : d.gives ≡ false → haves_for bits probes t needs theirs shared ≡ []
    unfolding haves_for
    have_none e = rw (gives_every ∙ e)

    given_numbers : d.gives ≡ true
        → filter_numbers (have_of bits probes t shared ∷ [])
        ≡ numbers_of d.entries bits probes (sizes.hash * s.shared_heads) (field_size d.entries bits)
    unfolding have_of filter_of
    given_numbers e =
        numbers_same (sym (m.entries e)) (ap (λ (n : ℕ). sizes.hash * n) (length_hashes_at l.shared 0 s.shared_heads))
        (field_long bits probes (beyond t shared) d.entries (m.entries e))

    given_syncs : syncs_of (have_of bits probes t shared ∷ []) ≡ s.shared_heads
    unfolding have_of
    given_syncs = length_hashes_at l.shared 0 s.shared_heads

    pub stated_drafted : stated_of (plan_of bits probes t w (state_of s l) b) ≡ drafted s d bits probes
    unfolding plan_of count_if filter_if
    stated_drafted =
        split d.gives
        (λ e. rw (e, have_given e)
        (counted_same (sym m.document) (heads_count_lem _ _ _ ∙ ap (heads_count s.needs_reset s.supports_reset) (sym m.heads))
        (sym (asked_all few)) refl given_syncs (given_numbers e) (sym m.hashes)))
        (λ e. rw (e, have_none e)
        (counted_same (sym m.document) (heads_count_lem _ _ _ ∙ ap (heads_count s.needs_reset s.supports_reset) (sym m.heads))
        (sym (asked_all few)) refl refl refl (sym m.hashes)))

  -- the counts of the session after the message
  counts_planned : session_good s l ≡ true → d.sent ≤ sizes.sent_hashes → counts_of (planned t (state_of s l) b) ≡ planned_counts s d.heads d.sent
  unfolding planned sent_after
  counts_planned good some =
      let shared_count = length_hashes_at l.shared 0 s.shared_heads in
      let heads-heard = hashes_counted l.their_heads s.their_heads in
      let need-heard = hashes_counted l.their_need s.their_need in
      let haves-heard = haves_counted l.bytes l.haves s.their_have (λ n e. ((session_parts s l good).their_have n e).there) in
      rw (shared_count, heads-heard, need-heard, haves-heard, m.heads, m.sent)

  -- ---- the stages

  module _ (good : session_good s l ≡ true) (r : Rooms) where
    abbrev answer : Planned → Result PlanAnswer Refusal
    answer q = planned_answer (planned_roomed r q)

    says_decided : d.need ≤ sizes.hashes → d.sent ≤ sizes.sent_hashes
        → says_with s d bits probes r ≡ answer (Planned.says (plan_of bits probes t w (state_of s l) b) (planned t (state_of s l) b))
    unfolding says_with planned_roomed planned sent_after planned_answer
    says_decided few some =
        let p = plan_of bits probes t w (state_of s l) b in
        let q : Planned = Planned.says p (planned t (state_of s l) b) in
        let x : Result Unit ℕ = session_room (length (heads t)) (length (sent_after (state_of s l) b)) r in
        rw (sym (stated_drafted few), sym (counts_planned good some), m.heads, m.sent)
        (ap (λ (a : Result PlanAnswer Refusal). if_room Err (message_room (stated_of p) r) a) (room_answers x q) ∙ room_answers (message_room (stated_of p) r) (if_room Planned.refused x q))

    sent_decided : d.need ≤ sizes.hashes
        → cond (ltb sizes.sent_hashes d.sent) (Err (PastSize 0)) (unless_breaks d.picked (says_with s d bits probes r))
        ≡ answer (from_sent bits probes t w (state_of s l) b k)
    unfolding sent_after planned_roomed planned_answer
    sent_decided few =
        split (ltb sizes.sent_hashes d.sent)
        (λ e.
        let many : sizes.sent_hashes < length (sent_after (state_of s l) b) = omega (arith, m.sent, ltb-true sizes.sent_hashes d.sent e) in
        rw (e, lt-ltb _ _ many))
        (λ e.
        let some : d.sent ≤ sizes.sent_hashes = ltb-false _ _ e in
        let room : length (sent_after (state_of s l) b) ≤ sizes.sent_hashes = omega (arith, m.sent) in
        rw (e, le-ltb _ _ room) (ap (λ (z : Result Unit ℕ). unless_breaks z (says_with s d bits probes r)) m.picked ∙ broken_answers r k _ (says_decided few some)))

    reset_decided : if_room Err (message_room (reset_stated d.heads) r) (Ok (Reset (reset_stated d.heads))) ≡ answer (Planned.reset (reset_of t))
    unfolding planned_roomed reset_of planned_answer
    reset_decided = rw m.heads (room_answers (message_room (reset_stated (length (heads t))) r) (Planned.reset (reset_of t)))

    pub plan_decided : decided s d bits probes r ≡ answer (plan_body bits probes t w (state_of s l) b k)
    unfolding decided plan_body planned_roomed planned_answer
    plan_decided =
        split (ltb sizes.hashes d.need)
        (λ e. rw (e, lt-ltb _ _ (asked_many (ltb-true _ _ e))))
        (λ e.
        let few : d.need ≤ sizes.hashes = ltb-false _ _ e in
        let some : length needs ≤ sizes.hashes = omega (arith, asked_all few) in
        rw (e, le-ltb _ _ some, sym m.unknown, sym m.silent)
        (both_ways (λ q. planned_answer (planned_roomed r q)) d.unknown reset_decided (both_ways (λ q. planned_answer (planned_roomed r q)) d.silent refl (sent_decided few))))
