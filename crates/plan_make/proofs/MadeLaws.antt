-- What is counted is small, the parts are what is said of them, and so what is put is what the call promises. Assumes nothing.
use Prim.Native.Nat.{ℕ, ◌+◌, ◌≤◌}
use mathlib.Core.Bool.{Bool, true, false, cond, ◌&&◌, not}
use mathlib.Core.List.{List, [], ◌++◌, append-nil}
use mathlib.Core.Path.{◌≡◌, refl, ap, ◌∙◌}
use native.Mathlib.Omega.{arith}
use borrow.Author.Tests.{ltb-true, ltb-false}
use lib.Dec.{ltb}
use lib.ListN.{length}
use Rattle.bloom.proofs.Rules.{ruled}
use Rattle.table_graph.specs.Graph.{heads}
use Rattle.table_graph.proofs.BelowLaws.{beyond_few}
use Rattle.table_graph.proofs.HeadLaws.{heads_few}
use Rattle.session_check.specs.SessionGood.{session_good}
use Rattle.session_check.proofs.GoodSessions.{session_parts}
use Rattle.bloom_probe.proofs.BuildLaws.{rules_field}
use Rattle.rules.specs.Hash.{hashes_at, hashes_bytes}
use Rattle.rules.specs.Sizes.{sizes}
use Rattle.rules.specs.declared.refusal.Refusal.TheVariants.{PastSize}
use Rattle.rules.proofs.Cases.{split}
use Rattle.rules.proofs.Hash.{length_hashes_at}
use Rattle.session.specs.Laid.{laid_bytes}
use Rattle.session.specs.Plan.{Body, Planned, heard, need_of, have_of, haves_for, empty, silence, sent_after}
use Rattle.session.specs.Plan.{heads_for, plan_of, planned, reset_of, is_fine, unless_broken, plan_body, unknown_sync}
use Rattle.session.proofs.PlanStages.{from_sent, from_silence, from_reset}
use Rattle.session_state.specs.Value.{Lent, state_of}
use Rattle.session_state.specs.declared.session.Session.{Session}
use Rattle.table.specs.Table.{Row}
use Rattle.waiting.specs.Waiting.{Waiting}
use Rattle.bloom.specs.Filter.{SettingGood}
use Rattle.bloom.specs.Have.{Have}
use Rattle.plan_parts.specs.Internal.PlanParts.{NeedCounted}
use Rattle.plan_parts.specs.declared.need.Asked.{Asked}
use Rattle.session.specs.PlanCall.{Buffers, buffers_of, syncs_of, filter_numbers, planned_answer, planned_roomed, planned_rooms, put_into, planned_lists, PlanCalled}
use Rattle.plan_decide.specs.Internal.Draft.{PlanParts, PutLists, SmallDraft, unless_none, puts_of, all_put}
use Rattle.session.specs.declared.plan_answer.PlanAnswer.{PlanAnswer}
use Rattle.plan_decide.specs.declared.decide.Draft.{Draft}
use Rattle.plan_count.specs.Internal.PlanCount.{DraftCounted}
use Rattle.plan_make.specs.Internal.PlanMake.{plan_parts_of, Finished}
use Rattle.plan_make.proofs.Decided.{asked_many, have_given, have_none, plan_decided}
use Rattle.plan_decide.proofs.PutLaws.{Starts, all_said, lists_of, changed, lists_change, put_as_said, refused_starts, silent_starts, roomed_starts}
use Rattle.std.specs.Prelude.{Result, Ok, Err}
use Rattle.rules.specs.declared.refusal.Refusal.{Refusal}

-- ---- small

module _ (bits probes : ℕ) (t : List Row) (s : Session) (l : Lent) (b : Body) (k : Result Unit ℕ) (a : Asked) (d : Draft) (m : DraftCounted t (state_of s l) b k a d)
    (less : a.count ≤ sizes.hashes + 1) where
  module _ (few : length t ≤ sizes.rows) (good : session_good s l ≡ true) (setting : SettingGood bits probes) where
    pub entries_few : d.entries ≤ sizes.rows
    entries_few =
        split d.gives
        (λ e. omega (arith, m.entries e, beyond_few t (state_of s l).shared_heads))
        (λ e. omega (arith, m.none e))

    module _ (some : length b.hashes ≤ sizes.hashes_to_send) (sent-small : d.sent ≤ sizes.sent_hashes + sizes.rows) where
      pub small_made : SmallDraft s d bits
      small_made =
          record {
            heads = omega (arith, m.heads, heads_few t);
            need = omega (arith, m.need);
            shared = (session_parts s l good).shared.few;
            entries = entries_few;
            few = (ruled 0 bits probes _ (setting.each 0 (omega arith))).bits;
            field = (rules_field d.entries bits probes (setting.each _ entries_few)).1;
            hashes = omega (arith, m.hashes);
            sent = sent-small;
          }

-- ---- what is said of the parts

heads_start : (needs supports : Bool) (hs : List ℕ) → unless_none (length (heads_for needs supports hs)) hs ≡ heads_for needs supports hs
unfolding heads_for unless_none
heads_start needs supports hs = split (needs && not supports) (λ b. rw b) (λ b. rw b (all_said hs))

test_starts : (b : Bool) (p q : Planned) (parts : PlanParts) → (b ≡ true → Starts p parts) → (b ≡ false → Starts q parts) → Starts (cond b p q) parts
test_starts true p q parts f g = f refl
test_starts false p q parts f g = g refl

module _ (bits probes : ℕ) (t : List Row) (w : List Waiting) (s : Session) (l : Lent) (b : Body) (k : Result Unit ℕ) (a : Asked) (d : Draft)
    (m : DraftCounted t (state_of s l) b k a d)
    (f : NeedCounted (need_of t w s.read_only (heard (state_of s l).their_heads)) (state_of s l).their_heads a) where
  abbrev parts : PlanParts
  parts = plan_parts_of bits probes t (state_of s l) b (need_of t w s.read_only (heard (state_of s l).their_heads)) l.shared

  shared_start : hashes_at l.shared 0 (length (state_of s l).shared_heads) ≡ (state_of s l).shared_heads
  shared_start = ap (hashes_at l.shared 0) (length_hashes_at l.shared 0 s.shared_heads)

  given_start : (field : List ℕ)
      → hashes_bytes (hashes_at l.shared 0 (length (state_of s l).shared_heads)) ++ unless_none (length field) field
      ≡ hashes_bytes (state_of s l).shared_heads ++ (field ++ [])
  given_start field = rw (shared_start, all_said field, append-nil field)

  -- the have that is said, or none
  abbrev ours : List Have
  ours = haves_for bits probes t (need_of t w s.read_only (heard (state_of s l).their_heads)) (heard (state_of s l).their_heads) (state_of s l).shared_heads

  have_start : d.need ≤ sizes.hashes
      → hashes_bytes (hashes_at l.shared 0 (syncs_of ours)) ++ unless_none (filter_numbers ours).size parts.field ≡ laid_bytes ours
  unfolding have_of hashes_at hashes_bytes laid_bytes unless_none
  have_start few =
      split d.gives
      (λ e. rw (have_given bits probes t w s l b k a d m f few e) (given_start parts.field))
      (λ e. rw (have_none bits probes t w s l b k a d m f few e))

  says_start : d.need ≤ sizes.hashes → d.sent ≤ sizes.sent_hashes
      → Starts (Planned.says (plan_of bits probes t w (state_of s l) b) (planned t (state_of s l) b)) parts
  unfolding plan_of planned sent_after
  says_start few sent =
      record {
        heads = heads_start s.needs_reset s.supports_reset (heads t);
        need = all_said (need_of t w s.read_only (heard (state_of s l).their_heads));
        have = have_start few;
        list = all_said b.hashes;
        last_sent = all_said (heads t);
        sent = all_said (sent_after (state_of s l) b);
      }

  reset_start : Starts (Planned.reset (reset_of t)) parts
  unfolding reset_of hashes_at hashes_bytes laid_bytes unless_none
  reset_start = record { heads = all_said (heads t); need = refl; have = refl; list = refl; last_sent = refl; sent = refl }

  few_asked : length (need_of t w s.read_only (heard (state_of s l).their_heads)) ≤ sizes.hashes → d.need ≤ sizes.hashes
  few_asked h =
      split (ltb sizes.hashes d.need)
      (λ e. absurd (omega (arith, asked_many bits probes t w s l b k a d m f (ltb-true _ _ e))))
      (λ e. ltb-false _ _ e)

  few_sent : length (sent_after (state_of s l) b) ≤ sizes.sent_hashes → d.sent ≤ sizes.sent_hashes
  unfolding sent_after
  few_sent h =
      split (ltb sizes.sent_hashes d.sent)
      (λ e. absurd (omega (arith, m.sent, ltb-true sizes.sent_hashes d.sent e)))
      (λ e. ltb-false _ _ e)

  broken_starts : (c : Result Unit ℕ) {q : Planned} → Starts q parts → Starts (unless_broken c q) parts
  broken_starts (Ok tt) x = x
  broken_starts (Err place) x = refused_starts _ parts

  sent_starts : d.need ≤ sizes.hashes → Starts (from_sent bits probes t w (state_of s l) b k) parts
  sent_starts few =
      test_starts (ltb sizes.sent_hashes (length (sent_after (state_of s l) b))) (Planned.refused (PastSize 0)) _ parts
      (λ e. refused_starts _ parts)
      (λ e. broken_starts k (says_start few (few_sent (ltb-false _ _ e))))

  silence_starts : d.need ≤ sizes.hashes → Starts (from_silence bits probes t w (state_of s l) b k) parts
  silence_starts few =
      test_starts (silence t (state_of s l) (is_fine k && empty b.hashes)) Planned.silent _ parts (λ e. silent_starts parts) (λ e. sent_starts few)

  reset_starts : d.need ≤ sizes.hashes → Starts (from_reset bits probes t w (state_of s l) b k) parts
  reset_starts few =
      test_starts (unknown_sync t (state_of s l).their_have) (Planned.reset (reset_of t)) _ parts (λ e. reset_start) (λ e. silence_starts few)

  pub plan_starts : Starts (plan_body bits probes t w (state_of s l) b k) parts
  unfolding plan_body
  plan_starts =
      test_starts (ltb sizes.hashes (length (need_of t w s.read_only (heard (state_of s l).their_heads)))) (Planned.refused (PastSize 0)) _ parts
      (λ e. refused_starts _ parts)
      (λ e. reset_starts (few_asked (ltb-false _ _ e)))

  -- So a plan that is finished is what the call promises.
  pub plan_called : session_good s l ≡ true → (before after : Buffers) (last_sent sent : List ℕ) (r : Result PlanAnswer Refusal)
      → Finished s d bits probes parts (lists_of before l) (lists_of after (changed l last_sent sent)) r
      → PlanCalled (plan_body bits probes t w (state_of s l) b k) l (changed l last_sent sent) before after r
  plan_called good before after last_sent sent r fin =
      let q : Planned = planned_roomed (planned_rooms before l) (plan_body bits probes t w (state_of s l) b k) in
      let is : r ≡ planned_answer q = fin.answer ∙ plan_decided bits probes t w s l b k a d m f good (planned_rooms before l) in
      let put : lists_of after (changed l last_sent sent) ≡ all_put (puts_of (planned_answer q)) parts (lists_of before l) = rw is at fin.buffers in
      let all : lists_of after (changed l last_sent sent) ≡ lists_of (put_into q before) (planned_lists q l) =
      put ∙ put_as_said parts before l q (roomed_starts (planned_rooms before l) _ parts plan_starts)
      in
      record {
        answer = is;
        buffers = ap (λ (x : PutLists). buffers_of x.heads x.need x.have x.list) all;
        lists = ap (λ (x : PutLists). changed l x.last_sent x.sent) all ∙ lists_change q l;
      }
