-- Laws of the walk: how it goes on at each answer of `record_at`, that it meets no more records than there are bytes, and that what is
-- counted so far and what the rest of the walk meets are the whole walk's counts.
use Prim.Native.Nat.{ℕ, zero, suc, ◌+◌, ◌-◌, ◌≤◌, ◌<◌, ◌^◌}
use mathlib.Core.Bool.{Bool, true, false, cond}
use mathlib.Core.List.{List}
use mathlib.Core.Path.{◌≡◌, refl, ◌∙◌, ap}
use native.Mathlib.Omega.{arith}
use borrow.Author.Tests.{lt-ltb, ltb-true, ltb-false, eq-eqb}
use lib.Dec.{ltb}
use lib.ListN.{length}
use Rattle.std.specs.Prelude.{Option, Some, None}
use Rattle.rules.proofs.Cases.{split}
use Rattle.rules.specs.LittleEndian.{u16_at}
use Rattle.sample_replay.specs.Kind.{is_kind}
use Rattle.sample_replay.specs.Record.{size_place, input_place, record_of, record_at}
use Rattle.sample_replay.specs.SampleWalk.{Replayed, stops, meets, after_record, walk_from, walk_of, one_if, records_in, agree_in, stop_of, tallied, TallyRoom, tally_of, added, SampleCounted}
use Rattle.sample_replay.specs.declared.kind.Kind.{Kind}
use Rattle.sample_replay.specs.declared.kind.Kind.TheVariants.{Number, FilterNumber, PrefixedString, HashList}
use Rattle.sample_replay.specs.declared.record.Record.{Record}
use Rattle.sample_replay.specs.declared.walk.ReplayCounts.{ReplayCounts}
use Rattle.sample_replay.specs.declared.walk.Tally.{Tally}
use Rattle.sample_replay.proofs.Records.{header_cut, input_cut, judged}

-- ---- what a record that was read is like

never : {r : Record} {A : Type 0} → ◌≡◌ {A = Option Record} None (Some r) → A
never q = absurd (let z : ◌≡◌ {A = ℕ} 0 1 = cc in omega arith)

pub record Whole (s : List ℕ) (at next : ℕ) : Type 0 where
  pub onward : at < next
  pub inside : next ≤ length s

next_or : ℕ → Option Record → ℕ
next_or n (Some r) = r.next
next_or n None = n

read_of : (k : Option Kind) (input stored : List ℕ) (n : ℕ) (r : Record) → record_of k input stored n ≡ Some r → n ≡ r.next
unfolding record_of next_or
read_of (Some k) input stored n r q = ap (next_or n) q
read_of None input stored n r q = never q

pub whole : (s : List ℕ) (at : ℕ) (r : Record) → record_at s at ≡ Some r → Whole s at r.next
whole s at r q =
    split (ltb (length s - at) input_place)
    (λ t. never (header_cut s at (ltb-true _ _ t) ∙ q))
    (λ t.
    let h : input_place ≤ length s - at = ltb-false _ _ t in
    let size : ℕ = u16_at s (at + size_place) in
    split (ltb (length s - (at + input_place)) size)
    (λ u. never (input_cut s at h size refl (ltb-true _ _ u) ∙ q))
    (λ u.
    let g : size ≤ length s - (at + input_place) = ltb-false _ _ u in
    let n : at + input_place + size ≡ r.next = read_of _ _ _ _ r (judged s at h size refl g ∙ q) in
    record { onward = omega arith; inside = omega arith }))

-- ---- how the walk goes on

module _ (s : List ℕ) (at : ℕ) where
  walk_stops : (k : ℕ) → record_at s at ≡ None → walk_from k s at ≡ stops at
  unfolding walk_from after_record
  walk_stops zero e = refl
  walk_stops (suc k) e = split (ltb at (length s)) (λ t. rw (t, e)) (λ t. rw t)

  walk_goes_on : (k : ℕ) (r : Record) → at < length s → record_at s at ≡ Some r → walk_from (suc k) s at ≡ meets r.kind r.same (walk_from k s r.next)
  unfolding walk_from after_record
  walk_goes_on k r h e = rw (lt-ltb _ _ h, e)

-- ---- no more records than steps

steps : Replayed → ℕ
steps (stops at) = 0
steps (meets kind same w) = suc (steps w)

at_most_one : (b : Bool) (n : ℕ) → n ≤ 1 → cond b n 0 ≤ 1
at_most_one true n h = h
at_most_one false n h = omega arith

one_at_most : (b : Bool) → one_if b ≤ 1
one_at_most true = omega arith
one_at_most false = omega arith

records_steps : (k : Kind) (w : Replayed) → records_in k w ≤ steps w
unfolding records_in steps
records_steps k (stops at) = omega arith
records_steps k (meets kind same w) = omega (arith, at_most_one (is_kind kind k) 1 (omega arith), records_steps k w)

agree_steps : (k : Kind) (w : Replayed) → agree_in k w ≤ steps w
unfolding agree_in steps
agree_steps k (stops at) = omega arith
agree_steps k (meets kind same w) = omega (arith, at_most_one (is_kind kind k) (one_if same) (one_at_most same), agree_steps k w)

after_steps : (r : Option Record) (n at : ℕ) (k : Kind → Bool → ℕ → Replayed) → ((a : Kind) (b : Bool) (c : ℕ) → steps (k a b c) ≤ suc n)
    → steps (after_record r (stops at) k) ≤ suc n
unfolding after_record steps
after_steps (Some r) n at k h = h r.kind r.same r.next
after_steps None n at k h = omega arith

walk_steps : (n : ℕ) (s : List ℕ) (at : ℕ) → steps (walk_from n s at) ≤ n
unfolding walk_from steps
walk_steps zero s at = omega arith
walk_steps (suc n) s at =
    split (ltb at (length s))
    (λ t.
    rw t
    (after_steps (record_at s at) n at (λ kind same next. meets kind same (walk_from n s next))
    (λ a b c. omega (arith, walk_steps n s c))))
    (λ t. rw t (omega arith))

-- ---- one record more is counted

more_records : (b : Bool) (t : Tally) (same : Bool) → (cond b (tallied t same) t).records ≡ t.records + cond b 1 0
more_records true t same = refl
more_records false t same = omega arith

more_agree : (b : Bool) (t : Tally) (same : Bool) → (cond b (tallied t same) t).agree ≡ t.agree + cond b (one_if same) 0
more_agree true t same = refl
more_agree false t same = omega arith

module _ (c : ReplayCounts) (kind : Kind) (same : Bool) (next : ℕ) where
  counted : (k : Kind) → (tally_of (added c kind same next) k).records ≡ (tally_of c k).records + cond (is_kind kind k) 1 0
  counted Number = more_records (is_kind kind Number) c.numbers same
  counted FilterNumber = more_records (is_kind kind FilterNumber) c.filter_numbers same
  counted PrefixedString = more_records (is_kind kind PrefixedString) c.prefixed_strings same
  counted HashList = more_records (is_kind kind HashList) c.hash_lists same

  counted_agree : (k : Kind) → (tally_of (added c kind same next) k).agree ≡ (tally_of c k).agree + cond (is_kind kind k) (one_if same) 0
  counted_agree Number = more_agree (is_kind kind Number) c.numbers same
  counted_agree FilterNumber = more_agree (is_kind kind FilterNumber) c.filter_numbers same
  counted_agree PrefixedString = more_agree (is_kind kind PrefixedString) c.prefixed_strings same
  counted_agree HashList = more_agree (is_kind kind HashList) c.hash_lists same

-- ---- the loop's invariant

pub record Replaying (s : List ℕ) (c : ReplayCounts) : Type 0 where
  pub left : ℕ
  pub enough : length s ≤ c.end + left
  pub upto : c.end ≤ length s
  pub records : (k : Kind) → (tally_of c k).records + records_in k (walk_from left s c.end) ≡ records_in k (walk_of s)
  pub agree : (k : Kind) → (tally_of c k).agree + agree_in k (walk_from left s c.end) ≡ agree_in k (walk_of s)
  pub stop : stop_of (walk_from left s c.end) ≡ stop_of (walk_of s)

abbrev NoneIn : Tally → Type 0
NoneIn t = (t.records ≡ 0) × (t.agree ≡ 0)

-- what `default` gives
abbrev NoneYet : ReplayCounts → Type 0
NoneYet c = NoneIn c.numbers × (NoneIn c.filter_numbers × (NoneIn c.prefixed_strings × (NoneIn c.hash_lists × (c.end ≡ 0))))

none_in : (c : ReplayCounts) → NoneYet c → (k : Kind) → NoneIn (tally_of c k)
none_in c z Number = z.0
none_in c z FilterNumber = z.1.0
none_in c z PrefixedString = z.1.1.0
none_in c z HashList = z.1.1.1.0

pub starts : (s : List ℕ) (c : ReplayCounts) → NoneYet c → Replaying s c
unfolding walk_of
starts s c z =
    let e : c.end ≡ 0 = z.1.1.1.1 in
    record {
      left = length s;
      enough = omega arith;
      upto = omega arith;
      records = λ k. rw e (omega (arith, (none_in c z k).0));
      agree = λ k. rw e (omega (arith, (none_in c z k).1));
      stop = rw e;
    }

module _ (s : List ℕ) (c : ReplayCounts) (g : Replaying s c) where
  -- where the walk stops, nothing is left to count
  pub ends : record_at s c.end ≡ None → SampleCounted (walk_of s) c
  unfolding records_in agree_in stop_of
  ends n =
      let e : walk_from g.left s c.end ≡ stops c.end = walk_stops s c.end g.left n in
      record {
        records = λ k. let q : (tally_of c k).records + records_in k (stops c.end) ≡ records_in k (walk_of s) = rw e at (g.records k) in omega arith;
        agree = λ k. let q : (tally_of c k).agree + agree_in k (stops c.end) ≡ agree_in k (walk_of s) = rw e at (g.agree k) in omega arith;
        end = let q : stop_of (stops c.end) ≡ stop_of (walk_of s) = rw e at g.stop in q;
      }

  module _ (r : Record) (e : record_at s c.end ≡ Some r) where
    rest : ℕ
    rest = g.left - 1

    onward : walk_from g.left s c.end ≡ meets r.kind r.same (walk_from rest s r.next)
    unfolding rest
    onward =
        let w : Whole s c.end r.next = whole s c.end r e in
        let l : g.left ≡ suc (g.left - 1) = omega (arith, g.enough) in
        ap (λ (n : ℕ). walk_from n s c.end) l ∙ walk_goes_on s c.end (g.left - 1) r (omega arith) e

    records_more : (k : Kind) → (tally_of c k).records + (cond (is_kind r.kind k) 1 0 + records_in k (walk_from rest s r.next)) ≡ records_in k (walk_of s)
    unfolding records_in
    records_more k = rw onward at (g.records k)

    agree_more : (k : Kind) → (tally_of c k).agree + (cond (is_kind r.kind k) (one_if r.same) 0 + agree_in k (walk_from rest s r.next)) ≡ agree_in k (walk_of s)
    unfolding agree_in
    agree_more k = rw onward at (g.agree k)

    stop_more : stop_of (walk_from rest s r.next) ≡ stop_of (walk_of s)
    unfolding stop_of
    stop_more = rw onward at g.stop

    pub room : length s < 2 ^ 64 → TallyRoom (tally_of c r.kind) r.same
    unfolding walk_of
    room f =
        let t : is_kind r.kind r.kind ≡ true = eq-eqb _ _ refl in
        let q : (tally_of c r.kind).records + (1 + records_in r.kind (walk_from rest s r.next)) ≡ records_in r.kind (walk_of s) = rw t at (records_more r.kind) in
        let a : (tally_of c r.kind).agree + (one_if r.same + agree_in r.kind (walk_from rest s r.next)) ≡ agree_in r.kind (walk_of s) = rw t at (agree_more r.kind) in
        record {
          records = omega (arith, records_steps r.kind (walk_of s), walk_steps (length s) s 0);
          agree = omega (arith, agree_steps r.kind (walk_of s), walk_steps (length s) s 0);
        }

    pub goes_on : Replaying s (added c r.kind r.same r.next)
    unfolding rest
    goes_on =
        let w : Whole s c.end r.next = whole s c.end r e in
        record {
          left = rest;
          enough = omega (arith, g.enough);
          upto = w.inside;
          records = λ k. omega (arith, counted c r.kind r.same r.next k, records_more k);
          agree = λ k. omega (arith, counted_agree c r.kind r.same r.next k, agree_more k);
          stop = stop_more;
        }
