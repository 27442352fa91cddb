-- The records of a sample, one after the other, and what is counted of them.
use Rattle.std.specs.Prelude.{ℕ, zero, suc, ◌+◌, ◌<◌, ◌^◌, Bool, true, false, cond, List, Option, Some, None, ◌≡◌, ltb, length}
use Rattle.sample_replay.specs.Kind.{is_kind}
use Rattle.sample_replay.specs.Record.{record_at}
use Rattle.sample_replay.specs.declared.kind.Kind.{Kind}
use Rattle.sample_replay.specs.declared.kind.Kind.TheVariants.{Number, FilterNumber, PrefixedString, HashList}
use Rattle.sample_replay.specs.declared.record.Record.{Record}
use Rattle.sample_replay.specs.declared.walk.ReplayCounts.{ReplayCounts}
use Rattle.sample_replay.specs.declared.walk.Tally.{Tally}

-- A walk meets records, each of a kind, that agree or not, and stops at a place.
pub data Replayed : Type 0 where
  stops : ℕ → Replayed
  meets : Kind → Bool → Replayed → Replayed

-- What follows a record that was read.
unfoldable pub after_record : Option Record → Replayed → (Kind → Bool → ℕ → Replayed) → Replayed
after_record (Some r) bad k = k r.kind r.same r.next
after_record None bad k = bad

-- The walk from a place, up to the end or the first bad record. The first argument bounds its steps.
unfoldable pub walk_from : ℕ → List ℕ → ℕ → Replayed
walk_from zero s at = stops at
walk_from (suc k) s at =
    cond (ltb at (length s))
    (after_record (record_at s at) (stops at) (λ kind same next. meets kind same (walk_from k s next)))
    (stops at)

-- A record has bytes, so there are no more records than bytes.
unfoldable pub walk_of : List ℕ → Replayed
walk_of s = walk_from (length s) s 0

-- 1 for a record that agrees.
abbrev pub one_if : Bool → ℕ
one_if true = 1
one_if false = 0

-- How many records of a kind a walk meets.
unfoldable pub records_in : Kind → Replayed → ℕ
records_in k (stops at) = 0
records_in k (meets kind same w) = cond (is_kind kind k) 1 0 + records_in k w

-- How many of them agree.
unfoldable pub agree_in : Kind → Replayed → ℕ
agree_in k (stops at) = 0
agree_in k (meets kind same w) = cond (is_kind kind k) (one_if same) 0 + agree_in k w

-- Where it stops.
unfoldable pub stop_of : Replayed → ℕ
stop_of (stops at) = at
stop_of (meets kind same w) = stop_of w

-- The tally with one record more.
abbrev pub tallied : Tally → Bool → Tally
tallied t same = record { records = t.records + 1; agree = t.agree + one_if same }

-- A tally that one more fits.
pub record TallyRoom (t : Tally) (same : Bool) : Type 0 where
  pub records : t.records + 1 < 2 ^ 64
  pub agree : t.agree + one_if same < 2 ^ 64

-- The tally of a kind.
abbrev pub tally_of : ReplayCounts → Kind → Tally
tally_of c Number = c.numbers
tally_of c FilterNumber = c.filter_numbers
tally_of c PrefixedString = c.prefixed_strings
tally_of c HashList = c.hash_lists

-- The tally of the kind `k` with one record more, which is of this kind or not.
abbrev pub tally_with : ReplayCounts → Kind → Bool → Kind → Tally
tally_with c kind same k = cond (is_kind kind k) (tallied (tally_of c k) same) (tally_of c k)

-- The counts with one record more.
abbrev pub added : ReplayCounts → Kind → Bool → ℕ → ReplayCounts
added c kind same next =
    record {
      numbers = tally_with c kind same Number;
      filter_numbers = tally_with c kind same FilterNumber;
      prefixed_strings = tally_with c kind same PrefixedString;
      hash_lists = tally_with c kind same HashList;
      end = next;
    }

-- The counts of a walk, for each kind.
pub record SampleCounted (w : Replayed) (r : ReplayCounts) : Type 0 where
  pub records : (k : Kind) → (tally_of r k).records ≡ records_in k w
  pub agree : (k : Kind) → (tally_of r k).agree ≡ agree_in k w
  pub end : r.end ≡ stop_of w
