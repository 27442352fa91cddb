-- Two arms nobody can reach. 02, M-105: the crate has a case for a probe outside the field, and one for a hash to send whose change can't be fetched.
-- Neither stands in code or definitions here, since these hold.
use Rattle.std.specs.Prelude.{ℕ, ◌<◌, true, List, [], ◌≡◌, length, Ok, Some}
use Rattle.bloom.specs.Filter.{Filter, field_size, filter_rules}
use Rattle.bloom.specs.Have.{have_count, numbers_in, filter_with, passed_good, passed_few}
use Rattle.bloom.specs.FilterRead.{filter_at}
use Rattle.bloom.specs.declared.have.FilterNumbers.{FilterNumbers}
use Rattle.session_check.specs.SessionGood.{session_good}
use Rattle.hash_order.specs.Order.{every}
use Rattle.bloom_probe.specs.Build.{filter_of}
use Rattle.bloom_probe.specs.Inside.{Inside}
use Rattle.rules.specs.Hash.{Bytes}
use Rattle.session.specs.Plan.{Planned, plan}
use Rattle.session_state.specs.Session.{State}
use Rattle.session_state.specs.Value.{Lent, kept_haves}
use Rattle.session_state.specs.declared.session.Session.{Session}
use Rattle.table.specs.Table.{Row, GoodTable, held}
use Rattle.waiting.specs.Waiting.{Waiting}

-- Of a filter that 01 accepts each probe lies inside the field: one that keeps the rules; one that is built; one that is read; one that is passed; one
-- that a good session keeps. Without entries nothing is probed.
pub record ProbesInside : Type 0 where
  pub ruled : (f : Filter) → filter_rules f.entries f.bits f.probes (length f.field) ≡ true → 0 < f.entries → Inside f
  pub built : (b p : ℕ) (hs : List ℕ) → filter_rules (length hs) b p (field_size (length hs) b) ≡ true → 0 < length hs → Inside (filter_of b p hs)
  pub read : (s : List ℕ) (at end : ℕ) (f : FilterNumbers) (next : ℕ) → Bytes s → filter_at s at end ≡ Ok (f, next) → 0 < f.entries
      → Inside (filter_with s f)
  pub passed : (s haves : List ℕ) → passed_good s haves ≡ true → passed_few haves ≡ true → (i : ℕ) → i < have_count haves → 0 < (numbers_in haves i).entries
      → Inside (filter_with s (numbers_in haves i))
  pub kept : (s : Session) (l : Lent) (count : ℕ) → session_good s l ≡ true → s.their_have ≡ Some count → (i : ℕ) → i < count
      → 0 < (numbers_in (kept_haves l.haves count) i).entries
      → Inside (filter_with l.bytes (numbers_in (kept_haves l.haves count) i))

-- The hashes whose changes a plan asks the host for.
abbrev pub asked_of : Planned → List ℕ
asked_of (Planned.refused r) = []
asked_of Planned.silent = []
asked_of (Planned.reset p) = p.body.hashes
asked_of (Planned.says p s) = p.body.hashes

-- Each of them is a row of the table that was lent.
abbrev pub PlannedRows : Type 0
PlannedRows = (bits probes : ℕ) (t : List Row) (w : List Waiting) (s : State) → GoodTable t → every (held t) (asked_of (plan bits probes t w s)) ≡ true
