-- What the call answers, and what it leaves in the buffers that it is lent. 01, Refusal numbers, and 02, M-100, for 12: 10; 4 and 6; 12; 4 and 9; what
-- planning itself refuses; 7 for the first buffer that is too short, the message's in wire order and then the session's.
use Rattle.std.specs.Prelude.{ℕ, ◌+◌, ◌*◌, cond, not, List, [], ◌∷◌, ◌≡◌, length, Result, Ok, Err}
use Rattle.std.proofs.lemmas.List.Edits.{sets}
use Rattle.bloom.specs.Filter.{pair_good}
use Rattle.bloom.specs.Have.{Have, numbers_of}
use Rattle.bloom.specs.declared.have.FilterNumbers.{FilterNumbers}
use Rattle.session_check.specs.SessionGood.{session_good}
use Rattle.rules.specs.Hash.{hashes_at, hashes_bytes}
use Rattle.rules.specs.Passed.{passed_hashes, after_passed}
use Rattle.rules.specs.Sizes.{sizes}
use Rattle.rules.specs.declared.refusal.Refusal.TheVariants.{BadNumbers}
use Rattle.session.specs.Kept.{planned_in}
use Rattle.session.specs.Laid.{laid_bytes}
use Rattle.session.specs.Plan.{Plan, Planned, plan, plan_picked}
use Rattle.session.specs.Rooms.{or_short, if_room}
use Rattle.session_state.specs.Value.{Lent, state_of, counts_of}
use Rattle.session_state.specs.declared.session.Session.{Session}
use Rattle.settings.specs.Settings.{setting_for}
use Rattle.table.specs.TableBytes.{table_of}
use Rattle.waiting.specs.WaitingBytes.{waiting_of}
use Rattle.waiting.specs.WaitingCalls.{tables_checked}
use Rattle.session.specs.declared.plan_answer.PlanAnswer.{PlanAnswer}
use Rattle.session.specs.declared.plan_answer.PlanAnswer.TheVariants.{Silent, Reset, Says}
use Rattle.session.specs.declared.plan_answer.Rooms.{Rooms}
use Rattle.session.specs.declared.plan_answer.Stated.{Stated}
use Rattle.rules.specs.declared.refusal.Refusal.{Refusal}
use Rattle.settings.specs.declared.choice.Choice.{Choice}

-- ---- what is planned, for a session as counts with its lent lists, and tables and index as bytes

-- 4 and 6 for the change table, 12 for its index, 4 and 9 for the waiting table.
unfoldable pub after_tables : Result ℕ Refusal → Planned → Planned
after_tables (Ok m) p = p
after_tables (Err r) p = Planned.refused r

-- 10 comes first of all, then the tables.
abbrev pub plan_after : Session → Lent → List ℕ → List ℕ → List ℕ → Planned → Planned
plan_after s l table index waiting p =
    cond (not (session_good s l)) (Planned.refused BadNumbers) (after_tables (tables_checked table index waiting) p)

-- The plan with these bits and probes.
unfoldable pub plan_with : ℕ → ℕ → Session → Lent → List ℕ → List ℕ → List ℕ → Planned
plan_with bits probes s l table index waiting =
    plan_after s l table index waiting (plan bits probes (table_of table) (waiting_of waiting) (state_of s l))

-- 02, M-107: bits and probes that are passed are tested first of all. 10 where a filter over some rows of a table would break the filter rules.
unfoldable pub plan_passed : ℕ → ℕ → Session → Lent → List ℕ → List ℕ → List ℕ → Planned
plan_passed bits probes s l table index waiting =
    cond (not (pair_good bits probes)) (Planned.refused BadNumbers) (plan_with bits probes s l table index waiting)

-- 02, M-107: the plan with what a settings list answers. 14 stands behind 9, and before what planning itself refuses.
unfoldable pub plan_by : Result Choice Refusal → Session → Lent → List ℕ → List ℕ → List ℕ → Planned
plan_by (Ok c) s l table index waiting = plan_with c.bits c.probes s l table index waiting
plan_by (Err r) s l table index waiting = plan_after s l table index waiting (Planned.refused r)

-- 02, M-107: the plan with a station's setting at a version.
abbrev pub plan_settled : List ℕ → ℕ → ℕ → Session → Lent → List ℕ → List ℕ → List ℕ → Planned
plan_settled settings station version s l table index waiting = plan_by (setting_for settings station version) s l table index waiting

-- 02, M-110: the plan with a pick that is passed as bytes: 4 and 1 for it stand behind 14, whatever the body is.
unfoldable pub plan_picked_by : Result Choice Refusal → List ℕ → ℕ → List ℕ → Session → Lent → List ℕ → List ℕ → List ℕ → Planned
plan_picked_by (Ok c) rowSizes budget pick s l table index waiting =
    plan_after s l table index waiting
    (after_passed (passed_hashes pick) Planned.refused
    (λ k. plan_picked c.bits c.probes rowSizes budget (table_of table) (waiting_of waiting) (state_of s l) (hashes_at pick 0 k)))
plan_picked_by (Err r) rowSizes budget pick s l table index waiting = plan_after s l table index waiting (Planned.refused r)

-- 02, M-110: the plan with a pick and a station's setting at a version.
abbrev pub plan_picked_settled : List ℕ → ℕ → ℕ → List ℕ → ℕ → List ℕ → Session → Lent → List ℕ → List ℕ → List ℕ → Planned
plan_picked_settled settings station version rowSizes budget pick s l table index waiting =
    plan_picked_by (setting_for settings station version) rowSizes budget pick s l table index waiting

-- ---- the answer: counts of what is said

-- How many last-sync hashes the first have has; 0 where there is none.
abbrev pub syncs_of : List Have → ℕ
syncs_of [] = 0
syncs_of (v ∷ vs) = length v.last_sync

-- The numbers of its filter, whose field stands behind these hashes; zeros where there is none.
abbrev pub filter_numbers : List Have → FilterNumbers
filter_numbers [] = numbers_of 0 0 0 0 0
filter_numbers (v ∷ vs) =
    numbers_of
    v.filter.entries
    v.filter.bits
    v.filter.probes
    (sizes.hash * length v.last_sync)
    (length v.filter.field)

-- The numbers that say a plan.
abbrev pub stated_of : Plan → Stated
stated_of p =
    record {
      version = p.version;
      flags = p.flags;
      document = p.body.document;
      heads = length p.heads;
      need = length p.need;
      haves = length p.haves;
      syncs = syncs_of p.haves;
      filter = filter_numbers p.haves;
      hashes = length p.body.hashes;
    }

-- What the call answers, once there is room.
unfoldable pub planned_answer : Planned → Result PlanAnswer Refusal
planned_answer (Planned.refused r) = Err r
planned_answer Planned.silent = Ok Silent
planned_answer (Planned.reset p) = Ok (Reset (stated_of p))
planned_answer (Planned.says p after) = Ok (Says (stated_of p) (counts_of after))

-- ---- room

-- The message's lists in wire order: heads, need, the have's bytes, the hash list.
unfoldable pub message_room : Stated → Rooms → Result Unit ℕ
message_room p r =
    or_short r.heads (sizes.hash * p.heads)
    (or_short r.need (sizes.hash * p.need)
    (or_short r.have (sizes.hash * p.syncs + p.filter.size)
    (or_short r.list (sizes.hash * p.hashes) (Ok tt))))

-- The session's lists that change: last-sent heads, sent hashes.
unfoldable pub session_room : ℕ → ℕ → Rooms → Result Unit ℕ
session_room last_sent sent r =
    or_short r.last_sent (sizes.hash * last_sent) (or_short r.sent (sizes.hash * sent) (Ok tt))

-- 7 comes last. A reset changes no list of the session.
unfoldable pub planned_roomed : Rooms → Planned → Planned
planned_roomed r (Planned.refused refusal) = Planned.refused refusal
planned_roomed r Planned.silent = Planned.silent
planned_roomed r (Planned.reset p) = if_room Planned.refused (message_room (stated_of p) r) (Planned.reset p)
planned_roomed r (Planned.says p after) =
    if_room Planned.refused (message_room (stated_of p) r)
    (if_room Planned.refused (session_room (length after.last_sent_heads) (length after.sent_hashes) r) (Planned.says p after))

-- ---- the lent buffers at exit: what is said at their start, the rest as it was

-- The buffers for the message's lists, in wire order: heads, need, the have's bytes, the hash list.
pub record Buffers : Type 0 where
  pub heads : List ℕ
  pub need : List ℕ
  pub have : List ℕ
  pub list : List ℕ

-- The buffers, in the order in which they are lent.
abbrev pub buffers_of : List ℕ → List ℕ → List ℕ → List ℕ → Buffers
buffers_of heads need have list = record { heads = heads; need = need; have = have; list = list }

-- How long they are, and the session's lists that change.
abbrev pub planned_rooms : Buffers → Lent → Rooms
planned_rooms b l =
    record {
      heads = length b.heads;
      need = length b.need;
      have = length b.have;
      list = length b.list;
      last_sent = length l.last_sent;
      sent = length l.sent;
    }

-- A message in its buffers.
abbrev pub message_put : Plan → Buffers → Buffers
message_put p b =
    record {
      heads = sets b.heads 0 (hashes_bytes p.heads);
      need = sets b.need 0 (hashes_bytes p.need);
      have = sets b.have 0 (laid_bytes p.haves);
      list = sets b.list 0 (hashes_bytes p.body.hashes);
    }

-- The message's buffers at exit: a refusal and silence leave all as it was.
unfoldable pub put_into : Planned → Buffers → Buffers
put_into (Planned.refused r) b = b
put_into Planned.silent b = b
put_into (Planned.reset p) b = message_put p b
put_into (Planned.says p after) b = message_put p b

-- The session's lists at exit: only a message changes them, a reset doesn't.
unfoldable pub planned_lists : Planned → Lent → Lent
planned_lists (Planned.refused r) l = l
planned_lists Planned.silent l = l
planned_lists (Planned.reset p) l = l
planned_lists (Planned.says p after) l = planned_in after l

-- What the call ensures: the answer, the message's buffers and the session's lists, of what was planned and has room.
pub record PlanCalled (p : Planned) (l l' : Lent) (before after : Buffers) (r : Result PlanAnswer Refusal) : Type 0 where
  pub answer : r ≡ planned_answer (planned_roomed (planned_rooms before l) p)
  pub buffers : after ≡ put_into (planned_roomed (planned_rooms before l) p) before
  pub lists : l' ≡ planned_lists (planned_roomed (planned_rooms before l) p) l
