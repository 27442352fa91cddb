-- What internal contracts speak of: what is decided and put, and what the call ensures once it is known what is asked for. No rule of 01 stands here.
use Rattle.std.specs.Prelude.{ℕ, ◌*◌, ◌≤◌, true, List, ◌≡◌, length, Result, Ok}
use Rattle.bloom_probe.specs.Build.{filter_of}
use Rattle.plan_decide.specs.Internal.Draft.{PutLists, put_rooms, PlanParts, decided, puts_of, list_put, all_put}
use Rattle.plan_decide.specs.declared.decide.Draft.{Draft}
use Rattle.table_graph.specs.Graph.{heads, beyond}
use Rattle.table_index.specs.Index.{Indexed}
use Rattle.session_check.specs.SessionGood.{session_good}
use Rattle.session.specs.PlanCall.{buffers_of, PlanCalled}
use Rattle.session.specs.declared.plan_answer.PlanAnswer.{PlanAnswer}
use Rattle.plan_parts.specs.Internal.PlanParts.{NeedCounted}
use Rattle.plan_parts.specs.declared.need.Asked.{Asked}
use Rattle.rules.specs.Sizes.{sizes}
use Rattle.session.specs.Plan.{Body, heard, need_of, sent_after, plan_body}
use Rattle.session_state.specs.Session.{State}
use Rattle.session_state.specs.Value.{Lent, state_of}
use Rattle.session_state.specs.declared.session.Session.{Session}
use Rattle.table.specs.TableBytes.{rows_at}
use Rattle.table.specs.Table.{Row}
use Rattle.waiting.specs.WaitingBytes.{waiting_checked, Sorted}
use Rattle.waiting.specs.Waiting.{Waiting}
use Rattle.rules.specs.declared.refusal.Refusal.{Refusal}

-- The parts that a plan with a body is put from.
abbrev pub plan_parts_of : ℕ → ℕ → List Row → State → Body → List ℕ → List ℕ → PlanParts
plan_parts_of bits probes t s b need shared =
    record {
      heads = heads t;
      need = need;
      shared = shared;
      field = (filter_of bits probes (beyond t s.shared_heads)).field;
      list = b.hashes;
      sent = sent_after s b;
    }

-- What was decided, and all buffers with it put.
pub record Finished (s : Session) (d : Draft) (bits probes : ℕ) (parts : PlanParts) (before after : PutLists) (a : Result PlanAnswer Refusal) : Type 0 where
  pub answer : a ≡ decided s d bits probes (put_rooms before)
  pub buffers : after ≡ all_put (puts_of a) parts before

-- ---- the call

-- What was checked: a table of n rows and a waiting table of m, an index that fits and the waiting rows' order, beside a session that is good.
pub record PlanChecked (table index : List ℕ) (n : ℕ) (waiting order : List ℕ) (m : ℕ) (s : Session) (l : Lent) : Type 0 where
  pub rows : Indexed table index n
  pub waiting_rows : waiting_checked (rows_at table 0 n) waiting ≡ Ok m
  pub sorted : Sorted waiting order m
  pub session : session_good s l ≡ true

-- What the call ensures with what goes, whatever waits, if this is what is asked for then and it is put as it is counted; there is room for what is put of it.
pub record AskedCalled (bits probes : ℕ) (s : Session) (t : List Row) (b : Body) (k : Result Unit ℕ) (l l' : Lent) (a : Asked) (room : ℕ)
    (heads₀ have₀ list₀ heads₁ have₁ list₁ : List ℕ) (r : Result PlanAnswer Refusal) : Type 0
  where
    pub fits : ((puts_of r).need ≡ 0 → ⊥) → ((puts_of r).need ≡ a.count) × ((a.count ≤ sizes.hashes) × (sizes.hash * a.count ≤ room))
    pub called : (w : List Waiting) → NeedCounted (need_of t w s.read_only (heard (state_of s l).their_heads)) (state_of s l).their_heads a
        → (need₀ need₁ : List ℕ) → length need₀ ≡ room
        → need₁ ≡ list_put (puts_of r).need (need_of t w s.read_only (heard (state_of s l).their_heads)) need₀
        → PlanCalled (plan_body bits probes t w (state_of s l) b k) l l' (buffers_of heads₀ need₀ have₀ list₀) (buffers_of heads₁ need₁ have₁ list₁) r
