-- What internal contracts speak of: the tests before planning, and what is planned behind them. No rule of 01 stands here.
use Rattle.std.specs.Prelude.{ℕ, cond, not, List, ◌≡◌, Result, Ok, Err}
use Rattle.table_index.specs.Index.{index_checked}
use Rattle.session_check.specs.SessionGood.{session_good}
use Rattle.bloom.specs.Filter.{SettingGood}
use Rattle.rules.specs.declared.refusal.Refusal.TheVariants.{BadNumbers}
use Rattle.pick.specs.declared.radio.Radio.{Radio}
use Rattle.plan_count.specs.Internal.PlanCount.{going_of, found_of}
use Rattle.rules.specs.Hash.{hashes_at}
use Rattle.rules.specs.Passed.{passed_hashes, after_passed}
use Rattle.session.specs.Plan.{Planned, body_of, plan_body}
use Rattle.session_state.specs.Session.{State}
use Rattle.session_state.specs.Value.{Lent}
use Rattle.session_state.specs.declared.session.Session.{Session}
use Rattle.settings.specs.declared.choice.Choice.{Choice}
use Rattle.table.specs.TableBytes.{table_of}
use Rattle.table.specs.Table.{Row}
use Rattle.waiting.specs.Waiting.{Waiting}
use Rattle.waiting.specs.WaitingBytes.{waiting_checked, Sorted}
use Rattle.rules.specs.declared.refusal.Refusal.{Refusal}

-- The rows of both tables, or the first refusal: 10, then 4 and 6, then 12, then 4 and 9.
unfoldable pub beside_checked : ℕ → Result ℕ Refusal → Result (ℕ × ℕ) Refusal
beside_checked n (Ok m) = Ok (n, m)
beside_checked n (Err r) = Err r

-- After the change table and its index: the waiting table.
unfoldable pub beside_table : Result ℕ Refusal → List Row → List ℕ → Result (ℕ × ℕ) Refusal
beside_table (Ok n) t waiting = beside_checked n (waiting_checked t waiting)
beside_table (Err r) t waiting = Err r

-- All of it, 10 first.
unfoldable pub checked_plan : Session → Lent → List ℕ → List ℕ → List ℕ → Result (ℕ × ℕ) Refusal
checked_plan s l table index waiting =
    cond (not (session_good s l)) (Err BadNumbers) (beside_table (index_checked table index) (table_of table) waiting)

-- What the tests find, and where they find nothing bad the order of the waiting rows.
pub record ChecksMade (s : Session) (l : Lent) (table index waiting order : List ℕ) (r : Result (ℕ × ℕ) Refusal) : Type 0 where
  pub answer : r ≡ checked_plan s l table index waiting
  pub sorted : (n m : ℕ) → r ≡ Ok (n, m) → Sorted waiting order m

-- Where a setting was answered, filters with it keep the filter rules.
pub record AnswerGood (a : Result Choice Refusal) : Type 0 where
  pub each : (c : Choice) → a ≡ Ok c → SettingGood c.bits c.probes

-- What is planned by a setting that was answered and with a pick that is passed, once session and tables are found good. Where no radio is limited all
-- goes, and nothing is passed.
unfoldable pub plan_over : Result Choice Refusal → Radio → List ℕ → List ℕ → List Row → List Waiting → State → Planned
plan_over (Ok c) r rowSizes pick t w s =
    after_passed (passed_hashes pick) Planned.refused
    (λ k. plan_body c.bits c.probes t w s (going_of r (body_of t s) (hashes_at pick 0 k)) (found_of r t (body_of t s) rowSizes (hashes_at pick 0 k)))
plan_over (Err x) r rowSizes pick t w s = Planned.refused x
