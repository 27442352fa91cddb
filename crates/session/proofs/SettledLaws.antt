-- A plan with a pair that is passed, and one with a setting of a list: each is the plan with that pair. 02, M-107; with a pick that is passed as bytes, M-110.
-- Assumes nothing.
use Prim.Native.Nat.{ℕ}
use mathlib.Core.List.{List}
use mathlib.Core.Path.{◌≡◌}
use Rattle.bloom.proofs.Rules.{keeps_setting}
use Rattle.bloom.specs.Filter.{SettingGood}
use Rattle.rules.specs.Hash.{hashes_at}
use Rattle.rules.specs.Passed.{passed_hashes, after_passed}
use Rattle.session.specs.Plan.{plan_picked}
use Rattle.session.specs.PlanCall.{plan_after, plan_with, plan_passed, plan_by, plan_settled, plan_picked_by, plan_picked_settled}
use Rattle.session_state.specs.Value.{Lent, state_of}
use Rattle.session_state.specs.declared.session.Session.{Session}
use Rattle.settings.specs.Settings.{setting_for}
use Rattle.settings.specs.declared.choice.Choice.{Choice}
use Rattle.table.specs.TableBytes.{table_of}
use Rattle.waiting.specs.WaitingBytes.{waiting_of}
use Rattle.std.specs.Prelude.{Ok}

pub passed_keeps : (bits probes : ℕ) → SettingGood bits probes → (s : Session) (l : Lent) (table index waiting : List ℕ)
    → plan_passed bits probes s l table index waiting ≡ plan_with bits probes s l table index waiting
unfolding plan_passed
passed_keeps bits probes good s l table index waiting = rw (keeps_setting bits probes good)

pub settled_plans : (settings : List ℕ) (station version : ℕ) (c : Choice) → setting_for settings station version ≡ Ok c
    → (s : Session) (l : Lent) (table index waiting : List ℕ)
    → plan_settled settings station version s l table index waiting ≡ plan_with c.bits c.probes s l table index waiting
unfolding plan_by
settled_plans settings station version c e s l table index waiting = rw e

-- with a setting of a list and with a pick of whole hashes: the plan with that pair and that pick
pub picked_plans : (settings : List ℕ) (station version : ℕ) (c : Choice) → setting_for settings station version ≡ Ok c
    → (rowSizes : List ℕ) (budget : ℕ) (pick : List ℕ) (n : ℕ) → passed_hashes pick ≡ Ok n
    → (s : Session) (l : Lent) (table index waiting : List ℕ)
    → plan_picked_settled settings station version rowSizes budget pick s l table index waiting
    ≡ plan_after s l table index waiting
    (plan_picked c.bits c.probes rowSizes budget (table_of table) (waiting_of waiting) (state_of s l) (hashes_at pick 0 n))
unfolding plan_picked_by after_passed
picked_plans settings station version c e rowSizes budget pick n f s l table index waiting = rw (e, f)
