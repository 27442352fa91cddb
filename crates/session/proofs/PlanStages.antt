-- The stages of planning from the second on, each as what is left of the definition: so what holds of a plan is shown stage by stage. Assumes nothing.
use Prim.Native.Nat.{ℕ}
use mathlib.Core.Bool.{cond, ◌&&◌}
use mathlib.Core.List.{List}
use lib.Dec.{ltb}
use lib.ListN.{length}
use Rattle.rules.specs.Sizes.{sizes}
use Rattle.rules.specs.declared.refusal.Refusal.TheVariants.{PastSize}
use Rattle.session_state.specs.Session.{State}
use Rattle.table.specs.Table.{Row}
use Rattle.waiting.specs.Waiting.{Waiting}
use Rattle.session.specs.Plan.{Body, Planned, unknown_sync, empty, silence, sent_after, plan_of, planned, reset_of, is_fine, unless_broken}
use Rattle.std.specs.Prelude.{Result}

-- 4 for the sent hashes, then 17 or the message.
abbrev pub from_sent : ℕ → ℕ → List Row → List Waiting → State → Body → Result Unit ℕ → Planned
from_sent bits probes t w s b c =
    cond (ltb sizes.sent_hashes (length (sent_after s b)))
    (Planned.refused (PastSize 0))
    (unless_broken c (Planned.says (plan_of bits probes t w s b) (planned t s b)))

-- Silence, then that.
abbrev pub from_silence : ℕ → ℕ → List Row → List Waiting → State → Body → Result Unit ℕ → Planned
from_silence bits probes t w s b c = cond (silence t s (is_fine c && empty b.hashes)) Planned.silent (from_sent bits probes t w s b c)

-- A reset, then that.
abbrev pub from_reset : ℕ → ℕ → List Row → List Waiting → State → Body → Result Unit ℕ → Planned
from_reset bits probes t w s b c = cond (unknown_sync t s.their_have) (Planned.reset (reset_of t)) (from_silence bits probes t w s b c)
