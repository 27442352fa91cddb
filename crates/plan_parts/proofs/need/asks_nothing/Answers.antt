-- `plan_parts::need::asks_nothing` meets its contract: nothing is missing from held heads (HeardLaws). Assumes nothing.
use mathlib.Core.Path.{sym, ◌∙◌}
use Rattle.plan_parts.proofs.HeardLaws.{asked_there, nothing_asked}
use Rattle.plan_parts.proofs.need.asks_nothing.Goals as goal

pub all_held-requires : goal.all_held-requires
all_held-requires c =
    (c.requires.0, asked_there _ c.args.read_only _ _ c.asked_heads-entries.ensures c.requires.1)

pub returns : goal.returns
returns c =
    λ all. nothing_asked _ c.args.read_only _ _ c.asked_heads-entries.ensures _ (sym c.all_held.ensures ∙ all)
