-- `plan_parts::need::find_need` meets its contract: what is missing from the heads that are asked for is the need. Assumes nothing.
use mathlib.Core.Path.{refl, ◌∙◌}
use Rattle.plan_parts.proofs.HeardLaws.{asked_there, asked_few, need_found}
use Rattle.plan_parts.proofs.need.find_need.Goals as goal

pub find_in_order-found-requires : goal.find_in_order-found-requires
find_in_order-found-requires c = (
  c.requires.0,
  c.requires.1,
  c.requires.2,
  asked_there _ c.args.read_only _ _ c.asked_heads-entries.ensures c.requires.3,
  asked_few _ c.args.read_only _ _ c.asked_heads-entries.ensures c.requires.3,
)

pub returns : goal.returns
returns c =
    let long = c.find_in_order-found.auto.refs ∙ c.requires.4 in
    need_found _ _ _ _ c.asked_heads-entries.ensures _ _ _ _ _ _ long c.find_in_order-found.ensures refl
