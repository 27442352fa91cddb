-- `plan_parts::body::mark_body` meets its contract: one law for each answer, and what was heard is what can be chosen from. Assumes nothing.
use mathlib.Core.Path.{sym}
use native.Mathlib.Omega.{arith}
use lib.Seq.{length-take-le}
use Rattle.plan_parts.proofs.BodyLaws.{none_chosen, peer_closed, peer_open, no_have_lem, no_need_lem, both_heard, heard_few, heard_records, heard_choosable, blank_heard}
use Rattle.plan_parts.proofs.body.mark_body.Goals as goal

pub returns-then-peer_read_only : goal.returns-then-peer_read_only
returns-then-peer_read_only c = λ sent past. peer_closed _ _ _ _ _ _ _ c.if-peer_read_only.true (none_chosen _ _ _ _ _ _ c.requires.4)

pub returns-in_default : goal.returns-in_default
returns-in_default c =
    λ sent past. peer_open _ _ _ _ _ _ _ c.if-peer_read_only.false (no_have_lem _ _ _ _ _ _ _ _ _ _ _ _ c.in_default.is (none_chosen _ _ _ _ _ _ c.requires.4))

pub returns-in_default-need : goal.returns-in_default-need
returns-in_default-need c =
    λ sent past. peer_open _ _ _ _ _ _ _ c.if-peer_read_only.false
    (no_need_lem _ _ _ _ _ _ _ _ _ _ _ _ _ c.in-Some.is c.in_default-need.is (none_chosen _ _ _ _ _ _ c.requires.4))

pub overflow_mul-kept : goal.overflow_mul-kept
overflow_mul-kept c =
    omega (arith, heard_few _ _ _ _ c.in-Some.is c.requires.1)

pub slice_bounds-kept-end : goal.slice_bounds-kept-end
slice_bounds-kept-end c =
    sym (length-take-le _ _ (heard_records _ _ _ _ c.in-Some.is c.requires.1))

pub body_for-requires : goal.body_for-requires
body_for-requires c = (
  heard_choosable _ _ _ _ c.in-Some.is c.requires.1 _ _ _ c.requires.0 _ _ _ c.in-Some-need.is c.requires.2,
  c.requires.3,
  blank_heard _ _ _ _ _ c.in-Some-need.is c.requires.4,
)

pub returns : goal.returns
returns c =
    λ sent past. peer_open _ _ _ _ _ _ _ c.if-peer_read_only.false
    (both_heard _ _ _ _ _ _ _ _ _ _ _ _ _ _ c.in-Some.is c.in-Some-need.is (c.body_for.ensures sent past))
