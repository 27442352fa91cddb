-- `session_saved::saved::decode` meets its contract: what `parse` found decides, and a list that it found stands inside the state. Assumes nothing.
use mathlib.Core.Path.{sym}
use native.Mathlib.Omega.{arith}
use Rattle.rules.proofs.Cases.{handed_on}
use Rattle.session_saved.proofs.SavedLaws.{state_inside, load_refused, load_short, part_long, load_session}
use Rattle.session_saved.proofs.saved.decode.Goals as goal

pub overflow_mul-wanted : goal.overflow_mul-wanted
overflow_mul-wanted c = omega (arith, (state_inside _ _ _ _ (sym c.in_ok-heads.ensures)).small)

pub returns-then-shared-wanted : goal.returns-then-shared-wanted
returns-then-shared-wanted c = load_short _ _ _ _ _ (sym c.in_ok-heads.ensures) c.if-shared-wanted.true

pub slice_bounds-copy_into-count : goal.slice_bounds-copy_into-count
slice_bounds-copy_into-count c = omega (arith, (state_inside _ _ _ _ (sym c.in_ok-heads.ensures)).whole)

pub slice_bounds-copy_into-start : goal.slice_bounds-copy_into-start
slice_bounds-copy_into-start c = omega (arith, (state_inside _ _ _ _ (sym c.in_ok-heads.ensures)).whole)

pub slice_bounds-copy_into-end : goal.slice_bounds-copy_into-end
slice_bounds-copy_into-end c = omega (arith, (state_inside _ _ _ _ (sym c.in_ok-heads.ensures)).there)

pub copy_into-requires : goal.copy_into-requires
copy_into-requires c =
    omega (arith, part_long _ c.args.shared.now _ _ _ (sym c.in_ok-heads.ensures), c.if-shared-wanted.false)

pub returns : goal.returns
returns c =
    load_session _ _ _ _ _ (sym c.in_ok-heads.ensures) _ c.if-shared-wanted.false c.copy_into.ensures _ c.restored-session.ensures

pub returns-in_err-heads : goal.returns-in_err-heads
returns-in_err-heads c = rw (handed_on c.from_residual.ensures.1) (load_refused _ _ _ (sym c.in_err-heads.ensures))
