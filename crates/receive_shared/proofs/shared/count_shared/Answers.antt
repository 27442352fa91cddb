-- `receive_shared::shared::count_shared` meets its contract: one law for each way through the two tests (SharedLaws). Assumes nothing.
use Rattle.receive_shared.proofs.SharedLaws.{all_counted, counted_same, is_held, is_advanced, is_joined}
use Rattle.receive_shared.proofs.shared.count_shared.Goals as goal

pub returns-then-all : goal.returns-then-all
returns-then-all c = counted_same _ _ _ (is_held _ c.args.loads _ _ _ _ c.if-all.true) (all_counted _ _ _)

pub returns-then-loads : goal.returns-then-loads
returns-then-loads c = counted_same _ _ _ (is_advanced _ _ _ _ _ _ c.if-all.false c.if-loads.true) c.count_advanced.ensures

pub returns : goal.returns
returns c = counted_same _ _ _ (is_joined _ _ c.args.before _ _ _ c.if-all.false c.if-loads.false) c.count_joined.ensures
