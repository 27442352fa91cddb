-- `plan_put::put::put_have` meets its contract: the field goes behind the hashes. Assumes nothing.
use Rattle.plan_put.proofs.put.put_have.Goals as goal

pub returns : goal.returns
returns c =
    rw c.put_hashes.ensures at c.put_field.ensures
