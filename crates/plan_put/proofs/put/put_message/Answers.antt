-- `plan_put::put::put_message` meets its contract: each part is put as it is counted. Assumes nothing.
use Rattle.plan_put.proofs.put.put_message.Goals as goal

pub put_body-requires : goal.put_body-requires
put_body-requires c =
    (c.requires.rows.rows, c.requires.row_long, c.requires.asks, c.requires.need_long, c.requires.list)
