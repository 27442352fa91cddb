-- `plan_decide::decide::stated` meets its contract, part by part. Assumes nothing.
use Rattle.plan_decide.proofs.DecideLaws.{drafted_is}
use Rattle.plan_decide.proofs.decide.stated.Goals as goal

pub returns : goal.returns
returns c =
    drafted_is c.args.session c.args.d c.args.bits c.args.probes c.version_for.ensures c.tells_reset.ensures c.flags_for.ensures
    c.heads_for.ensures c.count_if.ensures c.count_if-2.ensures c.filter_for.ensures
