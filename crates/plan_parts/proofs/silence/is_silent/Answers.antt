-- `plan_parts::silence::is_silent` meets its contract: one law for each test (TestLaws). Assumes nothing.
use Rattle.plan_parts.proofs.TestLaws.{quiet_untold, quiet_waiting, quiet_not, quiet_equal, quiet_decides}
use Rattle.plan_parts.proofs.silence.is_silent.Goals as goal

pub returns-then-not-told : goal.returns-then-not-told
returns-then-not-told c =
    quiet_untold c.args.told c.args.equal c.args.read_only c.args.nothing c.args.in_flight c.if-not-told.true

pub returns-then-in_flight : goal.returns-then-in_flight
returns-then-in_flight c =
    quiet_waiting c.args.told c.args.equal c.args.read_only c.args.nothing c.args.in_flight c.if-not-told.false c.if-in_flight.true

pub returns-then-not-nothing : goal.returns-then-not-nothing
returns-then-not-nothing c =
    quiet_not c.args.told c.args.equal c.args.read_only c.args.nothing c.args.in_flight c.if-not-told.false c.if-in_flight.false c.if-not-nothing.true

pub returns-then-equal : goal.returns-then-equal
returns-then-equal c =
    quiet_equal c.args.told c.args.equal c.args.read_only c.args.nothing c.args.in_flight c.if-not-told.false c.if-in_flight.false c.if-not-nothing.false
    c.if-equal.true

pub returns : goal.returns
returns c =
    quiet_decides c.args.told c.args.equal c.args.read_only c.args.nothing c.args.in_flight c.if-not-told.false c.if-in_flight.false c.if-not-nothing.false
    c.if-equal.false
