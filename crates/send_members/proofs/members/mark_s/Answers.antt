-- `send_members::members::mark_s` meets its contract: the marks of the rows before row i are final, and the equation of S then says whether row i
-- joins (MemberLaws). Assumes nothing.
use mathlib.Core.Bool.{false}
use native.Mathlib.Omega.{arith}
use lib.ListN.{length-replicate}
use Rattle.rules.specs.Sizes.{sizes}
use Rattle.table.proofs.GoodLaws.{good_part}
use Rattle.table_graph.proofs.MarkLaws.{blank}
use Rattle.send_members.proofs.MemberLaws.{joins_on, joins_done}
use Rattle.send_members.proofs.members.mark_s.Goals as goal

pub mark_synced-requires : goal.mark_synced-requires
mark_synced-requires c =
    (c.requires.0, c.requires.2, omega (arith, length-replicate sizes.rows false, c.requires.0.rows.few), blank _ _ c.requires.0.rows.few)

pub is_member-here-requires : goal.is_member-here-requires
is_member-here-requires c = (
  good_part _ _ _ c.requires.0.rows (omega (arith, c.loop-i-test.true)),
  omega (arith, c.loop-i-test.true, c.requires.3, c.loop-i.auto.members),
  c.requires.1,
)

pub loop-i-preserved : goal.loop-i-preserved
loop-i-preserved c =
    joins_on _ _ _ _ c.requires.0.rows _ c.loop-i-test.true _ _ _ _ (omega (arith, c.loop-i-test.true, c.requires.3, c.loop-i.auto.members)) c.mark_synced.ensures
    c.loop-i.invariant
    c.is_member-here.ensures

pub returns : goal.returns
returns c =
    joins_done _ _ _ _ c.requires.0.rows _ c.loop-i-test.false _ _ c.loop-i.invariant
