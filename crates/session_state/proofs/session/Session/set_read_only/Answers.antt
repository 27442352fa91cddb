-- `session_state::session::Session::set_read_only` meets its contract: one law for each way through the two tests. Assumes nothing.
use mathlib.Core.Path.{sym}
use Rattle.session_state.proofs.CountsLaws.{counts_same, counts_on, counts_off}
use Rattle.session_state.proofs.session.Session.set_read_only.Goals as goal

pub returns-then-was : goal.returns-then-was
returns-then-was c = rw c.if-read_only.true (sym (counts_same _ _ c.if-was.true))

pub returns-then-read_only : goal.returns-then-read_only
returns-then-read_only c = rw c.if-read_only.true (sym (counts_on _ c.if-was.false))

pub returns-then-was-2 : goal.returns-then-was-2
returns-then-was-2 c = rw (c.new-off.ensures, c.if-read_only.false) (sym (counts_off _ c.if-was-2.true))

pub returns : goal.returns
returns c = rw c.if-read_only.false (sym (counts_same _ _ c.if-was-2.false))
