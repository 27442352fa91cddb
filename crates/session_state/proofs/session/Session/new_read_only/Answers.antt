-- `session_state::session::Session::new_read_only` meets its contract: a new session, read-only. Assumes nothing.
use Rattle.session_state.proofs.session.Session.new_read_only.Goals as goal

pub returns : goal.returns
returns c = rw c.new-s.ensures
