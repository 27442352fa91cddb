-- `session_state::session::Session::new` meets its contract: nothing was heard. Assumes nothing.
use Rattle.session_state.proofs.session.Session.new.Goals as goal

pub returns : goal.returns
returns c = c.heard_only.ensures
