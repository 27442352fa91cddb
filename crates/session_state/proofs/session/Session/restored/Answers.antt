-- `session_state::session::Session::restored` meets its contract: a session that heard haves only, with its shared heads. Assumes nothing.
use Rattle.session_state.proofs.session.Session.restored.Goals as goal

pub returns : goal.returns
returns c = rw c.heard_only-s.ensures
