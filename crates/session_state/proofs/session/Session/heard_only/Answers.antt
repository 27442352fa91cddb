-- `session_state::session::Session::heard_only` meets its contract: field by field. Assumes nothing.
use mathlib.Core.Path.{refl}
use Rattle.session_state.proofs.session.Session.heard_only.Goals as goal

pub returns : goal.returns
returns c = refl
