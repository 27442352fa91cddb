-- Calls of sessions: saved, planning, receiving. 01, How tightly the statements bind.
use Rattle.one_answer.specs.Binds.{Binds}
use Rattle.session_state.specs.contracts.session.Session.new as of-new
use Rattle.session_state.proofs.session.Session.new.Reads as reads-new
use Rattle.session_state.specs.contracts.session.Session.new_read_only as of-new-read-only
use Rattle.session_state.proofs.session.Session.new_read_only.Reads as reads-new-read-only
use Rattle.session_state.specs.contracts.session.Session.restored as of-restored
use Rattle.session_state.proofs.session.Session.restored.Reads as reads-restored
use Rattle.session_state.specs.contracts.session.Session.set_read_only as of-set-read-only
use Rattle.session_state.proofs.session.Session.set_read_only.Reads as reads-set-read-only
use Rattle.session_state.specs.contracts.session.heard_count as of-heard-count
use Rattle.session_state.proofs.session.heard_count.Reads as reads-heard-count
use Rattle.session_check.specs.contracts.good.haves_good as of-haves-good
use Rattle.session_check.proofs.good.haves_good.Reads as reads-haves-good
use Rattle.session_check.specs.contracts.good.session_good as of-session-good
use Rattle.session_check.proofs.good.session_good.Reads as reads-session-good
use Rattle.session_check.specs.contracts.list.list_good as of-list-good
use Rattle.session_check.proofs.list.list_good.Reads as reads-list-good
use Rattle.session_check.specs.contracts.list.heard_good as of-heard-good
use Rattle.session_check.proofs.list.heard_good.Reads as reads-heard-good
use Rattle.session_check.specs.contracts.list.sent_good as of-sent-good
use Rattle.session_check.proofs.list.sent_good.Reads as reads-sent-good
use Rattle.session_saved.specs.contracts.saved.encode as of-saved-encode
use Rattle.session_saved.proofs.saved.encode.Reads as reads-saved-encode
use Rattle.session_saved.specs.contracts.saved.parse as of-saved-parse
use Rattle.session_saved.proofs.saved.parse.Reads as reads-saved-parse
use Rattle.session_saved.specs.contracts.saved.decode as of-saved-decode
use Rattle.session_saved.proofs.saved.decode.Reads as reads-saved-decode
use Rattle.plan.specs.contracts.plan.generate_sync_message as of-generate-sync-message
use Rattle.plan.proofs.plan.generate_sync_message.Reads as reads-generate-sync-message
use Rattle.plan_count.specs.contracts.carried.nothing_goes as of-nothing-goes
use Rattle.plan_count.proofs.carried.nothing_goes.Reads as reads-nothing-goes
use Rattle.receive.specs.contracts.receive.receive_sync_message as of-receive-sync-message
use Rattle.receive.proofs.receive.receive_sync_message.Reads as reads-receive-sync-message
use Rattle.plan_parts.specs.contracts.silence.heard_none as of-heard-none
use Rattle.plan_parts.proofs.silence.heard_none.Reads as reads-heard-none
use Rattle.plan_parts.specs.contracts.silence.is_silent as of-is-silent
use Rattle.plan_parts.proofs.silence.is_silent.Reads as reads-is-silent
use Rattle.plan_decide.specs.contracts.puts.puts_of as of-puts-of
use Rattle.plan_decide.proofs.puts.puts_of.Reads as reads-puts-of
use Rattle.plan_offer.specs.contracts.offer.offer as of-offer
use Rattle.plan_offer.proofs.offer.offer.Reads as reads-offer
use Rattle.receive_parts.specs.contracts.flags.take_flags as of-take-flags
use Rattle.receive_parts.proofs.flags.take_flags.Reads as reads-take-flags
use Rattle.receive_decide.specs.contracts.decide.taken as of-taken
use Rattle.receive_decide.proofs.decide.taken.Reads as reads-taken
use Rattle.receive_make.specs.contracts.check.check_receive as of-check-receive
use Rattle.receive_make.proofs.check.check_receive.Reads as reads-check-receive
use Rattle.receive_make.specs.contracts.make.loads_changes as of-loads-changes
use Rattle.receive_make.proofs.make.loads_changes.Reads as reads-loads-changes
use Rattle.receive_make.specs.contracts.make.load_failed as of-load-failed
use Rattle.receive_make.proofs.make.load_failed.Reads as reads-load-failed
use Rattle.receive_make.specs.contracts.make.kept_hashes as of-kept-hashes
use Rattle.receive_make.proofs.make.kept_hashes.Reads as reads-kept-hashes

-- Sessions: their struct, saved states, and the parts of planning and receiving that require nothing.
pub record SessionsBind : Type 0 where
  -- the crate session_state
  pub new : Binds of-new.ended reads-new.Post
  pub new_read_only : Binds of-new-read-only.ended reads-new-read-only.Post
  pub restored : Binds of-restored.ended reads-restored.Post
  pub set_read_only : Binds of-set-read-only.ended reads-set-read-only.Post
  pub heard_count : Binds of-heard-count.ended reads-heard-count.Post
  -- the crate session_check
  pub haves_good : Binds of-haves-good.ended reads-haves-good.Post
  pub session_good : Binds of-session-good.ended reads-session-good.Post
  pub list_good : Binds of-list-good.ended reads-list-good.Post
  pub heard_good : Binds of-heard-good.ended reads-heard-good.Post
  pub sent_good : Binds of-sent-good.ended reads-sent-good.Post
  -- the crate session_saved
  pub saved_encode : Binds of-saved-encode.ended reads-saved-encode.Post
  pub saved_parse : Binds of-saved-parse.ended reads-saved-parse.Post
  pub saved_decode : Binds of-saved-decode.ended reads-saved-decode.Post
  -- the crate plan
  pub generate_sync_message : Binds of-generate-sync-message.ended reads-generate-sync-message.Post
  -- the crate plan_offer
  pub offer : Binds of-offer.ended reads-offer.Post
  -- the crate receive
  pub receive_sync_message : Binds of-receive-sync-message.ended reads-receive-sync-message.Post
  -- the crate plan_parts
  pub heard_none : Binds of-heard-none.ended reads-heard-none.Post
  pub is_silent : Binds of-is-silent.ended reads-is-silent.Post
  -- the crate plan_count
  pub nothing_goes : Binds of-nothing-goes.ended reads-nothing-goes.Post
  -- the crate plan_decide
  pub puts_of : Binds of-puts-of.ended reads-puts-of.Post
  -- the crate receive_parts
  pub take_flags : Binds of-take-flags.ended reads-take-flags.Post
  -- the crate receive_decide
  pub taken : Binds of-taken.ended reads-taken.Post
  -- the crate receive_make
  pub check_receive : Binds of-check-receive.ended reads-check-receive.Post
  pub loads_changes : Binds of-loads-changes.ended reads-loads-changes.Post
  pub load_failed : Binds of-load-failed.ended reads-load-failed.Post
  pub kept_hashes : Binds of-kept-hashes.ended reads-kept-hashes.Post
