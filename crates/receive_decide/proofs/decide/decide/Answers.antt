-- `receive_decide::decide::decide` meets its contract: one way out for each refusal, in their order. Assumes nothing.
use borrow.Author.Rules.{rules}
use Rattle.rules.proofs.Cases.{handed_on}
use Rattle.rules.specs.declared.refusal.Refusal.TheVariants.{NoRoom}
use Rattle.session.proofs.MappedLaws.{mapped_ok, mapped_err}
use Rattle.receive_decide.proofs.DecideLaws.{is_failed, is_past, is_short, is-taken}
use Rattle.receive_decide.proofs.decide.decide.Goals as goal

pub returns-then-failed : goal.returns-then-failed
returns-then-failed c = is_failed _ _ _ _ c.if-failed.true

pub returns-then-d-gt-HASHES : goal.returns-then-d-gt-HASHES
returns-then-d-gt-HASHES c = is_past _ _ _ _ (search rules) c.if-d-gt-HASHES.true

pub returns-in_err-map_err : goal.returns-in_err-map_err
returns-in_err-map_err c =
    let w = mapped_err NoRoom _ c.in_err-map_err.ensures.cases in
    rw (handed_on c.from_residual.ensures.1, w.refusal)
    (is_short _ _ _ _ c.if-failed.false c.if-d-gt-HASHES.false _ c.counts_room.ensures _ w.is)

pub returns : goal.returns
returns c =
    is-taken _ _ _ _ c.if-failed.false c.if-d-gt-HASHES.false _ c.counts_room.ensures _
    (mapped_ok NoRoom _ c.in_ok-map_err.ensures.cases) c.received_session.ensures
