-- `send::to_send::send_needs` meets its contract: one law for each answer (SendCalls), and what has passed the tests is good. Assumes
-- nothing.
use mathlib.Core.Path.{sym, ◌∙◌}
use native.Mathlib.Omega.{arith}
use Rattle.bloom.proofs.HaveLaws.{passed_haves, good_filters}
use Rattle.rules.proofs.Cases.{handed_on}
use Rattle.rules.proofs.Outputs.{refused}
use Rattle.rules.proofs.PassedLaws.{passed_is}
use Rattle.send.proofs.SendCalls.{syncs_inside, send_need, send_many, send_written}
use Rattle.send.proofs.to_send.send_needs.Goals as goal

pub returns-then-not-passed_few : goal.returns-then-not-passed_few
returns-then-not-passed_few c =
    rw (send_many _ _ _ _ _ (sym c.in_ok-count.ensures) (sym c.passed_few.ensures ∙ c.if-not-passed_few.true)) (refused _ _)

pub put_to_send-requires : goal.put_to_send-requires
put_to_send-requires c =
    let haves = passed_haves _ _ c.requires.1 (sym c.passed_few.ensures ∙ c.if-not-passed_few.false) in
    let whole = passed_is _ _ (sym c.in_ok-count.ensures) in
    record {
      rows = c.requires.0;
      filters = good_filters _ _ haves;
      syncs = syncs_inside _ _ haves;
      needs = omega (arith, whole.whole);
      few = omega (arith, whole.few);
    }

pub returns-in_err-count : goal.returns-in_err-count
returns-in_err-count c =
    rw (handed_on c.from_residual.ensures.1, send_need _ _ _ _ _ (sym c.in_err-count.ensures)) (refused _ _)

pub returns : goal.returns
returns c =
    rw (send_written _ _ _ _ _ (sym c.in_ok-count.ensures) (sym c.passed_few.ensures ∙ c.if-not-passed_few.false)) c.put_to_send.ensures
