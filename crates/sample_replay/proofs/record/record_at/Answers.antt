-- `sample_replay::record::record_at` meets its contract: one case of `record_at` for each answer. Assumes nothing.
use mathlib.Core.Path.{sym, ◌∙◌}
use native.Mathlib.Omega.{arith}
use Rattle.std.specs.Prelude.{◌+◌}
use Rattle.sample_replay.proofs.Records.{u16_fits, header_cut, unknown, input_cut, known}
use Rattle.sample_replay.proofs.record.record_at.Goals as goal

pub returns-then-bytes-at-lt-INPUT_PLACE : goal.returns-then-bytes-at-lt-INPUT_PLACE
returns-then-bytes-at-lt-INPUT_PLACE c = header_cut _ _ c.if-bytes-at-lt-INPUT_PLACE.true

pub returns-in_err-kind : goal.returns-in_err-kind
returns-in_err-kind c =
    rw c.from_residual.ensures
    (unknown _ _ c.if-bytes-at-lt-INPUT_PLACE.false _ c.try_from.ensures (sym c.in_err-kind.was ∙ c.ok.ensures.value))

pub overflow_add-next : goal.overflow_add-next
overflow_add-next c = omega (arith, c.u16_at.ensures, u16_fits c.args.bytes.now (c.args.at + 1) (λ i. omega (arith, c.type_inv.bytes i)))

pub returns-in_err-input : goal.returns-in_err-input
returns-in_err-input c =
    rw c.from_residual-in_err-input.ensures
    (input_cut _ _ c.if-bytes-at-lt-INPUT_PLACE.false _ c.u16_at.ensures (omega (arith, c.in_err-input.ensures.lookup)))

pub returns : goal.returns
returns c =
    let l = c.in_ok-input.ensures.lookup in
    let j = known _ _ c.if-bytes-at-lt-INPUT_PLACE.false _ c.u16_at.ensures (omega (arith, l.0.1)) _ _ c.try_from.ensures (sym c.in_ok-kind.was ∙ c.ok.ensures.value) in
    rw (c.agreeing-same.ensures, c.words_at-stored.ensures, c.answer_words.ensures, l.0.2) j
