-- `bloom::parse::parse_numbers` meets its contract: one case of `numbers_at` for each answer. A number that was read is a filter number, which is
-- what the field asks. Assumes nothing.
use mathlib.Core.Path.{sym}
use Rattle.rules.specs.Hash.{Bytes}
use Rattle.rules.proofs.Cases.{handed_on}
use Rattle.leb128.proofs.Meaning.{number_most}
use Rattle.bloom.proofs.Filters.{numbers_first, numbers_second, numbers_third, numbers_read}
use Rattle.bloom.proofs.parse.parse_numbers.Goals as goal

pub returns-in_err-entries : goal.returns-in_err-entries
returns-in_err-entries c = rw (handed_on c.from_residual.ensures.1) (sym (numbers_first _ _ _ _ (sym c.in_err-entries.ensures)))

pub returns-in_err-bits : goal.returns-in_err-bits
returns-in_err-bits c =
    rw (handed_on c.from_residual-in_err-bits.ensures.1)
    (sym (numbers_second _ _ _ _ _ (sym c.in_ok-entries.ensures) _ (sym c.in_err-bits.ensures)))

pub returns-in_err-probes : goal.returns-in_err-probes
returns-in_err-probes c =
    rw (handed_on c.from_residual-in_err-probes.ensures.1)
    (sym (numbers_third _ _ _ _ _ (sym c.in_ok-entries.ensures) _ _ (sym c.in_ok-bits.ensures) _ (sym c.in_err-probes.ensures)))

pub parse_field-requires : goal.parse_field-requires
parse_field-requires c =
    let all : Bytes c.args.bytes.now = λ i. (c.type_inv.bytes i).fits in (
      number_most _ _ _ _ _ _ all (sym c.in_ok-entries.ensures),
      number_most _ _ _ _ _ _ all (sym c.in_ok-bits.ensures),
    )

pub returns : goal.returns
returns c =
    rw (numbers_read _ _ _ _ _ (sym c.in_ok-entries.ensures) _ _ (sym c.in_ok-bits.ensures) _ _ (sym c.in_ok-probes.ensures))
    c.parse_field.ensures
