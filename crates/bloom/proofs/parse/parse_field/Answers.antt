-- `bloom::parse::parse_field` meets its contract: one case of `field_at` for each answer. Assumes nothing.
use mathlib.Core.Path.{sym}
use native.Mathlib.Omega.{arith}
use Rattle.wire.proofs.Item.{left_is}
use Rattle.bloom.proofs.Filters.{field_none, field_no_bits, field_probes, field_large, field_cut, field_read}
use Rattle.bloom.proofs.parse.parse_field.Goals as goal

pub returns-then-entries-eq0 : goal.returns-then-entries-eq0
returns-then-entries-eq0 c = sym (field_none _ _ _ _ _ _ _ c.if-entries-eq0.true)

pub returns-then-bits-eq0 : goal.returns-then-bits-eq0
returns-then-bits-eq0 c = sym (field_no_bits _ _ _ _ _ _ _ c.if-entries-eq0.false c.if-bits-eq0.true)

pub returns-then-probes : goal.returns-then-probes
returns-then-probes c = sym (field_probes _ _ _ _ _ _ _ c.if-entries-eq0.false c.if-bits-eq0.false c.if-probes.true)

pub returns-then-size-gt-FIELD_SIZE : goal.returns-then-size-gt-FIELD_SIZE
returns-then-size-gt-FIELD_SIZE c =
    sym
    (field_large _ _ _ _ _ _ _ c.if-entries-eq0.false c.if-bits-eq0.false c.if-probes.false
    (rw c.bits_capacity-size.ensures at c.if-size-gt-FIELD_SIZE.true))

pub returns-then-left-size : goal.returns-then-left-size
returns-then-left-size c =
    sym
    (field_cut _ _ _ _ _ _ _ c.if-entries-eq0.false c.if-bits-eq0.false c.if-probes.false
    (rw c.bits_capacity-size.ensures at c.if-size-gt-FIELD_SIZE.false)
    (rw (c.left.ensures, c.bits_capacity-size.ensures) at c.if-left-size.true))

pub overflow_add-next : goal.overflow_add-next
overflow_add-next c =
    let a = c.args in
    omega (arith, left_is a.bytes.now a.place a.end, c.left.ensures, c.ranges.place.fits, c.if-left-size.false)

pub returns : goal.returns
returns c =
    rw c.bits_capacity-size.ensures
    (sym
    (field_read _ _ _ _ _ _ _ c.if-entries-eq0.false c.if-bits-eq0.false c.if-probes.false
    (rw c.bits_capacity-size.ensures at c.if-size-gt-FIELD_SIZE.false)
    (rw (c.left.ensures, c.bits_capacity-size.ensures) at c.if-left-size.false)))
