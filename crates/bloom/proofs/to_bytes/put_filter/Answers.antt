-- `bloom::to_bytes::put_filter` meets its contract: the parts put one after the other are the filter put at once, and a filter of no entries puts
-- nothing. Assumes nothing.
use Prim.Native.Nat.{◌+◌, ◌≤◌}
use native.Mathlib.Omega.{arith}
use lib.ListN.{length}
use Rattle.leb128.specs.Number.{shortest}
use Rattle.bloom.proofs.Filters.{bytes_length, put_nothing, put_parts}
use Rattle.bloom.proofs.to_bytes.put_filter.Goals as goal

pub returns-then-entries-eq0 : goal.returns-then-entries-eq0
returns-then-entries-eq0 c = put_nothing _ _ _ _ _ _ c.if-entries-eq0.true

pub put_unsigned-at_bits-requires : goal.put_unsigned-at_bits-requires
put_unsigned-at_bits-requires c = omega (
  arith,
  (let it : (let a = c.args in
      a.at + (length (shortest a.entries) + length (shortest a.bits) + length (shortest a.probes) + length a.field.now)
      ≤ length a.out.now) = rw (bytes_length _ _ _ _ c.if-entries-eq0.false) at c.requires in it),
)

pub put_unsigned-at_probes-requires : goal.put_unsigned-at_probes-requires
put_unsigned-at_probes-requires c = omega (
  arith,
  (let it : (let a = c.args in
      a.at + (length (shortest a.entries) + length (shortest a.bits) + length (shortest a.probes) + length a.field.now)
      ≤ length a.out.now) = rw (bytes_length _ _ _ _ c.if-entries-eq0.false) at c.requires in it),
)

pub put_unsigned-at_field-requires : goal.put_unsigned-at_field-requires
put_unsigned-at_field-requires c = omega (
  arith,
  (let it : (let a = c.args in
      a.at + (length (shortest a.entries) + length (shortest a.bits) + length (shortest a.probes) + length a.field.now)
      ≤ length a.out.now) = rw (bytes_length _ _ _ _ c.if-entries-eq0.false) at c.requires in it),
)

pub copy_into-requires : goal.copy_into-requires
copy_into-requires c =
    omega (
      arith,
      (let it : (let a = c.args in
          a.at + (length (shortest a.entries) + length (shortest a.bits) + length (shortest a.probes) + length a.field.now)
          ≤ length a.out.now) = rw (bytes_length _ _ _ _ c.if-entries-eq0.false) at c.requires in it),
    )

pub overflow_add-result : goal.overflow_add-result
overflow_add-result c =
    omega (
      arith,
      (let it : (let a = c.args in
          a.at + (length (shortest a.entries) + length (shortest a.bits) + length (shortest a.probes) + length a.field.now)
          ≤ length a.out.now) = rw (bytes_length _ _ _ _ c.if-entries-eq0.false) at c.requires in it),
    )

pub returns : goal.returns
returns c =
    put_parts _ _ _ _ _ _ _ _ _ _ _ _ _
    c.if-entries-eq0.false
    c.put_unsigned-at_bits.ensures
    c.put_unsigned-at_probes.ensures
    c.put_unsigned-at_field.ensures
    c.copy_into.ensures
