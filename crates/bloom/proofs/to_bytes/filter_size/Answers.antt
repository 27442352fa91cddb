-- `bloom::to_bytes::filter_size` meets its contract: a filter's bytes are its three numbers and its field. Assumes nothing.
use Prim.Native.Nat.{ℕ, ◌+◌, ◌≤◌}
use mathlib.Core.List.{List}
use mathlib.Core.Path.{◌≡◌, sym, ap}
use native.Mathlib.Omega.{arith}
use lib.ListN.{length}
use Rattle.leb128.specs.Number.{shortest}
use Rattle.leb128.proofs.Number.{shortest_ten}
use Rattle.bloom.specs.Filter.{filter_of4, filter_bytes}
use Rattle.bloom.proofs.Filters.{no_bytes, bytes_length}
use Rattle.bloom.proofs.to_bytes.filter_size.Goals as goal

sum : (n b p x y z : ℕ) (field : List ℕ) → (n ≡ 0 → ⊥) → x ≡ length (shortest n) → y ≡ length (shortest b) → z ≡ length (shortest p)
    → x + y + z + length field ≡ length (filter_bytes (filter_of4 n b p field))
sum n b p x y z field some e f g = omega (arith, bytes_length n b p field some)

pub returns-then-entries-eq0 : goal.returns-then-entries-eq0
returns-then-entries-eq0 c = sym (ap length (no_bytes _ _ _ _ c.if-entries-eq0.true))

pub overflow_add-result : goal.overflow_add-result
overflow_add-result c = omega (
  arith,
  (let it : c.unsigned_size.result + c.unsigned_size-2.result ≤ 20 = omega (
    arith,
    shortest_ten c.args.entries c.ranges.entries.fits,
    shortest_ten c.args.bits c.ranges.bits.fits,
    c.unsigned_size.ensures,
    c.unsigned_size-2.ensures,
  ) in it),
)

pub overflow_add-result-2 : goal.overflow_add-result-2
overflow_add-result-2 c = omega (
  arith,
  (let it : c.unsigned_size.result + c.unsigned_size-2.result + c.unsigned_size-3.result ≤ 30 = omega (
    arith,
    (let it : c.unsigned_size.result + c.unsigned_size-2.result ≤ 20 = omega (
      arith,
      shortest_ten c.args.entries c.ranges.entries.fits,
      shortest_ten c.args.bits c.ranges.bits.fits,
      c.unsigned_size.ensures,
      c.unsigned_size-2.ensures,
    ) in it),
    shortest_ten c.args.probes c.ranges.probes.fits,
    c.unsigned_size-3.ensures,
  ) in it),
)

pub overflow_add-result-3 : goal.overflow_add-result-3
overflow_add-result-3 c = omega (
  arith,
  (let it : c.unsigned_size.result + c.unsigned_size-2.result + c.unsigned_size-3.result ≤ 30 = omega (
    arith,
    (let it : c.unsigned_size.result + c.unsigned_size-2.result ≤ 20 = omega (
      arith,
      shortest_ten c.args.entries c.ranges.entries.fits,
      shortest_ten c.args.bits c.ranges.bits.fits,
      c.unsigned_size.ensures,
      c.unsigned_size-2.ensures,
    ) in it),
    shortest_ten c.args.probes c.ranges.probes.fits,
    c.unsigned_size-3.ensures,
  ) in it),
)

pub returns : goal.returns
returns c =
    sum _ _ _ _ _ _ _ c.if-entries-eq0.false c.unsigned_size.ensures c.unsigned_size-2.ensures c.unsigned_size-3.ensures
