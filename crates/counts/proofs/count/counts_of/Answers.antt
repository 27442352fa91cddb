-- `counts::count::counts_of` meets its contract: the rows tested, and the set bits of the field, which stands inside its bytes. Assumes nothing.
use Prim.Native.Nat.{◌+◌, ◌≤◌}
use native.Mathlib.Omega.{arith}
use lib.ListN.{length}
use Rattle.rules.specs.Sizes.{sizes}
use Rattle.counts.proofs.CountLaws.{field_inside, field_few, part_few, counts_made}
use Rattle.counts.proofs.count.counts_of.Goals as goal

pub overflow_add-end : goal.overflow_add-end
overflow_add-end c = let z = (let it : (c.args.filter.place + c.args.filter.size ≤ length c.args.bytes.now) × (c.args.filter.size ≤ sizes.field) = (field_inside _ _ c.requires.2, field_few _ _ c.requires.2) in it) in omega (arith, z.0, z.1)

pub overflow_mul-result : goal.overflow_mul-result
overflow_mul-result c = let z = (let it : (c.args.filter.place + c.args.filter.size ≤ length c.args.bytes.now) × (c.args.filter.size ≤ sizes.field) = (field_inside _ _ c.requires.2, field_few _ _ c.requires.2) in it) in omega (arith, z.1)

pub slice_bounds-set_bits-end : goal.slice_bounds-set_bits-end
slice_bounds-set_bits-end c = let z = (let it : (c.args.filter.place + c.args.filter.size ≤ length c.args.bytes.now) × (c.args.filter.size ≤ sizes.field) = (field_inside _ _ c.requires.2, field_few _ _ c.requires.2) in it) in omega (arith, z.0)

pub set_bits-requires : goal.set_bits-requires
set_bits-requires c = part_few _ _ c.requires.2

pub returns : goal.returns
returns c =
    counts_made _ _ _ _ _ _ c.requires.2 c.test_outside-tested.ensures c.set_bits.ensures
