-- `counts::held::held_at` meets its contract: the row at the hash's place has it, or no row has. Assumes nothing.
use Prim.Native.Nat.{◌+◌, ◌*◌, ◌≤◌}
use mathlib.Core.Path.{◌∙◌}
use native.Mathlib.Omega.{arith}
use lib.ListN.{length}
use Rattle.rules.specs.Sizes.{sizes}
use Rattle.table.specs.TableBytes.{row_size}
use Rattle.counts.proofs.WalkLaws.{row_stands, held_past, held_there}
use Rattle.counts.proofs.held.held_at.Goals as goal

pub returns-then-n-k : goal.returns-then-n-k
returns-then-n-k c =
    held_past _ _ _ c.requires.0 _ _ c.requires.2 c.if-n-k.true

pub u16_at-row-requires : goal.u16_at-row-requires
u16_at-row-requires c =
    omega (arith, c.requires.0.entries, c.if-n-k.false)

pub overflow_mul-row : goal.overflow_mul-row
overflow_mul-row c = omega (arith, (let it : c.u16_at-row.result * row_size + sizes.hash ≤ length c.args.table.now = row_stands _ _ _ c.requires.0 _ _ c.if-n-k.false c.u16_at-row.ensures in it))

pub same_hash-requires : goal.same_hash-requires
same_hash-requires c = ((let it : c.u16_at-row.result * row_size + sizes.hash ≤ length c.args.table.now = row_stands _ _ _ c.requires.0 _ _ c.if-n-k.false c.u16_at-row.ensures in it), c.requires.1)

pub returns : goal.returns
returns c =
    c.same_hash.ensures ∙ held_there _ _ _ c.requires.0 _ _ c.requires.2 _ c.if-n-k.false c.u16_at-row.ensures
