-- `counts::held::place_from` meets its contract: as many as were passed are before the hash, and the first that isn't is at its place. Assumes nothing.
use Prim.Native.Nat.{◌+◌, ◌*◌, ◌≤◌}
use mathlib.Core.Path.{sym, ◌∙◌}
use native.Mathlib.Omega.{arith}
use lib.ListN.{length}
use Rattle.rules.specs.Hash.{hash_at}
use Rattle.rules.specs.Sizes.{sizes}
use Rattle.table.specs.TableBytes.{row_size}
use Rattle.counts.proofs.WalkLaws.{place_most, row_stands, walked_on, walked_up}
use Rattle.counts.proofs.held.place_from.Goals as goal

pub loop-k-init : goal.loop-k-init
loop-k-init c = c.requires.2

pub overflow_mul-row : goal.overflow_mul-row
overflow_mul-row c = omega (arith, (let it : c.u16_at-row.result * row_size + sizes.hash ≤ length c.args.table.now = row_stands _ _ _ c.requires.0 _ _ c.loop-k-test.true c.u16_at-row.ensures in it))

pub hash_before-requires : goal.hash_before-requires
hash_before-requires c = ((let it : c.u16_at-row.result * row_size + sizes.hash ≤ length c.args.table.now = row_stands _ _ _ c.requires.0 _ _ c.loop-k-test.true c.u16_at-row.ensures in it), c.requires.1)

pub returns-then-not-hash_before : goal.returns-then-not-hash_before
returns-then-not-hash_before c =
    let most = walked_up _ _ _ c.requires.0 _ _ _ c.loop-k-test.true c.u16_at-row.ensures (sym c.hash_before.ensures ∙ c.if-not-hash_before.true) in
    omega (arith, most, c.loop-k.invariant)

pub loop-k-preserved : goal.loop-k-preserved
loop-k-preserved c =
    walked_on _ _ _ c.requires.0 _ _ _ c.loop-k-test.true c.u16_at-row.ensures (sym c.hash_before.ensures ∙ c.if-not-hash_before.false)

pub returns : goal.returns
returns c =
    omega (arith, c.loop-k.invariant, c.loop-k-test.false, place_most _ _ _ c.requires.0 (hash_at c.args.bytes.now c.args.at))
