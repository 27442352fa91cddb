-- `wire::encode::encode` meets its contract: the count and the bytes put after it are both put at once. Assumes nothing.
use Prim.Native.Nat.{ℕ, ◌+◌}
use mathlib.Core.List.{List, ◌++◌}
use mathlib.Core.Path.{◌≡◌, ap, ◌∙◌}
use native.Mathlib.Omega.{arith}
use lib.ListN.{length, length-append}
use Rattle.rules.proofs.Outputs.{written_bytes, no_room}
use Rattle.leb128.specs.Number.{shortest}
use Rattle.leb128.proofs.Number.{shortest_ten, put_then}
use Rattle.wire.proofs.encode.encode.Goals as goal

joined : (size : ℕ) (a b : List ℕ) → size ≡ length a → size + length b ≡ length (a ++ b)
joined size a b e = simp length-append (ap (λ (k : ℕ). k + length b) e)

pub overflow_add-size : goal.overflow_add-size
overflow_add-size c = omega (arith, shortest_ten c.args.count c.ranges.count.fits, c.unsigned_size.ensures)

pub returns-then-out-size : goal.returns-then-out-size
returns-then-out-size c =
    let a = c.args in
    no_room _ _ _ (joined _ (shortest a.count) a.bytes.now c.unsigned_size.ensures) c.if-out-size.true

pub returns : goal.returns
returns c =
    let copy = c.copy_into in
    let a = c.args in
    written_bytes _ _ _ _ (joined _ (shortest a.count) a.bytes.now c.unsigned_size.ensures) c.if-out-size.false
    (copy.ensures ∙ put_then _ _ a.bytes.now _ _ (shortest a.count) c.put_unsigned-at.ensures)
