-- `bloom::have::inside` meets its contract: a part that is longer than the whole isn't inside it, and else the place decides. Assumes
-- nothing.
use Prim.Native.Nat.{ℕ, ◌+◌, ◌-◌, ◌≤◌, ◌<◌}
use mathlib.Core.Bool.{false}
use mathlib.Core.Path.{◌≡◌, sym}
use native.Mathlib.Omega.{arith}
use borrow.Author.Tests.{lt-leb, le-leb, leb-true, leb-false}
use lib.Dec.{leb}
use Rattle.rules.proofs.Cases.{split}
use Rattle.bloom.proofs.have.inside.Goals as goal

longer : (place size whole : ℕ) → whole < size → false ≡ leb (place + size) whole
longer place size whole h = sym (lt-leb (place + size) whole (omega arith))

place-decides : (place size whole : ℕ) → size ≤ whole → leb place (whole - size) ≡ leb (place + size) whole
place-decides place size whole h =
    split (leb place (whole - size))
    (λ e. let l : place ≤ whole - size = leb-true _ _ e in rw (e, le-leb (place + size) whole (omega arith)))
    (λ e. let l : whole - size < place = leb-false _ _ e in rw (e, lt-leb (place + size) whole (omega arith)))

pub returns-then-whole-size : goal.returns-then-whole-size
returns-then-whole-size c = longer _ _ _ c.if-whole-size.true

pub returns : goal.returns
returns c = place-decides _ _ _ c.if-whole-size.false
