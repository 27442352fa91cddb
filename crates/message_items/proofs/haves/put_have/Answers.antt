-- `message_items::haves::put_have` meets its contract: seven words one after the other are put at once. Assumes nothing.
use Prim.Native.Nat.{ℕ, suc, ◌+◌}
use mathlib.Core.List.{List, [], ◌∷◌}
use mathlib.Core.Path.{◌≡◌}
use native.Mathlib.Omega.{arith}
use lib.ListN.{set, length-set}
use lib.Seq.{sets}
use Rattle.message_items.proofs.haves.put_have.Goals as goal

seven_put : (out : List ℕ) (i a b c d e f g : ℕ)
    → set (set (set (set (set (set (set out i a) (i + 1) b) (i + 2) c) (i + 3) d) (i + 4) e) (i + 5) f) (i + 6) g
    ≡ sets out i (a ∷ b ∷ c ∷ d ∷ e ∷ f ∷ g ∷ [])
seven_put out i a b c d e f g =
    let i1 : i + 1 ≡ suc i = omega arith in
    let i2 : i + 2 ≡ suc (suc i) = omega arith in
    let i3 : i + 3 ≡ suc (suc (suc i)) = omega arith in
    let i4 : i + 4 ≡ suc (suc (suc (suc i))) = omega arith in
    let i5 : i + 5 ≡ suc (suc (suc (suc (suc i)))) = omega arith in
    let i6 : i + 6 ≡ suc (suc (suc (suc (suc (suc i))))) = omega arith in
    rw (i1, i2, i3, i4, i5, i6)

pub bounds-out-at-2 : goal.bounds-out-at-2
bounds-out-at-2 c = simp length-set (omega (arith, c.requires))

pub bounds-out-at-3 : goal.bounds-out-at-3
bounds-out-at-3 c = simp length-set (omega (arith, c.requires))

pub bounds-out-at-4 : goal.bounds-out-at-4
bounds-out-at-4 c = simp length-set (omega (arith, c.requires))

pub bounds-out-at-5 : goal.bounds-out-at-5
bounds-out-at-5 c = simp length-set (omega (arith, c.requires))

pub bounds-out-at-6 : goal.bounds-out-at-6
bounds-out-at-6 c = simp length-set (omega (arith, c.requires))

pub bounds-out-at-7 : goal.bounds-out-at-7
bounds-out-at-7 c = simp length-set (omega (arith, c.requires))

pub returns : goal.returns
returns c =
    seven_put c.args.out.now c.args.at c.args.sync.start c.args.sync.count c.args.filter.entries c.args.filter.bits c.args.filter.probes c.args.filter.place c.args.filter.size
