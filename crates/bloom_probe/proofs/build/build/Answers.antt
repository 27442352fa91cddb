-- `bloom_probe::build::build` meets its contract: the filter rules say that the numbers are small and that the field has a bit for each hash.
-- Assumes nothing.
use Prim.Native.Nat.{ℕ, ◌*◌, ◌≤◌}
use mathlib.Core.Bool.{true}
use mathlib.Core.List.{List}
use mathlib.Core.Path.{◌≡◌, sym, ◌∙◌}
use native.Mathlib.Omega.{arith}
use lib.ListN.{length, take}
use lib.Seq.{length-take-le}
use Rattle.rules.proofs.Outputs.{no_room}
use Rattle.rules.specs.Sizes.{sizes}
use Rattle.bloom.specs.Filter.{field_size, filter_rules}
use Rattle.bloom_probe.proofs.BuildLaws.{rules_numbers, rules_field, length_built, built}
use Rattle.bloom_probe.proofs.build.build.Goals as goal

-- the lent part of the buffer has a bit for each hash
enough : (b p n size : ℕ) (field : List ℕ)
    → filter_rules n b p (field_size n b) ≡ true → size ≡ field_size n b → size ≤ length field
    → (n ≤ 8 * length (take size field)) × (length (take size field) ≤ sizes.field)
enough b p n size field k e h =
    let r = rules_field n b p k in
    let l : length (take size field) ≡ size = length-take-le size field h in
    (omega arith, omega arith)

pub bits_capacity-size-requires : goal.bits_capacity-size-requires
bits_capacity-size-requires c = rules_numbers _ _ _ _ c.requires.0

pub returns-then-field-size : goal.returns-then-field-size
returns-then-field-size c = no_room _ _ _ (c.bits_capacity-size.ensures ∙ sym (length_built _ _ _ _)) c.if-field-size.true

pub slice_bounds-fill-end-2 : goal.slice_bounds-fill-end-2
slice_bounds-fill-end-2 c = sym (length-take-le _ _ c.if-field-size.false)

pub fill-requires : goal.fill-requires
fill-requires c =
    let e = enough _ _ _ _ _ c.requires.0 c.bits_capacity-size.ensures c.if-field-size.false in
    (e.0, e.1, c.requires.1)

pub returns : goal.returns
returns c =
    built _ _ _ _ _ _ _ c.bits_capacity-size.ensures c.if-field-size.false c.fill.ensures
