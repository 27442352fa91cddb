-- `plan_put::field::add_marked` meets its contract: adding the marked rows that are left to the field as it is gives what adding all of them to the
-- field as it was gives, and the start that is held is that of the first of them. Assumes nothing.
use Prim.Native.Nat.{ℕ, ◌*◌}
use mathlib.Core.List.{List}
use mathlib.Core.Path.{◌≡◌, refl, sym, ap, ◌∙◌}
use native.Mathlib.Omega.{arith}
use lib.ListN.{length}
use Rattle.bloom_probe.specs.Build.{set_bits, add_hash}
use Rattle.bloom_probe.specs.Probes.{probes_from}
use Rattle.bloom_probe.proofs.FieldLaws.{length_add_hash}
use Rattle.bloom_probe.proofs.StartLaws.{starts_below, of_start}
use Rattle.rules.specs.Hash.{hash_at}
use Rattle.table.specs.TableBytes.{row_size}
use Rattle.plan_put.proofs.MarkedLaws.{first_rest, first_few, next_rest, next_few, some_room, none_left}
use Rattle.plan_put.proofs.field.add_marked.Goals as goal

pub row_start-next-requires : goal.row_start-next-requires
row_start-next-requires c =
    (c.requires.0, λ h. some_room c.args.table.now _ _ _ _ h (c.next_marked-row.ensures.is h) (first_few c.args.table.now _ _ _ _ c.requires.2 c.next_marked-row.ensures))

pub loop-row-init : goal.loop-row-init
loop-row-init c =
    record {
      upto = c.next_marked-row.ensures.upto;
      is = c.next_marked-row.ensures.is;
      few = first_few _ _ _ _ _ c.requires.2 c.next_marked-row.ensures;
      long = refl;
      starts = c.row_start-next.ensures;
      rest = first_rest _ _ _ _ _ _ c.next_marked-row.ensures;
    }

pub row_start-next-requires-in-loop-row : goal.row_start-next-requires-in-loop-row
row_start-next-requires-in-loop-row c =
    (c.requires.0, λ h. some_room _ _ _ _ _ c.loop-row-test.true (c.loop-row.invariant.is c.loop-row-test.true) c.loop-row.invariant.few)

pub set_probes-requires : goal.set_probes-requires
set_probes-requires c =
    let b = starts_below _ _ _ _ (some_room _ _ _ _ _ c.loop-row-test.true (c.loop-row.invariant.is c.loop-row-test.true) c.loop-row.invariant.few) (c.loop-row.invariant.starts c.loop-row-test.true) in
    (b.0, b.1, b.2, omega (arith, c.requires.3), omega (arith, c.loop-row.invariant.long))

pub loop-row-smaller : goal.loop-row-smaller
loop-row-smaller c =
    omega (arith, c.loop-row-test.true, c.next_marked-row-in-loop-row.ensures.from)

pub loop-row-preserved : goal.loop-row-preserved
loop-row-preserved c =
    let added = (let it : (more : List ℕ)
    → more ≡ set_bits c.loop-row.field (probes_from c.count-rounds.result (8 * length c.args.field.now) c.loop-row.next.x c.loop-row.next.y c.loop-row.next.z)
    → more ≡ add_hash c.args.probes c.loop-row.field (hash_at c.args.table.now (c.loop-row.row * row_size)) = λ more e. of_start _ _ _ _ _ _ _ _
    (λ i. (c.type_inv.table i).fits)
    (omega (arith, c.requires.0, c.loop-row-test.true))
    (ap (λ (n : ℕ). 8 * n) (sym c.loop-row.invariant.long))
    c.count-rounds.ensures
    (c.loop-row.invariant.starts c.loop-row-test.true)
    e in it) _ c.set_probes.ensures in
    record {
      upto = c.next_marked-row-in-loop-row.ensures.upto;
      is = c.next_marked-row-in-loop-row.ensures.is;
      few = next_few _ _ _ _ _ c.loop-row-test.true (c.loop-row.invariant.is c.loop-row-test.true) c.next_marked-row-in-loop-row.ensures _ c.loop-row.invariant.few;
      long = ap length added ∙ length_add_hash _ _ _ ∙ c.loop-row.invariant.long;
      starts = c.row_start-next-in-loop-row.ensures;
      rest = next_rest _ _ _ _ _ c.loop-row-test.true (c.loop-row.invariant.is c.loop-row-test.true) c.next_marked-row-in-loop-row.ensures _ _ _ added ∙ c.loop-row.invariant.rest;
    }

pub returns : goal.returns
returns c = none_left _ _ _ _ _ _ c.loop-row-test.false ∙ c.loop-row.invariant.rest
