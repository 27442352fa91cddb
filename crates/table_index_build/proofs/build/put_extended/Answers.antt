-- `table_index_build::build::put_extended` meets its contract: what fits all rows but the last is their index, so with the last row put in it is the
-- table's. Assumes nothing.
use Prim.Native.Nat.{ℕ, ◌-◌, ◌*◌, ◌≤◌, ◌<◌}
use mathlib.Core.Path.{◌≡◌, sym, ◌∙◌}
use lib.ListN.{length, length-replicate}
use Rattle.rules.specs.Sizes.{sizes}
use Rattle.table.specs.TableBytes.{u16s_at, rows_at}
use Rattle.table_index.specs.Index.{index_of}
use Rattle.table_index_build.proofs.BuildLaws.{last_fits, entries_copied}
use Rattle.table_index_build.proofs.ExtendLaws.{index_all, index_records}
use native.Mathlib.Omega.{arith}
use Rattle.table_index_build.proofs.build.put_extended.Goals as goal

pub copy_into-requires : goal.copy_into-requires
copy_into-requires c =
    let f = (let it : (0 < c.args.n)
    × (length c.args.index.now ≡ 2 * (c.args.n - 1))
    × (u16s_at c.args.index.now 0 (c.args.n - 1) ≡ index_of (rows_at c.args.table.now 0 (c.args.n - 1))) = last_fits _ _ _ c.requires.2 in it) in
    omega (arith, length-replicate {A = ℕ} (2 * sizes.rows) 0, (let it : c.args.n ≤ sizes.rows = omega (arith, c.requires.0, c.requires.1) in it), f.0, f.1)

pub overflow_sub-n : goal.overflow_sub-n
overflow_sub-n c = let f = (let it : (0 < c.args.n)
    × (length c.args.index.now ≡ 2 * (c.args.n - 1))
    × (u16s_at c.args.index.now 0 (c.args.n - 1) ≡ index_of (rows_at c.args.table.now 0 (c.args.n - 1))) = last_fits _ _ _ c.requires.2 in it) in omega (arith, f.0)

pub extend-requires : goal.extend-requires
extend-requires c =
    let f = (let it : (0 < c.args.n)
    × (length c.args.index.now ≡ 2 * (c.args.n - 1))
    × (u16s_at c.args.index.now 0 (c.args.n - 1) ≡ index_of (rows_at c.args.table.now 0 (c.args.n - 1))) = last_fits _ _ _ c.requires.2 in it) in (
      omega (arith, f.0, c.requires.1),
      omega arith,
      omega (arith, f.0, (let it : c.args.n ≤ sizes.rows = omega (arith, c.requires.0, c.requires.1) in it)),
      omega (arith, f.0, (let it : c.args.n ≤ sizes.rows = omega (arith, c.requires.0, c.requires.1) in it)),
      entries_copied _ _ _ _ f.1 (omega (arith, f.1, (let it : c.args.n ≤ sizes.rows = omega (arith, c.requires.0, c.requires.1) in it))) c.copy_into.ensures ∙ f.2 ∙ index_records _ _,
    )

pub put_built-requires : goal.put_built-requires
put_built-requires c =
    let f = (let it : (0 < c.args.n)
    × (length c.args.index.now ≡ 2 * (c.args.n - 1))
    × (u16s_at c.args.index.now 0 (c.args.n - 1) ≡ index_of (rows_at c.args.table.now 0 (c.args.n - 1))) = last_fits _ _ _ c.requires.2 in it) in
    (c.requires.0, c.requires.1, omega (arith, (let it : c.args.n ≤ sizes.rows = omega (arith, c.requires.0, c.requires.1) in it)), index_all _ _ _ _ (omega (arith, f.0)) (omega (arith, f.0)) c.extend.ensures ∙ sym (index_records _ _))
