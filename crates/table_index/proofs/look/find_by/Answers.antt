-- `table_index::look::find_by` meets its contract: the record at the hash's place has it, or none has it, since each is named (HalveLaws). Assumes
-- nothing.
use Prim.Native.Nat.{◌+◌, ◌*◌, ◌≤◌}
use mathlib.Core.Path.{sym, ◌∙◌}
use native.Mathlib.Omega.{arith}
use borrow.Author.Tests.{eqb-true, eqb-false}
use lib.ListN.{length}
use Rattle.rules.specs.Sizes.{sizes}
use Rattle.table_index.proofs.HalveLaws.{record-inside, entry_below, look_ordered, look_end, look_here, look_other}
use Rattle.table_index.proofs.look.find_by.Goals as goal

pub place_by-k-requires : goal.place_by-k-requires
place_by-k-requires c =
    let p = c.requires in
    (p.0, p.1, p.2, p.3, look_ordered _ _ _ p.4)

pub overflow_mul-r : goal.overflow_mul-r
overflow_mul-r c = omega (
  arith,
  (let it : c.u16_at-r.result * c.args.size + sizes.hash ≤ length c.args.records.now = let p = c.requires in
      record-inside _ _ _ _ (entry_below _ _ _ (look_ordered _ _ _ p.4) _ _ c.if-k-n.true c.u16_at-r.ensures) p.0 p.1 in it),
)

pub same_hash-requires : goal.same_hash-requires
same_hash-requires c = (
  (let it : c.u16_at-r.result * c.args.size + sizes.hash ≤ length c.args.records.now = let p = c.requires in
      record-inside _ _ _ _ (entry_below _ _ _ (look_ordered _ _ _ p.4) _ _ c.if-k-n.true c.u16_at-r.ensures) p.0 p.1 in it),
  c.requires.3,
)

pub returns-then-same_hash : goal.returns-then-same_hash
returns-then-same_hash c =
    look_here _ _ _ c.requires.4 _ _ c.place_by-k.ensures _ c.if-k-n.true c.u16_at-r.ensures
    (eqb-true _ _ (sym c.same_hash.ensures ∙ c.if-same_hash.true))

pub returns-else-same_hash : goal.returns-else-same_hash
returns-else-same_hash c =
    look_other _ _ _ c.requires.4 _ _ c.place_by-k.ensures _ c.if-k-n.true c.u16_at-r.ensures
    (eqb-false _ _ (sym c.same_hash.ensures ∙ c.if-same_hash.false))

pub returns-else-k-n : goal.returns-else-k-n
returns-else-k-n c =
    look_end _ _ _ c.requires.4 _ _ c.place_by-k.ensures c.if-k-n.false
