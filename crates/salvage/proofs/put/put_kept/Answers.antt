-- `salvage::put::put_kept` meets its contract: a dropped row is no row, and a kept one stands where as many rows before it are kept (PutLaws). Assumes
-- nothing.
use native.Mathlib.Omega.{arith}
use Rattle.salvage.proofs.PutLaws.{mark_kept, kept_sound, row_room, row_left, row_taken}
use Rattle.table.proofs.RowLaws.{row_within}
use Rattle.salvage.proofs.put.put_kept.Goals as goal

pub returns-then-rules-i-ne0 : goal.returns-then-rules-i-ne0
returns-then-rules-i-ne0 c =
    row_left _ _ _ _ _ _ c.requires.0 _ _ c.requires.2 c.if-rules-i-ne0.true

pub put_row-requires : goal.put_row-requires
put_row-requires c =
    let sound = kept_sound _ _ _ _ (mark_kept _ _ _ _ _ _ c.requires.0 _ c.requires.2 c.if-rules-i-ne0.false) in (
      row_within _ _ _ _ c.requires.2 c.requires.0.inside,
      sound.0,
      sound.1,
      omega (arith, c.requires.0.places_long, c.requires.2),
      omega (arith, c.requires.1, c.requires.2),
      row_room _ _ _ _ _ _ c.requires.0 _ _ c.requires.2 c.if-rules-i-ne0.false c.requires.3,
    )

pub returns : goal.returns
returns c =
    row_taken _ _ _ _ _ _ c.requires.0 _ _ _ c.requires.2 c.if-rules-i-ne0.false c.put_row.ensures
