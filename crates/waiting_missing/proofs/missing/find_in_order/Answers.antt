-- `waiting_missing::missing::find_in_order` meets its contract: no row is marked and nothing found at first, and the unknown hashes of the list and of what
-- the asked rows ask for are what is missing (FoundLaws). A checked waiting table has a mark for each row. Assumes nothing.
use mathlib.Core.Bool.{false}
use mathlib.Core.Path.{sym, ◌∙◌}
use native.Mathlib.Omega.{arith}
use lib.ListN.{length-replicate}
use Rattle.rules.specs.Sizes.{sizes}
use Rattle.waiting.proofs.WaitingLaws.{waiting_good_lem, decoded_asks_count}
use Rattle.waiting_asked.proofs.AskLaws.{as_many_marks}
use Rattle.waiting_missing.proofs.FoundLaws.{askable_first, found_first, refs_found}
use Rattle.waiting_missing.proofs.missing.find_in_order.Goals as goal

pub ask_hashes-requires : goal.ask_hashes-requires
ask_hashes-requires c =
    (askable_first _ _ _ _ (waiting_good_lem _ _ _ c.requires.1) _ c.requires.2, c.requires.3)

pub take_refs-listed-requires : goal.take_refs-listed-requires
take_refs-listed-requires c =
    (c.requires.0, c.requires.2, found_first _ _ _ _ (waiting_good_lem _ _ _ c.requires.1) _ _ _ _ c.requires.3 c.requires.4, omega arith, omega arith)

pub slice_bounds-take_asked-end-2 : goal.slice_bounds-take_asked-end-2
slice_bounds-take_asked-end-2 c =
    sym (as_many_marks c.ask_hashes.ensures ∙ length-replicate sizes.waiting_rows false)

pub take_asked-all-requires : goal.take_asked-all-requires
take_asked-all-requires c =
    let d = waiting_good_lem _ _ _ c.requires.1 in (
      c.requires.0,
      c.requires.2,
      c.take_refs-listed.ensures.found,
      omega (arith, d.few, as_many_marks c.ask_hashes.ensures, length-replicate sizes.waiting_rows false),
      λ i b. decoded_asks_count _ _ _ d i b,
    )

pub returns : goal.returns
returns c =
    refs_found _ _ _ _ (waiting_good_lem _ _ _ c.requires.1) _ _ _ c.ask_hashes.ensures c.take_refs-listed.auto.refs c.take_refs-listed.ensures
    c.take_asked-all.auto.refs
    c.take_asked-all.ensures
