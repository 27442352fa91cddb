-- `send_records::laid::lay` meets its contract: five haves after the other, four times. Assumes nothing.
use Rattle.std.proofs.Common.{ap, ◌∙◌}
use Rattle.send_records.specs.Internal.RecordsLaid.{laid_many}
use Rattle.send_records.proofs.laid.lay.Goals as goal

pub returns : goal.returns
unfolding laid_many
returns c =
    let next = laid_many 5 c.args.haves.now in
    c.lay_five.ensures ∙ ap next (c.lay_five-fifteen.ensures ∙ ap next (c.lay_five-ten.ensures ∙ ap next (c.lay_five-five.ensures ∙ ap next c.nothing_laid-none.ensures)))
