-- `send_records::laid::lay_five` meets its contract: one have after the other. Assumes nothing.
use Rattle.std.proofs.Common.{ap, ◌∙◌}
use Rattle.send_records.specs.Internal.RecordsLaid.{laid_one, laid_many}
use Rattle.send_records.proofs.laid.lay_five.Goals as goal

pub returns : goal.returns
unfolding laid_many
returns c =
    let next = laid_one c.args.haves.now in
    c.lay_one.ensures ∙ ap next (c.lay_one-four.ensures ∙ ap next (c.lay_one-three.ensures ∙ ap next (c.lay_one-two.ensures ∙ ap next c.lay_one-one.ensures)))
