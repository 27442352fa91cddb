-- `send_records::laid::lay_one` meets its contract: the have at the count, laid by `with_next`. Assumes nothing.
use Rattle.std.proofs.Common.{ap, ◌∙◌, length}
use Rattle.send_records.specs.Internal.RecordsLaid.{with_next, laid_one}
use Rattle.send_records.specs.declared.summary.HaveSummary.{HaveSummary}
use Rattle.send_records.proofs.laid.lay_one.Goals as goal

pub returns : goal.returns
unfolding laid_one
returns c =
    c.with_next.ensures ∙ ap (λ (h : HaveSummary). with_next c.args.laid (length c.args.haves.now) h) c.get_or-have.ensures
