-- `send_records::to_send::summaries_to_send` meets its contract: what is sent for the haves that are laid is what is sent for the list. Assumes nothing.
use Rattle.send_records.proofs.SentLaws.{laid_written}
use Rattle.send_records.proofs.to_send.summaries_to_send.Goals as goal

pub returns : goal.returns
returns c =
    laid_written c.args.table.now c.args.index.now c.args.bytes.now c.args.need.now c.args.haves.now c.lay-laid.result c.args.out.now
    c.laid_to_send.new.out c.laid_to_send.result c.lay-laid.ensures c.laid_to_send.ensures
