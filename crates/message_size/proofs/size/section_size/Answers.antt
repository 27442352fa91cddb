-- `message_size::size::section_size` meets its contract: two bytes and the flags, or nothing. Assumes nothing.
use Rattle.message.specs.Flags.{section_bytes}
use borrow.Author.Rules.{rules}
use Rattle.message_size.proofs.size.section_size.Goals as goal

pub returns-in-None : goal.returns-in-None
unfolding section_bytes
returns-in-None c = search rules

pub returns-in-Some : goal.returns-in-Some
unfolding section_bytes
returns-in-Some c = search rules
