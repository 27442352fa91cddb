-- `message_read::parse::parse_section` meets its contract: one case of `section_at` for each answer. A section that was read stands inside the message,
-- which is what its flags ask. Assumes nothing.
use mathlib.Core.Path.{sym}
use Rattle.rules.proofs.Cases.{handed_on}
use Rattle.wire.proofs.Item.{prefixed_inside}
use Rattle.message_read.proofs.ReadLaws.{section_none, section_refused, section_read}
use Rattle.message_read.proofs.parse.parse_section.Goals as goal

pub returns-then-bytes-at : goal.returns-then-bytes-at
returns-then-bytes-at c = sym (section_none _ _ c.if-bytes-at.true)

pub returns-in_err-start : goal.returns-in_err-start
returns-in_err-start c =
    rw (handed_on c.from_residual.ensures.1) (sym (section_refused _ _ c.if-bytes-at.false _ (sym c.in_err-start.ensures)))

pub parse_bytes-flags-requires : goal.parse_bytes-flags-requires
parse_bytes-flags-requires c =
    let inside = prefixed_inside _ _ _ _ _ (sym c.in_ok-start.ensures) in
    (inside.upward, inside.there)

pub returns : goal.returns
returns c = sym (section_read _ _ c.if-bytes-at.false _ _ _ (sym c.in_ok-start.ensures) c.parse_bytes-flags.ensures)
