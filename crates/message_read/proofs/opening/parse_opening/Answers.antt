-- `message_read::opening::parse_opening` meets its contract: one case of `opening_at` for each answer. Assumes nothing.
use mathlib.Core.Path.{sym, ◌∙◌}
use borrow.Author.Rules.{rules}
use Rattle.message_read.proofs.ReadLaws.{opening_long, opening_empty, opening_first, opening_second, opening_other}
use Rattle.message_read.proofs.opening.parse_opening.Goals as goal

pub returns-then-bytes-gt-MESSAGE_SIZE : goal.returns-then-bytes-gt-MESSAGE_SIZE
returns-then-bytes-gt-MESSAGE_SIZE c = sym (opening_long _ c.if-bytes-gt-MESSAGE_SIZE.true)

pub returns-then-bytes-eq0 : goal.returns-then-bytes-eq0
returns-then-bytes-eq0 c = sym (opening_empty _ (search rules) c.if-bytes-eq0.true)

pub returns-then-message_type-eq-MESSAGE_TYPE_SYNC : goal.returns-then-message_type-eq-MESSAGE_TYPE_SYNC
returns-then-message_type-eq-MESSAGE_TYPE_SYNC c =
    c.parse_heads.ensures ∙ sym (opening_first _ (search rules) c.if-bytes-eq0.false c.if-message_type-eq-MESSAGE_TYPE_SYNC.true)

pub returns-then-message_type-eq-MESSAGE_TYPE_SYNC_V2 : goal.returns-then-message_type-eq-MESSAGE_TYPE_SYNC_V2
returns-then-message_type-eq-MESSAGE_TYPE_SYNC_V2 c =
    c.parse_heads-then-message_type-eq-MESSAGE_TYPE_SYNC_V2.ensures ∙ sym (opening_second _ (search rules) c.if-bytes-eq0.false c.if-message_type-eq-MESSAGE_TYPE_SYNC.false c.if-message_type-eq-MESSAGE_TYPE_SYNC_V2.true)

pub returns : goal.returns
returns c =
    sym (opening_other _ (search rules) c.if-bytes-eq0.false c.if-message_type-eq-MESSAGE_TYPE_SYNC.false c.if-message_type-eq-MESSAGE_TYPE_SYNC_V2.false)
