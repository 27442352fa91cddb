-- `receive_make::make::told_heads` meets its contract. Assumes nothing.
use mathlib.Core.Path.{sym, ◌∙◌}
use borrow.Author.Rules.{rules}
use Rattle.receive_make.proofs.MakeLaws.{brings_some, is_told, not_told}
use Rattle.receive_make.proofs.make.told_heads.Goals as goal

pub returns-then-chunks-gt0 : goal.returns-then-chunks-gt0
returns-then-chunks-gt0 c = brings_some _ _ _ _ c.if-chunks-gt0.true

pub returns-then-heads_before : goal.returns-then-heads_before
returns-then-heads_before c =
    is_told _ _ _ _ (search rules) (sym c.heads_before.ensures ∙ c.if-heads_before.true)

pub returns : goal.returns
returns c =
    not_told _ _ _ _ (search rules) (sym c.heads_before.ensures ∙ c.if-heads_before.false)
