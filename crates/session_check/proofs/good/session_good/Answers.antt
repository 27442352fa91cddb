-- `session_check::good::session_good` meets its contract: each test that fails decides, and after six that pass it is good. Assumes nothing.
use mathlib.Core.Path.{sym, ◌∙◌}
use Rattle.session_check.proofs.GoodLaws.{bad_shared, bad_last_sent, bad_heads, bad_need, bad_haves, bad_sent, all_good}
use Rattle.session_check.proofs.good.session_good.Goals as goal

pub returns-then-not-list_good : goal.returns-then-not-list_good
returns-then-not-list_good c = sym (bad_shared _ _ (sym c.list_good.ensures ∙ c.if-not-list_good.true))

pub returns-then-not-list_good-2 : goal.returns-then-not-list_good-2
returns-then-not-list_good-2 c =
    sym (bad_last_sent _ _
    (sym c.list_good.ensures ∙ c.if-not-list_good.false)
    (sym c.list_good-2.ensures ∙ c.if-not-list_good-2.true))

pub returns-then-not-heard_good : goal.returns-then-not-heard_good
returns-then-not-heard_good c =
    sym (bad_heads _ _
    (sym c.list_good.ensures ∙ c.if-not-list_good.false)
    (sym c.list_good-2.ensures ∙ c.if-not-list_good-2.false)
    (sym c.heard_good.ensures ∙ c.if-not-heard_good.true))

pub returns-then-not-heard_good-2 : goal.returns-then-not-heard_good-2
returns-then-not-heard_good-2 c =
    sym (bad_need _ _
    (sym c.list_good.ensures ∙ c.if-not-list_good.false)
    (sym c.list_good-2.ensures ∙ c.if-not-list_good-2.false)
    (sym c.heard_good.ensures ∙ c.if-not-heard_good.false)
    (sym c.heard_good-2.ensures ∙ c.if-not-heard_good-2.true))

pub returns-then-not-haves_good : goal.returns-then-not-haves_good
returns-then-not-haves_good c =
    sym (bad_haves _ _
    (sym c.list_good.ensures ∙ c.if-not-list_good.false)
    (sym c.list_good-2.ensures ∙ c.if-not-list_good-2.false)
    (sym c.heard_good.ensures ∙ c.if-not-heard_good.false)
    (sym c.heard_good-2.ensures ∙ c.if-not-heard_good-2.false)
    (sym c.haves_good.ensures ∙ c.if-not-haves_good.true))

pub returns-then-not-sent_good : goal.returns-then-not-sent_good
returns-then-not-sent_good c =
    sym (bad_sent _ _
    (sym c.list_good.ensures ∙ c.if-not-list_good.false)
    (sym c.list_good-2.ensures ∙ c.if-not-list_good-2.false)
    (sym c.heard_good.ensures ∙ c.if-not-heard_good.false)
    (sym c.heard_good-2.ensures ∙ c.if-not-heard_good-2.false)
    (sym c.haves_good.ensures ∙ c.if-not-haves_good.false)
    (sym c.sent_good.ensures ∙ c.if-not-sent_good.true))

pub returns : goal.returns
returns c =
    sym (all_good _ _
    (sym c.list_good.ensures ∙ c.if-not-list_good.false)
    (sym c.list_good-2.ensures ∙ c.if-not-list_good-2.false)
    (sym c.heard_good.ensures ∙ c.if-not-heard_good.false)
    (sym c.heard_good-2.ensures ∙ c.if-not-heard_good-2.false)
    (sym c.haves_good.ensures ∙ c.if-not-haves_good.false)
    (sym c.sent_good.ensures ∙ c.if-not-sent_good.false))
