-- `message_size::size::lists_size` meets its contract: one case of `lists_output` for each answer. Assumes nothing.
use mathlib.Core.Bool.{true}
use mathlib.Core.Path.{◌≡◌, sym, ◌∙◌}
use native.Mathlib.Omega.{arith}
use Rattle.bloom.specs.Have.{passed_good}
use Rattle.rules.proofs.Cases.{handed_on}
use Rattle.rules.proofs.PassedLaws.{passed_is}
use Rattle.message_size.proofs.SizeLaws.{list_small}
use Rattle.message_size.proofs.WriteLaws.{refused_size, lists_bad, lists_heads, lists_need, lists_sized}
use Rattle.message_size.proofs.size.lists_size.Goals as goal

pub returns-then-not-passed_good : goal.returns-then-not-passed_good
returns-then-not-passed_good c = refused_size _ _ (lists_bad _ _ _ _ (sym c.passed_good.ensures ∙ c.if-not-passed_good.true))

pub hashes_size-requires : goal.hashes_size-requires
hashes_size-requires c =
    (passed_is _ _ (sym c.in_ok-heads_count.ensures)).few

pub hashes_size-requires-2 : goal.hashes_size-requires-2
hashes_size-requires-2 c =
    (passed_is _ _ (sym c.in_ok-need_count.ensures)).few

pub overflow_add-result : goal.overflow_add-result
overflow_add-result c =
    let h = list_small _ _ (passed_is _ _ (sym c.in_ok-heads_count.ensures)).few c.hashes_size.ensures in
    let n = list_small _ _ (passed_is _ _ (sym c.in_ok-need_count.ensures)).few c.hashes_size-2.ensures in
    omega (arith, h, n)

pub returns : goal.returns
returns c =
    lists_sized _ _ _ _ ((let it : passed_good c.args.bytes.now c.args.haves.now ≡ true = sym c.passed_good.ensures ∙ c.if-not-passed_good.false in it)) _
    (sym c.in_ok-heads_count.ensures)
    _ _ _
    (sym c.in_ok-need_count.ensures)
    c.hashes_size.ensures
    c.hashes_size-2.ensures

pub returns-in_err-need_count : goal.returns-in_err-need_count
returns-in_err-need_count c =
    rw (handed_on c.from_residual-in_err-need_count.ensures.1)
    (refused_size _ _
    (lists_need _ _ _ _ ((let it : passed_good c.args.bytes.now c.args.haves.now ≡ true = sym c.passed_good.ensures ∙ c.if-not-passed_good.false in it)) _
    (sym c.in_ok-heads_count.ensures)
    _
    (sym c.in_err-need_count.ensures)))

pub returns-in_err-heads_count : goal.returns-in_err-heads_count
returns-in_err-heads_count c =
    rw (handed_on c.from_residual.ensures.1)
    (refused_size _ _
    (lists_heads _ _ _ _ ((let it : passed_good c.args.bytes.now c.args.haves.now ≡ true = sym c.passed_good.ensures ∙ c.if-not-passed_good.false in it)) _ (sym c.in_err-heads_count.ensures)))
