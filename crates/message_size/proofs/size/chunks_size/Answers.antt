-- `message_size::size::chunks_size` meets its contract: one case of `test_few` for each answer. Assumes nothing.
use mathlib.Core.Bool.{true}
use mathlib.Core.Path.{◌≡◌, sym, ◌∙◌}
use Rattle.bloom.specs.Have.{passed_few}
use Rattle.message_size.proofs.WriteLaws.{refused_size, chunks_haves, chunks_many, chunks_sized}
use Rattle.message_size.proofs.size.chunks_size.Goals as goal

pub returns-then-not-passed_few : goal.returns-then-not-passed_few
returns-then-not-passed_few c = refused_size _ _ (chunks_haves _ _ _ (sym c.passed_few.ensures ∙ c.if-not-passed_few.true))

pub returns-then-lengths-gt-CHUNKS : goal.returns-then-lengths-gt-CHUNKS
returns-then-lengths-gt-CHUNKS c = refused_size _ _ (chunks_many _ _ _ ((let it : passed_few c.args.haves.now ≡ true = sym c.passed_few.ensures ∙ c.if-not-passed_few.false in it)) c.if-lengths-gt-CHUNKS.true)

pub returns : goal.returns
returns c = chunks_sized _ _ _ ((let it : passed_few c.args.haves.now ≡ true = sym c.passed_few.ensures ∙ c.if-not-passed_few.false in it)) _ c.if-lengths-gt-CHUNKS.false c.cut_chunks.ensures
