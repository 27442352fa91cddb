-- `message_read::decode::decode` meets its contract: the message was read whole before anything is written, so the words are as many as its counts say,
-- and putting them can't be refused. Assumes nothing.
use mathlib.Core.Path.{sym}
use borrow.Author.Rules.{rules}
use native.Mathlib.Omega.{arith}
use Rattle.rules.proofs.Cases.{handed_on}
use Rattle.message_read.proofs.ReadLaws.{decode_refused, few_haves_lem, few_chunks_lem, haves_short, chunks_short, haves_read, chunks_read, decoded}
use Rattle.message_read.proofs.decode.decode.Goals as goal

pub overflow_mul-have_words : goal.overflow_mul-have_words
overflow_mul-have_words c =
    omega (arith, few_haves_lem _ _ (sym c.in_ok-places.ensures))

pub returns-then-haves-have_words : goal.returns-then-haves-have_words
returns-then-haves-have_words c =
    haves_short _ _ (sym c.in_ok-places.ensures) _ _ _ c.if-haves-have_words.true

pub overflow_mul-chunk_words : goal.overflow_mul-chunk_words
overflow_mul-chunk_words c =
    omega (arith, few_chunks_lem _ _ (sym c.in_ok-places.ensures))

pub returns-then-chunks-chunk_words : goal.returns-then-chunks-chunk_words
returns-then-chunks-chunk_words c =
    chunks_short _ _ (sym c.in_ok-places.ensures) _ _ _ (search rules) c.if-chunks-chunk_words.true

pub put_counted-sum-requires : goal.put_counted-sum-requires
put_counted-sum-requires c =
    let is = sym c.in_ok-places.ensures in
    (haves_read _ _ is _ (search rules), omega (arith, few_haves_lem _ _ is, c))

pub put_chunks-requires : goal.put_chunks-requires
put_chunks-requires c =
    chunks_read _ _ (sym c.in_ok-places.ensures) _ c.if-chunks-chunk_words.false

pub returns : goal.returns
returns c =
    decoded _ _ (sym c.in_ok-places.ensures) _ _ _ (search rules) c.if-chunks-chunk_words.false _ _ _ _ _
    c.put_counted-sum.ensures
    c.put_chunks.ensures
    c.behind_section-behind.ensures

pub returns-in_err-places : goal.returns-in_err-places
returns-in_err-places c = rw (handed_on c.from_residual.ensures.1) (decode_refused _ _ _ _ _ (sym c.in_err-places.ensures))
