-- `receive_make::make::make_words` meets its contract: the message was read, so its haves are read again. Assumes nothing.
use native.Mathlib.Omega.{arith}
use lib.ListN.{length-take}
use Rattle.message_read.proofs.ReadLaws.{few_haves_lem, haves_read}
use Rattle.receive_make.proofs.SaidLaws.{put_layable, words_made}
use Rattle.receive_make.proofs.make.make_words.Goals as goal

pub put_haves-requires : goal.put_haves-requires
put_haves-requires c =
    haves_read _ _ c.requires.0 _ (omega (arith, few_haves_lem _ _ c.requires.0, c.requires.1))

pub overflow_mul-haves : goal.overflow_mul-haves
overflow_mul-haves c =
    omega (arith, few_haves_lem _ _ c.requires.0)

pub slice_bounds-laid_size-end : goal.slice_bounds-laid_size-end
slice_bounds-laid_size-end c =
    omega (arith, few_haves_lem _ _ c.requires.0, c.requires.1, c.put_haves.auto.out)

pub slice_bounds-laid_size-end-2 : goal.slice_bounds-laid_size-end-2
slice_bounds-laid_size-end-2 c =
    simp length-take (omega (arith, few_haves_lem _ _ c.requires.0, c.requires.1, c.put_haves.auto.out))

pub laid_size-requires : goal.laid_size-requires
laid_size-requires c =
    put_layable _ _ c.requires.0 _ _ c.requires.1 c.put_haves.ensures (λ i. (c.type_inv.message i).fits)

pub returns : goal.returns
returns c =
    words_made _ _ c.requires.0 _ _ c.requires.1 c.put_haves.ensures _ c.laid_size.ensures
