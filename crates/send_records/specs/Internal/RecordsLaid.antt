-- What internal contracts speak of: the first haves of a list laid as words in an array. No rule of 01 stands here.
use Rattle.std.specs.Prelude.{ℕ, zero, suc, ◌+◌, ◌*◌, min, cond, List, leb, length, get_or, replicate, take}
use Rattle.std.proofs.lemmas.List.Edits.{sets}
use Rattle.bloom.specs.Have.{have_words}
use Rattle.rules.specs.Sizes.{sizes}
use Rattle.send_records.specs.Summary.{record_words, no_have}
use Rattle.send_records.specs.declared.laid.Laid.{Laid}
use Rattle.send_records.specs.declared.summary.HaveSummary.{HaveSummary}

-- Haves that are laid at most: one more than a list may have, which is enough to see that a list is too long.
abbrev pub laid_haves : ℕ
laid_haves = sizes.haves + 1

-- Before the first have.
unfoldable pub nothing_laid : Laid
nothing_laid = record { words = replicate (laid_haves * have_words) 0; count = 0 }

-- The next have of `total`, if there is one and room for it.
unfoldable pub with_next : Laid → ℕ → HaveSummary → Laid
with_next l total h =
    cond (leb total l.count)
    l
    (cond (leb laid_haves l.count)
    l
    (record { words = sets l.words (l.count * have_words) (record_words h); count = l.count + 1 }))

-- The next have of a list.
unfoldable pub laid_one : List HaveSummary → Laid → Laid
laid_one hs l = with_next l (length hs) (get_or hs l.count no_have)

-- As many haves laid as the first argument says.
unfoldable pub laid_many : ℕ → List HaveSummary → Laid → Laid
laid_many zero hs l = l
laid_many (suc k) hs l = laid_many k hs (laid_one hs l)

-- How many steps lay the haves: more than there is room for.
abbrev pub laid_steps : ℕ
laid_steps = 20

-- The words that are laid.
unfoldable pub used_words : Laid → List ℕ
used_words l = take (have_words * min l.count laid_haves) l.words
