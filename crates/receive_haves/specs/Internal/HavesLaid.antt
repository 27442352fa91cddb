-- What internal contracts speak of: haves that are laid out as a session keeps them. No rule of 01 stands here.
use Rattle.std.specs.Prelude.{ℕ, ◌+◌, ◌*◌, ◌≤◌, ◌<◌, true, List, [], ◌∷◌, ◌++◌, ◌≡◌}
use Rattle.std.proofs.lemmas.List.Edits.{sets}
use Rattle.bloom.specs.Have.{Have, have_count, have_good, sync_count, numbers_in}
use Rattle.rules.specs.Hash.{hashes_bytes}
use Rattle.rules.specs.Sizes.{sizes}
use Rattle.session.specs.Laid.{laid_bytes, laid_words}

-- Records that can be laid out: there are as many as a session keeps, and each is a have over the bytes, its last-sync hashes within their size.
pub record Layable (s words : List ℕ) : Type 0 where
  pub few : have_count words ≤ sizes.haves
  pub each : (i : ℕ) → i < have_count words → have_good s words i ≡ true
  pub syncs : (i : ℕ) → i < have_count words → sync_count words i ≤ sizes.hashes

-- Haves laid out at the start of a session's lists, records and bytes; the rest of these is as it was.
pub record LaidPut (vs : List Have) (records₀ bytes₀ records₁ bytes₁ : List ℕ) : Type 0 where
  pub records : records₁ ≡ sets records₀ 0 (laid_words vs)
  pub bytes : bytes₁ ≡ sets bytes₀ 0 (laid_bytes vs)

-- The most bytes that a have takes, laid out.
abbrev pub most_have : ℕ
most_have = sizes.hash * sizes.hashes + sizes.field

-- The most bytes that all haves take.
abbrev pub most_laid : ℕ
most_laid = sizes.haves * most_have

-- The bytes of a have, laid out.
unfoldable pub laid_have : Have → List ℕ
laid_have v = hashes_bytes v.last_sync ++ v.filter.field

-- The words of record i, with its bytes from a place on.
unfoldable pub record_from : ℕ → List ℕ → ℕ → List ℕ
record_from at words i =
    at
    ∷ sync_count words i
    ∷ (numbers_in words i).entries
    ∷ (numbers_in words i).bits
    ∷ (numbers_in words i).probes
    ∷ (at + sizes.hash * sync_count words i)
    ∷ (numbers_in words i).size
    ∷ []
