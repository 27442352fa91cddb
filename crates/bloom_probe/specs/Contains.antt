-- Whether filters contain a hash. 01, "Probes", and Refusal numbers for filters that are passed as numbers.
use Rattle.std.specs.Prelude.{ℕ, ◌*◌, Bool, true, false, cond, not, ◌||◌, ◌&&◌, List, [], ◌∷◌, ltb, eqb, length, Result, Ok, Err}
use Rattle.rules.specs.Hash.{hash_at}
use Rattle.rules.specs.Sizes.{sizes}
use Rattle.rules.specs.declared.refusal.Refusal.TheVariants.{Cut, PastSize, BadNumbers}
use Rattle.bloom.specs.Filter.{Filter}
use Rattle.bloom.specs.Have.{filters_of, passed_good, passed_few}
use Rattle.bloom_probe.specs.Probes.{probes_of, bit_at}
use Rattle.rules.specs.declared.refusal.Refusal.{Refusal}

-- A bit that is clear. Every probe of a filter that 01 accepts is a bit of its field (`probes-inside`, kept Arms).
unfoldable pub clear_at : List ℕ → ℕ → Bool
clear_at field k = eqb (bit_at field k) 0

-- No probe's bit is clear.
unfoldable pub none_clear : List ℕ → List ℕ → Bool
none_clear field [] = true
none_clear field (k ∷ ks) = not (clear_at field k) && none_clear field ks

-- n = 0 contains nothing; else a hash is contained if none of its bits is clear.
unfoldable pub contains : Filter → ℕ → Bool
contains f h = cond (eqb f.entries 0) false (none_clear f.field (probes_of (8 * length f.field) f.probes h))

-- Across several filters: one clear bit ends that filter, and the search goes on with the next.
unfoldable pub any_contains : List Filter → ℕ → Bool
any_contains [] h = false
any_contains (f ∷ fs) h = contains f h || any_contains fs h

-- Whether some filter of the haves contains a hash that is lent as bytes: 10 and 4 for the haves, then 4 or 1 for a hash of
-- another length.
unfoldable pub contained_in : List ℕ → List ℕ → List ℕ → Result Bool Refusal
contained_in s haves hash =
    cond (not (passed_good s haves))
    (Err BadNumbers)
    (cond (not (passed_few haves))
    (Err (PastSize 0))
    (cond (ltb sizes.hash (length hash))
    (Err (PastSize 0))
    (cond (ltb (length hash) sizes.hash)
    (Err (Cut 0))
    (cond (any_contains (filters_of s haves) (hash_at hash 0)) (Ok true) (Ok false)))))
