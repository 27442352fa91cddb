-- A filter built from hashes. 01, Wire ("Filter") and "Probes"; refusals as for a filter passed as numbers and a passed list.
use Rattle.std.specs.Prelude.{ℕ, ◌*◌, ◌/◌, ◌%◌, ◌^◌, cond, not, List, [], ◌∷◌, length, get_or, set, replicate}
use Rattle.std.specs.Int.Bits.{bit_or}
use Rattle.rules.specs.Hash.{hashes_at}
use Rattle.rules.specs.Output.{Output}
use Rattle.rules.specs.Passed.{passed_hashes, after_passed}
use Rattle.rules.specs.Sizes.{sizes}
use Rattle.rules.specs.declared.refusal.Refusal.TheVariants.{BadNumbers}
use Rattle.bloom.specs.Filter.{Filter, field_size, filter_rules}
use Rattle.bloom_probe.specs.Probes.{probes_of}

-- A bit set.
unfoldable pub set_bit : List ℕ → ℕ → List ℕ
set_bit field k = set field (k / 8) (bit_or (get_or field (k / 8) 0) (2 ^ (k % 8)))

-- The bits of several probes set.
unfoldable pub set_bits : List ℕ → List ℕ → List ℕ
set_bits field [] = field
set_bits field (k ∷ ks) = set_bits (set_bit field k) ks

-- A hash added to a field.
unfoldable pub add_hash : ℕ → List ℕ → ℕ → List ℕ
add_hash p field h = set_bits field (probes_of (8 * length field) p h)

-- Hashes added one after the other.
unfoldable pub add_hashes : ℕ → List ℕ → List ℕ → List ℕ
add_hashes p field [] = field
add_hashes p field (h ∷ hs) = add_hashes p (add_hash p field h) hs

-- The filter of a list of hashes: n is the list's length, and the field was clear before they were added.
unfoldable pub filter_of : ℕ → ℕ → List ℕ → Filter
filter_of b p hs =
    record {
      entries = length hs;
      bits = b;
      probes = p;
      field = add_hashes p (replicate (field_size (length hs) b) 0) hs;
    }

-- What building writes for a list that is lent as the bytes s: 10 for numbers that break the filter rules, with as many entries as there are
-- whole hashes, then what the list's own tests say.
unfoldable pub build_output : ℕ → ℕ → List ℕ → Output
build_output b p s =
    cond (not (filter_rules (length s / sizes.hash) b p (field_size (length s / sizes.hash) b)))
    (Output.refuse BadNumbers)
    (after_passed (passed_hashes s) Output.refuse (λ n. Output.bytes (filter_of b p (hashes_at s 0 n)).field))
