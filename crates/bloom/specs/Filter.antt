-- Filters as values. 01, Wire ("Filter").
use Rattle.std.specs.Prelude.{ℕ, ◌+◌, ◌*◌, ◌/◌, ◌≤◌, Bool, true, cond, not, ◌||◌, ◌&&◌, List, [], ◌++◌, ◌≡◌, ltb, leb, eqb, length}
use Rattle.rules.specs.Output.{Output}
use Rattle.rules.specs.Sizes.{sizes}
use Rattle.rules.specs.declared.refusal.Refusal.TheVariants.{BadNumbers}
use Rattle.leb128.specs.Number.{shortest, most_filter}
use Rattle.bloom.specs.declared.setting.Setting.{Setting}

-- Entries n, bits per entry b, probes p, and the bit field's bytes.
pub record Filter : Type 0 where
  pub entries : ℕ
  pub bits : ℕ
  pub probes : ℕ
  pub field : List ℕ

-- The filter that three numbers and a field are.
abbrev pub filter_of4 : ℕ → ℕ → ℕ → List ℕ → Filter
filter_of4 n b p field = record { entries = n; bits = b; probes = p; field = field }

-- What a filter of no bytes has, and what filters are built with.
abbrev pub default_bits : ℕ
default_bits = 10

-- Seven probes go with the ten bits.
abbrev pub default_probes : ℕ
default_probes = 7

-- Both as one setting.
abbrev pub default_setting : Setting
default_setting = record { bits = default_bits; probes = default_probes }

-- n × b / 8 bytes, rounded up.
unfoldable pub field_size : ℕ → ℕ → ℕ
field_size n b = (n * b + 7) / 8

-- Refusal 10, for a filter passed as numbers: n, b and p are filter numbers, the field has its size, and with entries b is at least 1, p at
-- most 64 and the field within its size. With n = 0 any b and p will do, and the field is empty.
unfoldable pub filter_rules : ℕ → ℕ → ℕ → ℕ → Bool
filter_rules n b p size =
    (leb n most_filter && (leb b most_filter && leb p most_filter))
    && (eqb size (field_size n b) && (eqb n 0 || (ltb 0 b && (leb p sizes.probes && leb size sizes.field))))

-- 02, M-107: what a pair that filters are built with must keep. With these bits and probes a filter over any rows of a table keeps the filter rules.
pub record SettingGood (bits probes : ℕ) : Type 0 where
  pub each : (n : ℕ) → n ≤ sizes.rows → filter_rules n bits probes (field_size n bits) ≡ true

-- 02, M-107: bits per entry at the most. With so many the field over a whole table just fits its size.
abbrev pub most_bits : ℕ
most_bits = 32

-- 02, M-107, as a test: bits 1 to 32, and probes up to 64, where the filter rules let 0 pass too. It finds just the pairs of `SettingGood`: the laws
-- `setting-keeps` and `keeps-setting`.
unfoldable pub pair_good : ℕ → ℕ → Bool
pair_good b p = ltb 0 b && (leb b most_bits && leb p sizes.probes)

-- A filter as bytes: n = 0 is written as no bytes.
unfoldable pub filter_bytes : Filter → List ℕ
filter_bytes f =
    cond (eqb f.entries 0) [] (shortest f.entries ++ (shortest f.bits ++ (shortest f.probes ++ f.field)))

-- What is written for a filter passed as numbers and a field: 10 where it breaks the filter rules.
unfoldable pub filter_output : Filter → Output
filter_output f =
    cond (not (filter_rules f.entries f.bits f.probes (length f.field)))
    (Output.refuse BadNumbers)
    (Output.bytes (filter_bytes f))
