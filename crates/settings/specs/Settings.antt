-- 02, M-107: filter settings per station, with history. House records of 32 bytes, no header, numbers little-endian: version, station, bits per entry,
-- probes (four bytes each), read-only (one byte) and 15 zeros. A settings list has no limit of its own.
use Rattle.std.specs.Prelude.{ℕ, zero, suc, ◌+◌, ◌-◌, ◌*◌, ◌/◌, ◌%◌, Bool, cond, not, ◌&&◌, List, [], ◌∷◌, ◌++◌, ltb, leb, eqb, length, get_or, replicate, Result, Ok, Err}
use Rattle.bloom.specs.Filter.{default_bits, default_probes, most_bits}
use Rattle.rules.specs.LittleEndian.{u32_at}
use Rattle.rules.specs.Output.{Output}
use Rattle.rules.specs.Sizes.{sizes}
use Rattle.rules.specs.Zeros.{bytes_at, zeros}
use Rattle.rules.specs.declared.refusal.Refusal.TheVariants.{BadSettings, BadSetting}
use Rattle.settings.specs.declared.choice.Choice.{Choice}
use Rattle.table.specs.TableBytes.{records_checked}
use Rattle.table.specs.TableCalls.{after_check}
use Rattle.rules.specs.declared.refusal.Refusal.{Refusal}

-- ---- a setting, as value and as bytes

-- What a station chooses, from a version on.
pub record StationSetting : Type 0 where
  pub version : ℕ
  pub station : ℕ
  pub choice : Choice

-- The crate's 10 and 7, and off.
abbrev pub crate_choice : Choice
crate_choice = record { bits = default_bits; probes = default_probes; read_only = 0 }

-- Bits 1 to 32, probes 1 to 64, and a byte that is 0 or 1.
unfoldable pub allowed : Choice → Bool
allowed c =
    (leb 1 c.bits && leb c.bits most_bits)
    && ((leb 1 c.probes && leb c.probes sizes.probes) && leb c.read_only 1)

-- Bytes of a record.
abbrev pub setting_size : ℕ
setting_size = 32

-- The most that four bytes are, so the last version that there is, and the last station.
abbrev pub most_number : ℕ
most_number = 4294967295

-- Record i.
unfoldable pub setting_at : List ℕ → ℕ → StationSetting
setting_at s i =
    record {
      version = u32_at s (i * setting_size);
      station = u32_at s (i * setting_size + 4);
      choice =
          record {
            bits = u32_at s (i * setting_size + 8);
            probes = u32_at s (i * setting_size + 12);
            read_only = get_or s (i * setting_size + 16) 0;
          };
    }

-- The records from record i on, as many as the last argument says.
unfoldable pub settings_at : List ℕ → ℕ → ℕ → List StationSetting
settings_at s i zero = []
settings_at s i (suc count) = setting_at s i ∷ settings_at s (suc i) count

-- All whole records of the bytes.
unfoldable pub settings_of : List ℕ → List StationSetting
settings_of s = settings_at s 0 (length s / setting_size)

-- The four bytes of a number, the lowest first.
unfoldable pub u32_bytes : ℕ → List ℕ
u32_bytes n = n % 256 ∷ n / 256 % 256 ∷ n / 65536 % 256 ∷ n / 16777216 % 256 ∷ []

-- The bytes of a setting.
unfoldable pub setting_bytes : StationSetting → List ℕ
setting_bytes r =
    u32_bytes r.version
    ++ (u32_bytes r.station ++ (u32_bytes r.choice.bits ++ (u32_bytes r.choice.probes ++ (r.choice.read_only ∷ replicate 15 0))))

-- ---- a list is checked: 14 with its first bad record; bytes at the end that are no whole record are one, with the next number

-- The version before record i: 0 before the first, so that the first version is at least 1.
unfoldable pub version_before : List ℕ → ℕ → ℕ
version_before s zero = 0
version_before s (suc i) = (setting_at s i).version

-- A good record: its version is greater than the one before it, its choice is allowed, and zeros follow.
unfoldable pub setting_good : List ℕ → ℕ → Bool
setting_good s i =
    ltb (version_before s i) (setting_at s i).version
    && (allowed (setting_at s i).choice && zeros (bytes_at s (i * setting_size + 17) (setting_size - 17)))

-- How many records a good list has, or 14.
unfoldable pub settings_checked : List ℕ → Result ℕ Refusal
settings_checked s = records_checked (λ i. Err (BadSettings i)) (setting_good s) setting_size (length s)

-- ---- asked: a station's last record not above a version, or the crate's choice

-- A record is one of the station's, and not above the version.
abbrev pub counts : StationSetting → ℕ → ℕ → Bool
counts r station version = eqb r.station station && leb r.version version

-- Looked through in order, the last one that counts stays.
unfoldable pub asked_from : Choice → List StationSetting → ℕ → ℕ → Choice
asked_from c [] station version = c
asked_from c (r ∷ rs) station version = asked_from (cond (counts r station version) r.choice c) rs station version

-- What a list gives a station at a version.
unfoldable pub choice_of : List StationSetting → ℕ → ℕ → Choice
choice_of l station version = asked_from crate_choice l station version

-- What follows a list's check: a choice, or 14.
abbrev pub chosen_after : Result ℕ Refusal → Choice → Result Choice Refusal
chosen_after (Ok n) c = Ok c
chosen_after (Err r) c = Err r

-- 14, then the choice.
unfoldable pub setting_for : List ℕ → ℕ → ℕ → Result Choice Refusal
setting_for s station version = chosen_after (settings_checked s) (choice_of (settings_of s) station version)

-- ---- appended: the last version plus 1

-- The last version of a list; 0 where there is none.
unfoldable pub newest_version : List ℕ → ℕ
newest_version s = version_before s (length s / setting_size)

-- A choice that is allowed, a station that four bytes can name, and a version left behind the newest.
unfoldable pub appendable : ℕ → ℕ → Choice → Bool
appendable newest station c = allowed c && (leb station most_number && ltb newest most_number)

-- 15; then the bytes that go behind a list of this newest version.
unfoldable pub setting_after : ℕ → ℕ → Choice → Output
setting_after newest station c =
    cond (not (appendable newest station c))
    (Output.refuse BadSetting)
    (Output.bytes (setting_bytes (record { version = suc newest; station = station; choice = c })))

-- 14 comes first.
unfoldable pub appended : List ℕ → ℕ → Choice → Output
appended s station c = after_check (settings_checked s) (λ n. setting_after (newest_version s) station c)
