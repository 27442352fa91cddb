-- A have as numbers: seven words a record in a lent list, with places into one lent buffer. 01, Shapes that can't come over: haves are handed on
-- as lent records of places and counts.
use Rattle.std.specs.Prelude.{ℕ, zero, suc, ◌+◌, ◌*◌, ◌/◌, ◌%◌, ◌<◌, min, Bool, true, ◌&&◌, List, [], ◌∷◌, ◌≡◌, leb, eqb, length, get_or}
use Rattle.std.proofs.Math.Seq.{slice}
use Rattle.rules.specs.Hash.{hashes_at}
use Rattle.rules.specs.Sizes.{sizes}
use Rattle.bloom.specs.Filter.{Filter, filter_rules}
use Rattle.bloom.specs.declared.have.FilterNumbers.{FilterNumbers}

-- Words of a record, in order: place and count of the last-sync hashes, entries, bits, probes, place and length of the field.
abbrev pub have_words : ℕ
have_words = 7

-- How many records a list has.
abbrev pub have_count : List ℕ → ℕ
have_count haves = length haves / have_words

-- A filter's numbers, in the order of their words.
abbrev pub numbers_of : ℕ → ℕ → ℕ → ℕ → ℕ → FilterNumbers
numbers_of entries bits probes place size =
    record { entries = entries; bits = bits; probes = probes; place = place; size = size }

-- The filter's numbers in record i.
abbrev pub numbers_in : List ℕ → ℕ → FilterNumbers
numbers_in haves i =
    numbers_of
    (get_or haves (i * have_words + 2) 0)
    (get_or haves (i * have_words + 3) 0)
    (get_or haves (i * have_words + 4) 0)
    (get_or haves (i * have_words + 5) 0)
    (get_or haves (i * have_words + 6) 0)

-- The filter that numbers are, its field standing in the lent bytes.
unfoldable pub filter_with : List ℕ → FilterNumbers → Filter
filter_with s f =
    record { entries = f.entries; bits = f.bits; probes = f.probes; field = slice f.place (f.place + f.size) s }

-- The filters of the records from record i on, as many as the last argument says.
unfoldable pub filters_from : List ℕ → List ℕ → ℕ → ℕ → List Filter
filters_from s haves i zero = []
filters_from s haves i (suc count) = filter_with s (numbers_in haves i) ∷ filters_from s haves (suc i) count

-- The filters of a whole list.
unfoldable pub filters_of : List ℕ → List ℕ → List Filter
filters_of s haves = filters_from s haves 0 (have_count haves)

-- Where the first last-sync hash of record i stands.
abbrev pub sync_place : List ℕ → ℕ → ℕ
sync_place haves i = get_or haves (i * have_words) 0

-- How many last-sync hashes record i has.
abbrev pub sync_count : List ℕ → ℕ → ℕ
sync_count haves i = get_or haves (i * have_words + 1) 0

-- A have as a value: its last-sync hashes, and its filter.
pub record Have : Type 0 where
  pub last_sync : List ℕ
  pub filter : Filter

-- The have that record i is over the lent bytes.
unfoldable pub have_in : List ℕ → List ℕ → ℕ → Have
have_in s haves i =
    record {
      last_sync = hashes_at s (sync_place haves i) (sync_count haves i);
      filter = filter_with s (numbers_in haves i);
    }

-- The haves from record i on, as many as the last argument says.
unfoldable pub haves_from : List ℕ → List ℕ → ℕ → ℕ → List Have
haves_from s haves i zero = []
haves_from s haves i (suc count) = have_in s haves i ∷ haves_from s haves (suc i) count

-- The haves of a whole list.
unfoldable pub haves_of : List ℕ → List ℕ → List Have
haves_of s haves = haves_from s haves 0 (have_count haves)

-- Refusal 10: the numbers keep the filter rules, and the field stands inside the lent bytes.
unfoldable pub filter_good : List ℕ → FilterNumbers → Bool
filter_good s f = filter_rules f.entries f.bits f.probes f.size && leb (f.place + f.size) (length s)

-- Refusal 10 for record i: its last-sync hashes stand inside the lent bytes too.
unfoldable pub have_good : List ℕ → List ℕ → ℕ → Bool
have_good s haves i = leb (sync_place haves i + sizes.hash * sync_count haves i) (length s) && filter_good s (numbers_in haves i)

-- Whether the records from record i on are good, as many as the last argument says.
unfoldable pub haves_good_from : List ℕ → List ℕ → ℕ → ℕ → Bool
haves_good_from s haves i zero = true
haves_good_from s haves i (suc count) = have_good s haves i && haves_good_from s haves (suc i) count

-- Refusal 10 for a list of haves that is passed: whole records, each good. Of more haves than a list may have the first are looked at;
-- the number itself is refusal 4, which comes later.
unfoldable pub passed_good : List ℕ → List ℕ → Bool
passed_good s haves = eqb (length haves % have_words) 0 && haves_good_from s haves 0 (min (have_count haves) sizes.haves)

-- Whether the records from record i on, as many as the last argument says, have no more last-sync hashes than a list may have.
unfoldable pub syncs_few : List ℕ → ℕ → ℕ → Bool
syncs_few haves i zero = true
syncs_few haves i (suc count) = leb (sync_count haves i) sizes.hashes && syncs_few haves (suc i) count

-- Refusal 4 for a list of haves that is passed: neither their number nor a list of last-sync hashes passes its size.
unfoldable pub passed_few : List ℕ → Bool
passed_few haves = leb (have_count haves) sizes.haves && syncs_few haves 0 (have_count haves)

-- Haves that pass both tests.
pub record GoodHaves (s haves : List ℕ) : Type 0 where
  pub good : passed_good s haves ≡ true
  pub few : passed_few haves ≡ true

-- Every record's filter is good.
pub record GoodFilters (s haves : List ℕ) : Type 0 where
  pub each : (i : ℕ) → i < have_count haves → filter_good s (numbers_in haves i) ≡ true
