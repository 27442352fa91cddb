-- Haves as lent records. 01, Shapes that can't come over: a message's haves are handed on as one lent list of records, after the form in which they
-- are numbers in arrays. A list of records means the list of their words: what is said of haves as words is said of it. That a record's words are the
-- have that it names is the law `summaries-mean`.
use Rattle.std.specs.Prelude.{ℕ, zero, suc, ◌+◌, ◌*◌, cond, List, [], ◌∷◌, ◌++◌, leb, get_or}
use Rattle.std.proofs.Math.Seq.{slice}
use Rattle.bloom.specs.Have.{Have, have_words, have_count}
use Rattle.rules.specs.Hash.{hashes_at}
use Rattle.send_records.specs.declared.summary.HaveSummary.{HaveSummary}

-- The words of a record, in their order.
abbrev pub record_words : HaveSummary → List ℕ
record_words h = h.place ∷ h.count ∷ h.entries ∷ h.bits ∷ h.probes ∷ h.field ∷ h.size ∷ []

-- The words of a list of records.
unfoldable pub summary_words : List HaveSummary → List ℕ
summary_words [] = []
summary_words (h ∷ hs) = record_words h ++ summary_words hs

-- The have that a record names over the lent bytes: its last-sync hashes, and its filter with the field that stands there.
unfoldable pub summary_have : List ℕ → HaveSummary → Have
summary_have s h =
    record {
      last_sync = hashes_at s h.place h.count;
      filter =
          record {
            entries = h.entries;
            bits = h.bits;
            probes = h.probes;
            field = slice h.field (h.field + h.size) s;
          };
    }

-- What stands behind a list's end.
abbrev pub no_have : HaveSummary
no_have =
    record {
      place = 0;
      count = 0;
      entries = 0;
      bits = 0;
      probes = 0;
      field = 0;
      size = 0;
    }

-- Record i of haves that are words.
unfoldable pub summary_in : List ℕ → ℕ → HaveSummary
summary_in words i =
    cond (leb (have_count words) i)
    no_have
    (record {
      place = get_or words (i * have_words) 0;
      count = get_or words (i * have_words + 1) 0;
      entries = get_or words (i * have_words + 2) 0;
      bits = get_or words (i * have_words + 3) 0;
      probes = get_or words (i * have_words + 4) 0;
      field = get_or words (i * have_words + 5) 0;
      size = get_or words (i * have_words + 6) 0;
    })

-- The records from record i on, as many as the last argument says.
unfoldable pub summaries_from : List ℕ → ℕ → ℕ → List HaveSummary
summaries_from words i zero = []
summaries_from words i (suc count) = summary_in words i ∷ summaries_from words (suc i) count

-- All whole records of a list of words.
unfoldable pub summaries_of : List ℕ → List HaveSummary
summaries_of words = summaries_from words 0 (have_count words)
