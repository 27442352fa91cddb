-- A record of a sample: kind, size, answer, input. What the definitions of wire answer to its input is held to the stored answer.
use Rattle.std.specs.Prelude.{ℕ, ◌+◌, ◌-◌, Bool, cond, not, ◌&&◌, ◌||◌, List, Option, Some, None, ltb, eqb, length, get_or, take, drop}
use Rattle.leb128.specs.Number.{number_at, most64, most_filter}
use Rattle.rules.specs.LittleEndian.{u16_at}
use Rattle.wire.specs.Item.{prefixed_at, hash_list_at}
use Rattle.wire_calls.specs.WireWords.{number_words, prefixed_words, hash_list_words}
use Rattle.sample_replay.specs.Kind.{kind_of}
use Rattle.sample_replay.specs.SampleWords.{words_at}
use Rattle.sample_replay.specs.declared.kind.Kind.{Kind}
use Rattle.sample_replay.specs.declared.kind.Kind.TheVariants.{Number, FilterNumber, PrefixedString, HashList}
use Rattle.sample_replay.specs.declared.record.Record.{Record}

-- Places within a record, whose first byte is its kind: the size of the input.
abbrev pub size_place : ℕ
size_place = 1

-- The stored answer, four words.
abbrev pub answer_place : ℕ
answer_place = 3

-- The input, up to the record's end.
abbrev pub input_place : ℕ
input_place = 35

-- The first words are equal, and where they say that the input was accepted, so are the others. Of a refusal the original tells no more.
unfoldable pub agreeing : List ℕ → List ℕ → Bool
agreeing stored found =
    eqb (get_or stored 0 0) (get_or found 0 0)
    && (not (eqb (get_or stored 0 0) 0)
    || (eqb (get_or stored 1 0) (get_or found 1 0)
    && (eqb (get_or stored 2 0) (get_or found 2 0) && eqb (get_or stored 3 0) (get_or found 3 0))))

-- The answer of each kind, as words.
abbrev pub answer_words : Kind → List ℕ → List ℕ
answer_words Number input = number_words (number_at most64 input 0 (length input))
answer_words FilterNumber input = number_words (number_at most_filter input 0 (length input))
answer_words PrefixedString input = prefixed_words (prefixed_at input 0 (length input))
answer_words HashList input = hash_list_words (hash_list_at input 0 (length input))

-- Whether the answer is the stored one.
abbrev pub verdict_of : Kind → List ℕ → List ℕ → Bool
verdict_of kind input stored = agreeing stored (answer_words kind input)

-- A record of an unknown kind is bad.
unfoldable pub record_of : Option Kind → List ℕ → List ℕ → ℕ → Option Record
record_of (Some k) input stored end = Some (record { kind = k; same = verdict_of k input stored; next = end })
record_of None input stored end = None

-- The record at a place, bad where the bytes end inside it.
unfoldable pub record_at : List ℕ → ℕ → Option Record
record_at s at =
    let size = u16_at s (at + size_place) in
    let start = at + input_place in
    cond (ltb (length s - at) input_place)
    None
    (cond (ltb (length s - start) size)
    None
    (record_of (kind_of (get_or s at 0)) (take size (drop start s)) (words_at s (at + answer_place)) (start + size)))
