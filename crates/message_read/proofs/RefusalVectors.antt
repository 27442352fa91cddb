-- Short messages that are refused, one for each way to be cut, by computation. Assumes nothing.
use mathlib.Core.List.{[], ◌∷◌}
use mathlib.Core.Path.{◌≡◌, refl}
use Rattle.bloom.specs.Filter.{field_size}
use Rattle.bloom.specs.FilterRead.{field_at, numbers_at, filter_at, after_filter}
use Rattle.rules.specs.declared.refusal.Refusal.TheVariants.{Cut, WrongType, BadNumber, PastSize}
use Rattle.wire.specs.Item.{left_at, after_number, after_part, after_listed, count_at, prefixed_at, hash_list_at}
use Rattle.leb128.specs.Number.{go_on, find, answer_at, number_at}
use Rattle.message_items.specs.Items.{have_at, after_item, have_words_of, have_item, chunk_item, many_at, after_list, list_from, list_at, haves_at, chunks_at}
use Rattle.message_read.specs.MessageRead.{refused, heads_at, opening_at, section_at, after_opening, after_section, lists_at, need_at, message_at}

-- In order: no bytes; another first byte; the heads' count missing; a count past its limit whose hashes are missing too; a cut chunk; a cut filter
-- string; a filter's b missing at its string's end; a cut field; a cut flags section; a length that isn't shortest.
pub refusal_vectors : (message_at [] ≡ refused (Cut 0))
    × (message_at (0x41 ∷ []) ≡ refused (WrongType 0x41))
    × (message_at (0x42 ∷ []) ≡ refused (Cut 1))
    × (message_at (0x42 ∷ 0x81 ∷ 0x80 ∷ 0x80 ∷ 0x01 ∷ []) ≡ refused (PastSize 1))
    × (message_at (0x42 ∷ 0x00 ∷ 0x00 ∷ 0x00 ∷ 0x01 ∷ 0x02 ∷ 0xaa ∷ []) ≡ refused (Cut 5))
    × (message_at (0x42 ∷ 0x00 ∷ 0x00 ∷ 0x01 ∷ 0x00 ∷ 0x05 ∷ 0x01 ∷ 0x00 ∷ []) ≡ refused (Cut 5))
    × (message_at (0x42 ∷ 0x00 ∷ 0x00 ∷ 0x01 ∷ 0x00 ∷ 0x01 ∷ 0x01 ∷ 0x00 ∷ []) ≡ refused (Cut 7))
    × (message_at (0x42 ∷ 0x00 ∷ 0x00 ∷ 0x01 ∷ 0x00 ∷ 0x04 ∷ 0x01 ∷ 0x0a ∷ 0x07 ∷ 0xff ∷ 0x00 ∷ []) ≡ refused (Cut 9))
    × (message_at (0x42 ∷ 0x00 ∷ 0x00 ∷ 0x00 ∷ 0x00 ∷ 0x05 ∷ []) ≡ refused (Cut 5))
    × (message_at (0x42 ∷ 0x00 ∷ 0x00 ∷ 0x00 ∷ 0x00 ∷ 0x80 ∷ 0x00 ∷ []) ≡ refused (BadNumber 5))
unfolding
    left_at
    after_number
    go_on
    find
    answer_at
    number_at
    count_at
    prefixed_at
    hash_list_at
    after_listed
    after_part
    after_item
    have_item
    chunk_item
    many_at
    after_list
    list_from
    list_at
    haves_at
    chunks_at
    heads_at
    opening_at
    section_at
    after_opening
    after_section
    lists_at
    need_at
    message_at
    after_filter
    have_at
    have_words_of
    field_size
    field_at
    numbers_at
    filter_at
refusal_vectors = (refl, refl, refl, refl, refl, refl, refl, refl, refl, refl)
