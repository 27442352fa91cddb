-- P1 to P5, by computation. Assumes nothing.
use Prim.Native.Nat.{ℕ}
use mathlib.Core.Bool.{true}
use mathlib.Core.List.{[], ◌∷◌}
use mathlib.Core.Path.{◌≡◌, refl}
use Rattle.bloom.specs.Filter.{filter_bytes, field_size, default_bits, default_probes}
use Rattle.bloom.specs.Have.{haves_from, haves_of}
use Rattle.message_read.specs.MessageRead.{heads_at, opening_at, section_at, after_opening, after_section, lists_at, need_at, message_at, message_in}
use Rattle.message_read.specs.declared.parse.Places.{Places}
use Rattle.table_graph.specs.Graph.{heads, beyond}
use Rattle.message_items.specs.Items.{after_item, have_item, chunk_item, many_at, after_list, list_from, list_at, haves_at, chunks_at, chunks_of}
use Rattle.hash_lists.specs.Lists.{same}
use Rattle.message.specs.Flags.{flags_of, add_flags, flags_in, section_bytes}
use Rattle.message.specs.Message.{joined, counted, have_bytes, message_bytes}
use Rattle.message.specs.declared.version.MessageVersion.TheVariants.{V1}
use Rattle.waiting_missing.specs.Missing.{asks_from, missing}
use Rattle.leb128.specs.Number.{shortest, sevens, go_on, find, answer_at, number_at}
use Rattle.hash_order.specs.Order.{keep, every, ascend}
use Rattle.bloom_probe.specs.Build.{add_hashes, filter_of}
use Rattle.rules.specs.Hash.{hashes_at, hashes_bytes}
use Rattle.session.specs.Plan.{need_of, have_of, haves_for, unknown_sync, list_of, body_heard, body_of, silence, sent_after, heads_for, flags_for, version_for, plan_of, planned, plan_body}
use Rattle.session_state.specs.Session.{fresh, fresh_read_only, set_read_only}
use Rattle.table.specs.Table.{rows_from, rows_where}
use Rattle.wire.specs.Item.{run, left_at, after_number, after_part, after_listed, count_at, prefixed_at, hash_list_at, prefixed_bytes, hash_list_bytes}
use Rattle.examples.specs.Examples.{Reads, Writes, empty_message}
use Rattle.session.specs.Written.{list_chunks, chunks_for, message_for}
use Rattle.std.specs.Prelude.{Option, Some, None}
use Rattle.message.specs.declared.flags.MessageFlags.{MessageFlags}

-- where the parts of a message of nothing but flags stand, up to `next`
abbrev empty_places : Option MessageFlags → ℕ → Places
empty_places flags next = record { version = V1; heads = run 2 0; need = run 3 0; haves = run 4 0; chunks = run 5 0; flags = flags; next = next }

pub reads : Reads (0x42 ∷ 0x00 ∷ 0x00 ∷ 0x00 ∷ 0x00 ∷ []) (empty_message None)
    × Reads (0x42 ∷ 0x00 ∷ 0x00 ∷ 0x00 ∷ 0x00 ∷ 0x00 ∷ []) (empty_message (Some (flags_of 0)))
    × Reads (0x42 ∷ 0x00 ∷ 0x00 ∷ 0x00 ∷ 0x00 ∷ 0x02 ∷ 0x02 ∷ 0x84 ∷ []) (empty_message (Some (flags_of 4)))
unfolding
    left_at
    after_number
    go_on
    find
    answer_at
    number_at
    count_at
    prefixed_at
    hash_list_at
    after_listed
    after_part
    after_item
    have_item
    chunk_item
    many_at
    after_list
    list_from
    list_at
    haves_at
    chunks_at
    chunks_of
    heads_at
    opening_at
    section_at
    after_opening
    after_section
    lists_at
    need_at
    message_at
    message_in
    add_flags
    flags_in
    hashes_at
    haves_from
    haves_of
reads = (
  record { places = empty_places None 5; have_words = []; chunk_words = []; found = refl; says = refl },
  record { places = empty_places (Some (flags_of 0)) 6; have_words = []; chunk_words = []; found = refl; says = refl },
  record { places = empty_places (Some (flags_of 4)) 8; have_words = []; chunk_words = []; found = refl; says = refl },
)

pub written : (message_bytes (empty_message None) ≡ 0x42 ∷ 0x00 ∷ 0x00 ∷ 0x00 ∷ 0x00 ∷ [])
    × (message_bytes (empty_message (Some (flags_of 4))) ≡ 0x42 ∷ 0x00 ∷ 0x00 ∷ 0x00 ∷ 0x00 ∷ 0x02 ∷ 0x02 ∷ 0x84 ∷ [])
unfolding message_bytes hash_list_bytes hashes_bytes counted joined section_bytes shortest sevens
written = (refl, refl)

pub writes : Writes fresh (0x42 ∷ 0x00 ∷ 0x00 ∷ 0x01 ∷ 0x00 ∷ 0x00 ∷ 0x00 ∷ 0x02 ∷ 0x02 ∷ 0x84 ∷ [])
    × Writes fresh_read_only (0x42 ∷ 0x00 ∷ 0x00 ∷ 0x01 ∷ 0x00 ∷ 0x00 ∷ 0x00 ∷ 0x02 ∷ 0x02 ∷ 0x86 ∷ [])
    × Writes (set_read_only fresh true) (0x42 ∷ 0x00 ∷ 0x00 ∷ 0x01 ∷ 0x00 ∷ 0x00 ∷ 0x00 ∷ 0x02 ∷ 0x02 ∷ 0x86 ∷ [])
unfolding
    set_read_only
    plan_body
    plan_of
    planned
    need_of
    asks_from
    missing
    haves_for
    have_of
    unknown_sync
    body_of
    body_heard
    silence
    same
    sent_after
    heads_for
    flags_for
    version_for
    every
    keep
    ascend
    heads
    beyond
    rows_where
    rows_from
    filter_of
    add_hashes
    field_size
    filter_bytes
    message_for
    chunks_for
    list_chunks
    message_bytes
    have_bytes
    hash_list_bytes
    prefixed_bytes
    hashes_bytes
    counted
    joined
    section_bytes
    shortest
    sevens
writes = (
  record { said = plan_of default_bits default_probes [] [] fresh (list_of []); next = planned [] fresh (list_of []); speaks = refl; written = λ host. refl },
  record { said = plan_of default_bits default_probes [] [] fresh_read_only (list_of []); next = planned [] fresh_read_only (list_of []); speaks = refl; written = λ host. refl },
  record {
    said = plan_of default_bits default_probes [] [] (set_read_only fresh true) (list_of []);
    next = planned [] (set_read_only fresh true) (list_of []);
    speaks = refl;
    written = λ host. refl;
  },
)
