-- The premises of P6, P7 and P12 are met, by computation: hashes whose bytes behind the three words are 0, and a filter of one byte and one probe in which
-- all bits but b's are set. Assumes nothing.
use mathlib.Core.List.{[], ◌∷◌}
use mathlib.Core.Path.{refl}
use borrow.Author.Tests.{ltb-true}
use Rattle.bloom.specs.Filter.{filter_of4}
use Rattle.bloom.specs.Have.{Have}
use Rattle.send_members.specs.Internal.Members.{last_syncs, filters}
use Rattle.hash_order.proofs.KeepLaws.{once_ascends}
use Rattle.hash_order.specs.Order.{ascends}
use Rattle.bloom_probe.specs.Contains.{clear_at, none_clear, contains, any_contains}
use Rattle.bloom_probe.specs.Probes.{probes_from, probes_of, bit_at}
use Rattle.rules.specs.Hash.{big_endian, big_endian_bytes, hash_bytes}
use Rattle.rules.specs.LittleEndian.{u32_at}
use Rattle.walk.proofs.Example.{words_hash}
use Rattle.examples.specs.Examples.{Met}

-- bits 1, 3 and 4
abbrev have : Have
have = record { last_sync = []; filter = filter_of4 1 8 1 (0x1a ∷ []) }

pub premises_met : Met
unfolding big_endian big_endian_bytes hash_bytes u32_at probes_from probes_of bit_at clear_at none_clear contains any_contains last_syncs filters ascends
premises_met =
    record {
      words123 = (words_hash 1 2 3, ltb-true _ _ refl, record { first = refl; second = refl; third = refl });
      words100 = (words_hash 1 0 0, ltb-true _ _ refl, record { first = refl; second = refl; third = refl });
      words200 = (words_hash 2 0 0, ltb-true _ _ refl, record { first = refl; second = refl; third = refl });
      only_b = (
        have,
        words_hash 1 0 0,
        words_hash 2 0 0,
        words_hash 3 0 0,
        words_hash 4 0 0,
        once_ascends _ refl,
        record { no_sync = refl; a_there = refl; b_missed = refl; c_there = refl; d_there = refl },
      );
    }
