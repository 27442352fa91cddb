-- A message that was written is sound: its lists, haves, filters, chunks and size are those that a message may have.
use Prim.Native.Nat.{ℕ, zero, suc, ◌+◌, ◌/◌, ◌≤◌, ◌<◌}
use mathlib.Core.List.{List}
use mathlib.Core.Path.{◌≡◌, refl}
use native.Mathlib.Omega.{arith}
use lib.ListN.{length}
use Rattle.rules.specs.Hash.{Bytes, hashes_at}
use Rattle.rules.specs.Output.{bytes}
use Rattle.rules.specs.Sizes.{sizes}
use Rattle.rules.proofs.Hash.{length_hashes_at, hashes_are_hashes}
use Rattle.rules.proofs.PassedLaws.{passed_is}
use Rattle.bloom.specs.Have.{have_count, have_in, haves_from, haves_of, sync_place, sync_count, numbers_in, filter_with, GoodHaves}
use Rattle.message.specs.Sound.{Each, SoundHashes, SoundHave, SoundMessage}
use Rattle.message.specs.Write.{Parts, message_of, message_output}
use Rattle.message_size.proofs.SizeLaws.{part_long, have_fits, haves_long, haves_few, chunks_long}
use Rattle.message_size.proofs.WriteLaws.{message_written}

sound_hashes : (s : List ℕ) (place count : ℕ) → Bytes s → count ≤ sizes.hashes → SoundHashes (hashes_at s place count)
sound_hashes s place count all few =
    record { few = rw (length_hashes_at s place count) few; are = hashes_are_hashes s place count all }

module _ (s haves : List ℕ) (all : Bytes s) (good : GoodHaves s haves) where
  sound_have : (i : ℕ) → i < have_count haves → SoundHave (have_in s haves i)
  unfolding have_in filter_with
  sound_have i h =
      let f = numbers_in haves i in
      let w = have_fits s haves i f refl good h in
      record {
        last_sync = sound_hashes s (sync_place haves i) (sync_count haves i) all w.few;
        filter = rw (part_long s f.place f.size w.field) w.rules;
      }

  sound_haves : (count i : ℕ) → i + count ≤ have_count haves → Each SoundHave (haves_from s haves i count)
  unfolding Each haves_from
  sound_haves zero i h = tt
  sound_haves (suc count) i h = (sound_have i (omega arith), sound_haves count (suc i) (omega arith))

-- Bytes are what lent slices of bytes hold; of the words of the haves and the lengths nothing is asked.
pub written_sound : (p : Parts) (l : List ℕ) → Bytes p.heads → Bytes p.need → Bytes p.bytes → message_output p ≡ bytes l → SoundMessage (message_of p)
unfolding haves_of
written_sound p l heads need s e =
    let w = message_written p l e in
    let a = w.accepted in
    record {
      heads = sound_hashes p.heads 0 (length p.heads / sizes.hash) heads (passed_is p.heads _ a.heads).few;
      need = sound_hashes p.need 0 (length p.need / sizes.hash) need (passed_is p.need _ a.need).few;
      few = rw (haves_long p.bytes p.haves (have_count p.haves) 0) (haves_few p.bytes p.haves a.haves);
      haves = sound_haves p.bytes p.haves s a.haves (have_count p.haves) 0 (omega arith);
      chunks = rw (chunks_long p.chunks p.lengths 0) a.few;
      size = rw (← w.is) w.small;
    }
