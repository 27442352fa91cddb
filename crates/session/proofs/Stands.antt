-- Lists that stand in their buffers: what is read there stands there, and so does what was put there.
use Prim.Native.Nat.{ℕ, ◌*◌, ◌≤◌}
use mathlib.Core.List.{List, []}
use mathlib.Core.Option.{Option as Maybe, none, some}
use mathlib.Core.Path.{◌≡◌, refl}
use native.Mathlib.Nat.{zero-add}
use native.Mathlib.Omega.{arith}
use lib.ListN.{length, take, take-append-drop}
use lib.Seq.{sets, sets-eq, length-sets, length-take-le}
use Rattle.bloom.specs.Have.{Have, have_words, haves_of}
use Rattle.session.specs.GoodState.{SoundHaves, WhereHeard}
use Rattle.session_check.proofs.GoodSessions.{ListParts, HavesParts}
use Rattle.message.specs.Sound.{SoundHashes}
use Rattle.rules.specs.Hash.{Bytes, AreHashes, hashes_at, hashes_bytes}
use Rattle.rules.specs.Sizes.{sizes}
use Rattle.rules.proofs.Hash.{length_hashes_at, hashes_at_bytes}
use Rattle.rules.proofs.Outputs.{written_gathered}
use Rattle.session.specs.Laid.{laid_bytes, laid_words}
use Rattle.session.specs.Plan.{heard}
use Rattle.session.proofs.LaidLaws.{laid_read, laid_good, sound_syncs}
use Rattle.session_state.specs.Value.{kept_haves, heard_hashes, heard_haves}
use Rattle.session_state.proofs.ValueLaws.{kept_length}
use Rattle.session.specs.Kept.{Stand, StandHeard, StandHaves, StandHeardHaves}
use Rattle.std.specs.Prelude.{Option, Some, None}

-- ---- what is read at the start of a buffer stands there

pub stand_at : (buffer : List ℕ) (n : ℕ) → sizes.hash * n ≤ length buffer → Stand (hashes_at buffer 0 n) buffer
stand_at buffer n h = record { fit = rw (length_hashes_at buffer 0 n) h; are = rw (length_hashes_at buffer 0 n) }

pub heard_at : (buffer : List ℕ) (h : Option ℕ) → ((n : ℕ) → h ≡ Some n → ListParts buffer n) → StandHeard (heard_hashes buffer h) buffer
unfolding heard_hashes
heard_at buffer None f = tt
heard_at buffer (Some n) f = stand_at buffer n (f n refl).there

pub haves_at_lem : (bytes records : List ℕ) (h : Option ℕ) → ((n : ℕ) → h ≡ Some n → HavesParts bytes records n)
    → StandHeardHaves (heard_haves bytes records h) records bytes
unfolding heard_haves
haves_at_lem bytes records None f = tt
haves_at_lem bytes records (Some n) f =
    let p = f n refl in
    let many : length (haves_of bytes (kept_haves records n)) ≡ n = kept_length bytes records n p.there in
    record { fit = rw many p.there; are = rw many; good = rw many p.good; few = rw many p.short }

-- no hashes stand anywhere
pub stand_none : (buffer : List ℕ) → Stand [] buffer
unfolding hashes_at
stand_none buffer = record { fit = omega arith; are = refl }

-- ---- what is put at the start of a buffer stands there

pub stand_sets : (hs before : List ℕ) → AreHashes hs → sizes.hash * length hs ≤ length before → Stand hs (sets before 0 (hashes_bytes hs))
stand_sets hs before a fits =
    record { fit = rw (length-sets before 0 (hashes_bytes hs)) fits; are = (written_gathered hs before a fits).list }

-- putting hashes where they stand changes nothing
pub stand_same : (buffer : List ℕ) (n : ℕ) → Bytes buffer → sizes.hash * n ≤ length buffer
    → sets buffer 0 (hashes_bytes (hashes_at buffer 0 n)) ≡ buffer
stand_same buffer n all fits =
    let size : ℕ = sizes.hash * n in
    let first : hashes_bytes (hashes_at buffer 0 n) ≡ take size buffer =
    rw zero-add at (hashes_at_bytes buffer 0 n all (omega arith))
    in
    let long : length (take size buffer) ≡ size = length-take-le size buffer fits in
    rw (first, sets-eq (take size buffer) buffer 0 (omega arith), long, zero-add) (take-append-drop size buffer)

pub heard_sets : (o : Maybe (List ℕ)) (before : List ℕ) → WhereHeard SoundHashes o → sizes.hash * length (heard o) ≤ length before
    → StandHeard o (sets before 0 (hashes_bytes (heard o)))
heard_sets none before g fits = tt
heard_sets (some hs) before g fits = stand_sets hs before g.are fits

module _ (records bytes : List ℕ) where
  pub stand_haves_sets : (vs : List Have) → SoundHaves vs → have_words * length vs ≤ length records → length (laid_bytes vs) ≤ length bytes
      → StandHaves vs (sets records 0 (laid_words vs)) (sets bytes 0 (laid_bytes vs))
  stand_haves_sets vs g room fits =
      let good = laid_good bytes records vs fits room g.each g.few in
      record {
        fit = rw (length-sets records 0 (laid_words vs)) room;
        are = laid_read bytes records vs fits room (sound_syncs vs g.each);
        good = good.0;
        few = good.1;
      }

  pub haves_sets : (o : Maybe (List Have)) → WhereHeard SoundHaves o
      → have_words * length (heard o) ≤ length records
      → length (laid_bytes (heard o)) ≤ length bytes
      → StandHeardHaves o (sets records 0 (laid_words (heard o))) (sets bytes 0 (laid_bytes (heard o)))
  haves_sets none g room fits = tt
  haves_sets (some vs) g room fits = stand_haves_sets vs g room fits
