-- A writing call has one answer and leaves one buffer: both are functions of the output and of the buffer as lent. Code shows that it wrote
-- in one of three ways: there was enough room, there was less, or it refused before it came to that.
use Prim.Native.Nat.{ℕ, suc, ◌+◌, ◌*◌, ◌≤◌, ◌<◌}
use mathlib.Core.List.{List, [], ◌∷◌, ◌++◌}
use mathlib.Core.Path.{◌≡◌, refl, sym, ◌∙◌}
use native.Mathlib.Nat.{add-zero, zero-add}
use native.Mathlib.Omega.{arith}
use lib.ListN.{length, set, take}
use lib.Seq.{sets, slice, sets-eq, take_at}
use borrow.Author.Tests.{lt-ltb, le-ltb}
use Rattle.rules.specs.Hash.{Bytes, AreHashes, hashes_at, hashes_bytes}
use Rattle.rules.specs.Output.{Output, bytes, refuse, Written, Gathered}
use Rattle.rules.specs.Sizes.{sizes}
use Rattle.rules.specs.declared.refusal.Refusal.{Refusal}
use Rattle.rules.specs.declared.refusal.Refusal.TheVariants.{NoRoom}
use Rattle.rules.proofs.Hash.{length_hashes_bytes, hashes_there_and_back, hashes_at_bytes}
use Rattle.std.specs.Prelude.{Result, Ok, Err}

pub written_once : {o : Output} {before a₁ a₂ : List ℕ} {r₁ r₂ : Result ℕ Refusal} → Written o before a₁ r₁ → Written o before a₂ r₂ → (r₁ ≡ r₂) × (a₁ ≡ a₂)
written_once w v = (w.answer ∙ sym v.answer, w.content ∙ sym v.content)

pub written_bytes : (l before after : List ℕ) (size : ℕ) → size ≡ length l → size ≤ length before → after ≡ sets before 0 l
    → Written (bytes l) before after (Ok size)
written_bytes l before after size e h q =
    let fits : length l ≤ length before = omega arith in
    record { answer = rw (le-ltb _ _ fits, e); content = rw (le-ltb _ _ fits) q }

pub no_room : (l before : List ℕ) (size : ℕ) → size ≡ length l → length before < size → Written (bytes l) before before (Err (NoRoom size))
no_room l before size e h =
    let short : length before < length l = omega arith in
    record { answer = rw (lt-ltb _ _ short, e); content = rw (lt-ltb _ _ short) }

pub refused : (r : Refusal) (before : List ℕ) → Written (refuse r) before before (Err r)
refused r before = record { answer = refl; content = refl }

-- Bytes put one part after the other are the bytes put at once.
pub sets_append : (a b l : List ℕ) (i : ℕ) → sets (sets l i a) (i + length a) b ≡ sets l i (a ++ b)
sets_append [] b l i = rw add-zero
sets_append (x ∷ a) b l i =
    let e : i + suc (length a) ≡ suc i + length a = omega arith in
    rw e (sets_append a b (set l i x) (suc i))

-- ---- lists of hashes

pub take_sets : (b l : List ℕ) → length b ≤ length l → take (length b) (sets l 0 b) ≡ b
take_sets b l h = rw (sets-eq b l 0 (omega arith)) (take_at b _ (length b) refl)

-- hashes that were put at a buffer's start are read back
pub written_gathered : (hs before : List ℕ) → AreHashes hs → sizes.hash * length hs ≤ length before
    → Gathered hs (sets before 0 (hashes_bytes hs)) (length hs)
written_gathered hs before a h =
    let long : length (hashes_bytes hs) ≡ sizes.hash * length hs = length_hashes_bytes hs in
    let back : take (sizes.hash * length hs) (sets before 0 (hashes_bytes hs)) ≡ hashes_bytes hs =
    rw long at (take_sets (hashes_bytes hs) before (omega arith))
    in
    record { many = refl; list = hashes_there_and_back _ 0 hs a (rw zero-add back) }

-- the bytes that a gathered list takes
pub gathered_bytes : {hs after : List ℕ} {count : ℕ} → Gathered hs after count → Bytes after → sizes.hash * count ≤ length after
    → hashes_bytes hs ≡ take (sizes.hash * count) after
gathered_bytes {hs} {after} {count} g b h =
    let at : hashes_bytes (hashes_at after 0 count) ≡ slice 0 (0 + sizes.hash * count) after = hashes_at_bytes after 0 count b (omega arith) in
    rw (sym g.list) (rw zero-add at at)
