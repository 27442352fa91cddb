-- Hashes put one behind the other: each law is one turn of a loop, with its test as a hypothesis; what has been put and what is left make the
-- whole.
use Prim.Native.Nat.{ℕ, suc, ◌+◌, ◌*◌, ◌≤◌}
use mathlib.Core.Bool.{Bool, true, false}
use mathlib.Core.List.{List, [], ◌∷◌, ◌++◌}
use mathlib.Core.Path.{◌≡◌, refl, ◌∙◌}
use native.Mathlib.Omega.{arith}
use lib.ListN.{length, get_or}
use lib.Seq.{sets, slice}
use Rattle.rules.specs.Hash.{Bytes, hash_at, hash_bytes, hashes_bytes}
use Rattle.rules.specs.Sizes.{sizes}
use Rattle.rules.proofs.Hash.{hash_bytes_lem, length_hash_bytes}
use Rattle.rules.proofs.Outputs.{sets_append}
use Rattle.table_graph.specs.Internal.Marks.{marked}
use Rattle.table_graph.proofs.PickLaws.{count_starts, count_taken, count_passed, count_ends}

-- one hash more
module _ (h : ℕ) (l m : List ℕ) (e : l ≡ h ∷ m) where
  pub room_one : (at room : ℕ) → at + sizes.hash * length l ≤ room → at + sizes.hash + sizes.hash * length m ≤ room
  room_one at room f =
      let g : at + sizes.hash * suc (length m) ≤ room = rw e at f in
      omega arith

  pub put_one : (s out next whole : List ℕ) (place at : ℕ) → Bytes s → place + sizes.hash ≤ length s
      → hash_at s place ≡ h
      → next ≡ sets out at (slice place (place + sizes.hash) s)
      → sets out at (hashes_bytes l) ≡ whole
      → sets next (at + sizes.hash) (hashes_bytes m) ≡ whole
  unfolding hashes_bytes
  put_one s out next whole place at b f same put q =
      let rest : List ℕ = hashes_bytes m in
      let bytes : hash_bytes h ≡ slice place (place + sizes.hash) s = rw same at (hash_bytes_lem s place b f) in
      let one : sets out at (hash_bytes h ++ rest) ≡ whole = rw e at q in
      let two : sets (sets out at (hash_bytes h)) (at + length (hash_bytes h)) rest ≡ whole = sets_append (hash_bytes h) rest out at ∙ one in
      let three : sets (sets out at (hash_bytes h)) (at + sizes.hash) rest ≡ whole = rw (length_hash_bytes h) at two in
      rw (put, ← bytes) three

-- a hash that is passed over
module _ (l m : List ℕ) (e : l ≡ m) where
  pub room_same : (at room : ℕ) → at + sizes.hash * length l ≤ room → at + sizes.hash * length m ≤ room
  room_same at room f = rw e at f

  pub put_same : (out whole : List ℕ) (at : ℕ) → sets out at (hashes_bytes l) ≡ whole → sets out at (hashes_bytes m) ≡ whole
  put_same out whole at f = rw e at f

-- none left
pub put_none : (l : List ℕ) → l ≡ [] → (out whole : List ℕ) (at : ℕ) → sets out at (hashes_bytes l) ≡ whole → out ≡ whole
unfolding hashes_bytes
put_none l e out whole at f = rw e at f

-- ---- where they end, if those that are marked are put from the start on

pub ends_start : (m : List Bool) → 0 ≡ sizes.hash * marked 0 m
ends_start m = omega (arith, count_starts m)

module _ (m : List Bool) (i at : ℕ) (so : at ≡ sizes.hash * marked i m) where
  pub ends_one : get_or m i false ≡ true → at + sizes.hash ≡ sizes.hash * marked (i + 1) m
  ends_one e = omega (arith, count_taken m i (marked i m) refl e)

  pub ends_same : get_or m i false ≡ false → at ≡ sizes.hash * marked (i + 1) m
  ends_same e = omega (arith, count_passed m i (marked i m) refl e)

  pub ends_all : (n : ℕ) → i ≤ n → n ≤ i → at ≡ sizes.hash * marked n m
  ends_all n h k = omega (arith, count_ends m i (marked i m) refl n h k)
