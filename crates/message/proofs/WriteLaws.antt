-- Passed lists enter a message as they stand, order and repeats too: the bytes of its hashes are the bytes that were passed. Assumes nothing.
use Prim.Native.Nat.{ℕ, ◌+◌, ◌*◌, ◌/◌}
use mathlib.Core.List.{List}
use mathlib.Core.Path.{◌≡◌, ◌∙◌}
use native.Mathlib.Omega.{arith}
use lib.ListN.{length}
use lib.Seq.{take_all}
use Rattle.rules.proofs.Hash.{hashes_at_bytes}
use Rattle.rules.specs.Hash.{Bytes, hashes_bytes}
use Rattle.rules.specs.Sizes.{sizes}
use Rattle.message.specs.Write.{Parts, hashes_of, message_of}

-- bytes that are whole hashes
whole : (s : List ℕ) (n : ℕ) → Bytes s → length s ≡ sizes.hash * n → hashes_bytes (hashes_of s) ≡ s
whole s n bytes long =
    let k : ℕ = length s / sizes.hash in
    hashes_at_bytes s 0 k bytes (omega arith) ∙ take_all (0 + sizes.hash * k) s (omega arith)

module _ (p : Parts) (n : ℕ) where
  pub heads_as_passed : Bytes p.heads → length p.heads ≡ sizes.hash * n → hashes_bytes (message_of p).heads ≡ p.heads
  heads_as_passed = whole p.heads n

  pub need_as_passed : Bytes p.need → length p.need ≡ sizes.hash * n → hashes_bytes (message_of p).need ≡ p.need
  need_as_passed = whole p.need n
