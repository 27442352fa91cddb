-- Lists of bytes: put together of bytes they are bytes. Assumes nothing.
use Prim.Native.Nat.{ℕ, zero, suc, ◌<◌}
use mathlib.Core.List.{List, [], ◌∷◌, ◌++◌}
use native.Mathlib.Omega.{arith}
use lib.ListN.{replicate}
use Rattle.rules.proofs.Hash.{bytes_head, bytes_tail}
use Rattle.rules.specs.Hash.{Bytes}

pub bytes_none : Bytes []
bytes_none i = omega arith

pub bytes_cons : (b : ℕ) (bs : List ℕ) → b < 256 → Bytes bs → Bytes (b ∷ bs)
bytes_cons b bs h t zero = h
bytes_cons b bs h t (suc i) = t i

pub bytes_append : (a b : List ℕ) → Bytes a → Bytes b → Bytes (a ++ b)
bytes_append [] b p q = q
bytes_append (x ∷ a) b p q = bytes_cons x (a ++ b) (bytes_head x a p) (bytes_append a b (bytes_tail x a p) q)

pub zeros_bytes : (n : ℕ) → Bytes (replicate n 0)
zeros_bytes zero = bytes_none
zeros_bytes (suc n) = bytes_cons 0 (replicate n 0) (omega arith) (zeros_bytes n)
