-- Where a hash probes. The words of a hash are words of the bytes where it stands, and each probe is a remainder, so it stands inside the
-- field.
use Prim.Native.Nat.{ℕ, zero, suc, ◌+◌, ◌%◌, ◌≤◌, ◌<◌, max}
use mathlib.Core.Bool.{true}
use mathlib.Core.List.{List}
use mathlib.Core.Path.{◌≡◌}
use native.Mathlib.Nat.{add_assoc, add-zero, mod-lt}
use native.Mathlib.Omega.{arith}
use borrow.Author.Tests.{eqb-true, eqb-false}
use lib.Dec.{eqb}
use lib.ListN.{get_or, length}
use lib.Seq.{slice, get_or-drop, get_or-take}
use Rattle.hash_order.proofs.OrderLaws.{member_none, member_behind}
use Rattle.hash_order.specs.Order.{member}
use Rattle.rules.proofs.Cases.{split}
use Rattle.rules.proofs.Hash.{hash_bytes_lem}
use Rattle.rules.specs.Hash.{Bytes, hash_at, hash_bytes}
use Rattle.rules.specs.LittleEndian.{u32_at}
use Rattle.rules.specs.Sizes.{sizes}
use Rattle.bloom_probe.specs.Probes.{probes_from, probes_of}

get_d_slice : (s : List ℕ) (a e i : ℕ) → a + i < e → get_or (slice a e s) i 0 ≡ get_or s (a + i) 0
get_d_slice s a e i h = rw (get_or-drop, get_or-take)

word_slice : (s : List ℕ) (a e i : ℕ) → a + i + 4 ≤ e → u32_at (slice a e s) i ≡ u32_at s (a + i)
unfolding u32_at
word_slice s a e i h =
    rw (
      get_d_slice s a e i (omega arith),
      get_d_slice s a e (i + 1) (omega arith),
      get_d_slice s a e (i + 2) (omega arith),
      get_d_slice s a e (i + 3) (omega arith),
      add_assoc a i 1,
      add_assoc a i 2,
      add_assoc a i 3,
    )

pub hash_word : (s : List ℕ) (at i : ℕ) → Bytes s → at + sizes.hash ≤ length s → i + 4 ≤ sizes.hash
    → u32_at (hash_bytes (hash_at s at)) i ≡ u32_at s (at + i)
hash_word s at i b h k = rw (hash_bytes_lem s at b h) (word_slice s at (at + sizes.hash) i (omega arith))

pub probes_at : (m p : ℕ) (s : List ℕ) (at : ℕ) → Bytes s → at + sizes.hash ≤ length s
    → probes_of m p (hash_at s at) ≡ probes_from (max 1 p) m (u32_at s at % m) (u32_at s (at + 4) % m) (u32_at s (at + 8) % m)
unfolding probes_of
probes_at m p s at b h =
    rw (hash_word s at 0 b h (omega arith), hash_word s at 4 b h (omega arith), hash_word s at 8 b h (omega arith), add-zero at)

steps_below : (count m x y z k : ℕ) → 0 < m → x < m → member k (probes_from count m x y z) ≡ true → k < m
unfolding probes_from
steps_below zero m x y z k some a e = absurd (member_none k e)
steps_below (suc count) m x y z k some a e =
    split (eqb k x)
    (λ q. rw (eqb-true k x q) a)
    (λ q. steps_below count m ((x + y) % m) ((y + z) % m) z k some (mod-lt (x + y) some) (member_behind k x _ e (eqb-false k x q)))

pub probes_below : (m p h k : ℕ) → 0 < m → member k (probes_of m p h) ≡ true → k < m
unfolding probes_of
probes_below m p h k some =
    let w : ℕ = u32_at (hash_bytes h) 0 in
    steps_below (max 1 p) m (w % m) (u32_at (hash_bytes h) 4 % m) (u32_at (hash_bytes h) 8 % m) k some (mod-lt w some)
