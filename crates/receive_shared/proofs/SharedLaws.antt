-- The shared heads, one law for each way through the tests. Assumes nothing.
use Prim.Native.Nat.{ℕ, ◌+◌, ◌-◌, ◌*◌, ◌≤◌}
use mathlib.Core.Bool.{Bool, true, false}
use mathlib.Core.List.{List}
use mathlib.Core.Path.{◌≡◌, sym, ap, ◌∙◌}
use native.Mathlib.Nat.{add-sub_cancel_left}
use native.Mathlib.Omega.{arith}
use lib.ListN.{length, take, drop}
use lib.Seq.{sets, slice}
use Rattle.rules.proofs.Hash.{take_drop, length_hashes_at, hashes_at_bytes}
use Rattle.rules.specs.Hash.{Bytes, hashes_at, hashes_bytes}
use Rattle.rules.specs.Sizes.{sizes}
use Rattle.session.specs.Receive.{advance, join}
use Rattle.table.specs.Table.{Row}
use Rattle.table_graph.specs.Graph.{heads}
use Rattle.receive_shared.specs.Internal.Shared.{shared_then}

module _ (all loads : Bool) (before : ℕ) (t : List Row) (theirs shared : List ℕ) where
  pub is_held : all ≡ true → theirs ≡ shared_then all loads before t theirs shared
  unfolding shared_then
  is_held e = rw e

  pub is_advanced : all ≡ false → loads ≡ true → join t theirs (advance (heads (take before t)) (heads t) shared) ≡ shared_then all loads before t theirs shared
  unfolding shared_then
  is_advanced e f = rw (e, f)

  pub is_joined : all ≡ false → loads ≡ false → join t theirs shared ≡ shared_then all loads before t theirs shared
  unfolding shared_then
  is_joined e f = rw (e, f)

-- what is said of a list is said of an equal one
pub counted_same : (a b : List ℕ) (count : ℕ) → a ≡ b → count ≡ length a → count ≡ length b
counted_same a b count e c = rw e at c

pub room_same : (a b : List ℕ) (room : ℕ) → a ≡ b → sizes.hash * length b ≤ room → sizes.hash * length a ≤ room
room_same a b room e h = rw e h

pub put_same : (a b out next : List ℕ) → a ≡ b → next ≡ sets out 0 (hashes_bytes a) → next ≡ sets out 0 (hashes_bytes b)
put_same a b out next e h = rw e at h

-- as many heads as the message has
pub all_counted : (message : List ℕ) (place many : ℕ) → many ≡ length (hashes_at message place many)
all_counted message place many = sym (length_hashes_at message place many)

pub copy_room : (message : List ℕ) (place many room : ℕ) → sizes.hash * length (hashes_at message place many) ≤ room → sizes.hash * many ≤ room
copy_room message place many room h = omega (arith, length_hashes_at message place many)

-- the message's heads, copied
pub all_copied : (message out next : List ℕ) (place many : ℕ) → Bytes message → place + sizes.hash * many ≤ length message
    → next ≡ sets out 0 (take (place + sizes.hash * many - place) (drop place message))
    → next ≡ sets out 0 (hashes_bytes (hashes_at message place many))
all_copied message out next place many all fits e =
    let part : take (place + sizes.hash * many - place) (drop place message) ≡ slice place (place + sizes.hash * many) message =
    rw add-sub_cancel_left (take_drop (sizes.hash * many) place message) in
    e ∙ ap (sets out 0) (part ∙ sym (hashes_at_bytes message place many all fits))
