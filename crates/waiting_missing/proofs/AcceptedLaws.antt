-- What an accepted waiting table means for what is missing: the relation and the list agree, and what is missing is neither held nor waiting.
use Prim.Native.Nat.{ℕ}
use mathlib.Core.Bool.{true, false}
use mathlib.Core.List.{List}
use mathlib.Core.Path.{◌≡◌}
use Rattle.hash_order.proofs.KeepLaws.{once_ascends}
use Rattle.hash_order.specs.Order.{member, ascends, Once}
use Rattle.rules.specs.Hash.{Bytes, AreHashes}
use Rattle.table.specs.Table.{Row, held}
use Rattle.waiting.proofs.WaitingLaws.{waiting_good_lem, asks_hashes}
use Rattle.waiting.specs.WaitingBytes.{waiting_of, waiting_checked}
use Rattle.waiting.specs.Waiting.{Waiting, waiting}
use Rattle.waiting_missing.specs.Missing.{Missing, missing}
use Rattle.waiting_missing.proofs.MissingLaws.{missing_member, member_missing, missing_unknown, missing_ascends, missing_are_hashes, unknown_not_held, unknown_not_waiting}
use Rattle.std.specs.Prelude.{Ok}

-- The list that `missing` is: what the relation says, each hash once, ascending, and none of them held or waiting.
pub record MissingAgrees (t : List Row) (w : List Waiting) (l : List ℕ) : Type 0 where
  pub listed : (x : ℕ) → Missing t w l x → member x (missing t w l) ≡ true
  pub meant : (x : ℕ) → member x (missing t w l) ≡ true → Missing t w l x
  pub unheld : (x : ℕ) → member x (missing t w l) ≡ true → held t x ≡ false
  pub unwaiting : (x : ℕ) → member x (missing t w l) ≡ true → member x (waiting w) ≡ false
  pub order : ascends (missing t w l) ≡ true
  pub once : Once (missing t w l)

module _ (t : List Row) (s : List ℕ) (m : ℕ) (good : waiting_checked t s ≡ Ok m) where
  pub accepted_agrees : (l : List ℕ) → MissingAgrees t (waiting_of s) l
  accepted_agrees l =
      record {
        listed = λ x d. missing_member t (waiting_of s) l d;
        meant = member_missing t (waiting_of s) l (waiting_good_lem t s m good).good.once;
        unheld = λ x e. unknown_not_held t (waiting_of s) x (missing_unknown t (waiting_of s) l x e);
        unwaiting = λ x e. unknown_not_waiting t (waiting_of s) x (missing_unknown t (waiting_of s) l x e);
        order = missing_ascends t (waiting_of s) l;
        once = once_ascends (missing t (waiting_of s) l) (missing_ascends t (waiting_of s) l);
      }

  -- What waits is not held.
  pub accepted_unheld : (h : ℕ) → member h (waiting (waiting_of s)) ≡ true → held t h ≡ false
  accepted_unheld = (waiting_good_lem t s m good).good.unheld

-- What is missing from hashes are hashes, if the waiting table's bytes are bytes.
pub missing_hashes : (t : List Row) (s l : List ℕ) → Bytes s → AreHashes l → AreHashes (missing t (waiting_of s) l)
missing_hashes t s l b a = missing_are_hashes t (waiting_of s) l a (asks_hashes s b)
