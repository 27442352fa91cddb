-- The rows that asking marks are the asked ones: what is asked and what a marked row asks for is marked, and nothing else is. So what the marked rows
-- ask for, with the list, has all that is missing.
use Prim.Native.Nat.{ℕ, zero, suc, ◌+◌, ◌<◌}
use mathlib.Core.Bool.{Bool, true, false, not}
use mathlib.Core.List.{List, [], ◌∷◌, ◌++◌}
use mathlib.Core.Path.{◌≡◌, refl}
use native.Mathlib.Nat.{add-zero, zero-add}
use native.Mathlib.Omega.{arith}
use lib.ListN.{length, get_or, replicate}
use Rattle.hash_order.proofs.ReachLaws.{reach_base, reach_closed, reach_least}
use Rattle.hash_order.specs.Order.{member, keep, ascend}
use Rattle.rules.proofs.Cases.{both, same_truth}
use Rattle.table.proofs.TableLaws.{member_of_index, entry_at_index, index_of_entry}
use Rattle.table.specs.Table.{Row, held, index_in}
use Rattle.waiting.proofs.WaitingLaws.{length_waiting, GoodWaiting}
use Rattle.waiting.specs.Waiting.{Waiting, waiting, asks_of}
use Rattle.waiting_asked.proofs.AskLaws.{EachAsked, asked_marked, newly_closed, newly_marked}
use Rattle.waiting_asked.specs.Asking.{list, Asks}
use Rattle.waiting_missing.specs.Missing.{unknown, asked_row, asks_from, missing}

pub blank : (n k : ℕ) → get_or (replicate n false) k false ≡ false
blank zero k = refl
blank (suc n) zero = refl
blank (suc n) (suc k) = blank n k

-- rows of which the same is known ask for the same
asks_same : (p q : ℕ → Bool) (w : List Waiting) (i : ℕ) → ((k : ℕ) → k < length w → p (i + k) ≡ q (i + k)) → asks_from i w p ≡ asks_from i w q
unfolding asks_from
asks_same p q [] i f = refl
asks_same p q (r ∷ rs) i f =
    let here : p i ≡ q i = rw add-zero at (f 0 (omega arith)) in
    let rest : asks_from (suc i) rs p ≡ asks_from (suc i) rs q =
    asks_same p q rs (suc i)
    (λ k b.
    let e : i + suc k ≡ suc i + k = omega arith in
    rw e at (f (suc k) (omega arith)))
    in
    rw (here, rest)

module _ (t : List Row) (w : List Waiting) (good : GoodWaiting t w) (hs : List ℕ) {m m' : List Bool} (d : Asks w (list hs) m m')
    (none : (k : ℕ) → get_or m k false ≡ false) where
  waits : (g : ℕ) → index_in (waiting w) g < length w → member g (waiting w) ≡ true
  waits g b = member_of_index (waiting w) g (rw length_waiting b)

  entry : (g : ℕ) → index_in (waiting w) g < length w → get_or (waiting w) (index_in (waiting w) g) 0 ≡ g
  entry g b = entry_at_index (waiting w) g (rw length_waiting b)

  own : (i : ℕ) → i < length w → index_in (waiting w) (get_or (waiting w) i 0) ≡ i
  own i b = index_of_entry (waiting w) good.once i (rw length_waiting b)

  marked_asked : (k : ℕ) → get_or m' k false ≡ true → asked_row t w hs k ≡ true
  unfolding asked_row EachAsked
  marked_asked k e =
      newly_marked (λ i. asked_row t w hs i ≡ true)
      (λ i b a g n c.
      reach_closed (length w) _ _ i (index_in (waiting w) g) b c a (rw (entry g c, n, good.unheld g (waits g c))))
      d
      (λ g n c. reach_base (length w) _ _ (index_in (waiting w) g) c (rw (entry g c, n, good.unheld g (waits g c))))
      k (none k) e

  asked_is_marked : (k : ℕ) → k < length w → asked_row t w hs k ≡ true → get_or m' k false ≡ true
  unfolding asked_row EachAsked
  asked_is_marked k b e =
      reach_least (length w) _ _ (λ i. get_or m' i false ≡ true)
      (λ i c q.
      let a = both (member (get_or (waiting w) i 0) hs) (not (held t (get_or (waiting w) i 0))) q in
      rw (own i c) at (asked_marked d (get_or (waiting w) i 0) a.0 (rw (own i c) c)))
      (λ i j c l f q.
      let a = both (member (get_or (waiting w) j 0) (asks_of w i)) (not (held t (get_or (waiting w) j 0))) q in
      rw (own j l) at (newly_closed d i (none i) f (get_or (waiting w) j 0) a.0 (rw (own j l) l)))
      k b e

  -- The marks are the asked rows.
  pub marks_asked : (k : ℕ) → k < length w → get_or m' k false ≡ asked_row t w hs k
  marks_asked k b = same_truth _ _ (marked_asked k) (asked_is_marked k b)

  -- So the unknown hashes of the list and of all that the marked rows ask for are what is missing.
  pub marks_missing : ascend (keep (unknown t w) (hs ++ asks_from 0 w (λ k. get_or m' k false))) ≡ missing t w hs
  unfolding missing
  marks_missing =
      let same : asks_from 0 w (λ k. get_or m' k false) ≡ asks_from 0 w (asked_row t w hs) =
      asks_same (λ k. get_or m' k false) (asked_row t w hs) w 0 (λ k b. rw zero-add (marks_asked k b))
      in
      rw same
