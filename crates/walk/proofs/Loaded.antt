-- What loading leaves of a part and of the rows that wait beside it. A move adds a row whose dependencies are the whole's and are held, so a part stays
-- a part; and a hash is held or waits afterwards just if it was held, waited or came. Assumes nothing.
use Prim.Native.Nat.{ℕ}
use mathlib.Core.Bool.{true, false, ◌||◌}
use mathlib.Core.List.{List, [], ◌∷◌, ◌++◌}
use mathlib.Core.Path.{◌≡◌, sym, ap, ◌∙◌}
use native.Mathlib.Omega.{arith}
use borrow.Author.Tests.{eqb-true}
use lib.Dec.{eqb}
use Rattle.hash_order.specs.Order.{member, every, Once}
use Rattle.rules.proofs.Cases.{split, same_truth, either, or_left, or_right}
use Rattle.table.proofs.ExtendLaws.{good_append, deps_stay}
use Rattle.table.specs.Table.{Row, GoodTable, held, deps}
use Rattle.waiting.specs.Waiting.{Waiting, waiting, asks}
use Rattle.walk.specs.Round.{Part, Moves, Settles, done, step, Loads}
use Rattle.walk.proofs.Loading.{AsksDeps, move_held, move_fewer, move_other, move_asked}
use Rattle.walk.proofs.Loading.{settles_more, settles_fewer, settles_stuck, settles_moved, settles_least}
use Rattle.walk.proofs.Tables.{held_added, added_deps}

-- A part, and rows of the whole that wait beside it.
pub record WaitsBeside (J b : List Row) (w : List Waiting) : Type 0 where
  -- what is held is a dependency-closed part
  pub part : Part J b
  -- what waits are rows of the whole
  pub ours : (h : ℕ) → member h (waiting w) ≡ true → held J h ≡ true
  -- that aren't held
  pub unheld : (h : ℕ) → member h (waiting w) ≡ true → held b h ≡ false
  -- none waits twice
  pub once : Once (waiting w)
  -- and each asks for what it depends on
  pub ask : AsksDeps J w

module _ {J b : List Row} {w : List Waiting} (inv : WaitsBeside J b w) where
  -- ---- one move

  module _ {b' : List Row} {w' : List Waiting} (m : Moves b w b' w') where
    abbrev row : Row
    row = record { hash = m.hash; deps = m.numbers }

    good_after : GoodTable (b ++ row ∷ [])
    good_after = good_append b row inv.part.good (inv.unheld m.hash m.waits) m.ordered m.below

    same_after : (h d : ℕ) → held (b ++ row ∷ []) h ≡ true → member d (deps (b ++ row ∷ []) h) ≡ member d (deps J h)
    same_after h d e =
        either (held b h) (eqb h m.hash) (sym (held_added b row h) ∙ e)
        (λ k. ap (member d) (deps_stay b (row ∷ []) inv.part.good h k) ∙ inv.part.same h d k)
        (λ k.
        rw (eqb-true h m.hash k)
        (ap (member d) (added_deps b row good_after m.below) ∙ m.name d ∙ inv.ask m.hash d m.waits))

    part_after : Part J (b ++ row ∷ [])
    part_after =
        record {
          good = good_after;
          within =
              λ h e.
              either (held b h) (eqb h m.hash) (sym (held_added b row h) ∙ e)
              (inv.part.within h)
              (λ k. rw (eqb-true h m.hash k) (inv.ours m.hash m.waits));
          same = same_after;
        }

    move_beside : WaitsBeside J b' w'
    move_beside =
        record {
          part = rw m.grown part_after;
          ours = λ h e. inv.ours h (move_fewer m h e);
          unheld = λ h e. move_held m h ∙ rw (inv.unheld h (move_fewer m h e), move_other m h e);
          once = λ h. omega (arith, m.once h, inv.once h);
          ask = move_asked m J inv.ask;
        }

-- ---- all moves

settles_beside : {J b : List Row} {w : List Waiting} {b' : List Row} {w' : List Waiting} → WaitsBeside J b w → Settles b w b' w' → WaitsBeside J b' w'
settles_beside inv (done f) = inv
settles_beside inv (step m s) = settles_beside (move_beside inv m) s

-- ---- loading rows of the whole that aren't held

module _ {J b : List Row} {w : List Waiting} (inv : WaitsBeside J b w) {reply : List ℕ}
    (new : (h : ℕ) → member h reply ≡ true → (held J h ≡ true) × (held b h ≡ false))
    {b' : List Row} {w' : List Waiting} (l : Loads J b w reply b' w') where
  joined_beside : WaitsBeside J b l.joined
  joined_beside =
      record {
        part = inv.part;
        ours = λ h e. either (member h (waiting w)) (member h reply) (sym (l.joins.are h) ∙ e) (inv.ours h) (λ k. (new h k).0);
        unheld = λ h e. either (member h (waiting w)) (member h reply) (sym (l.joins.are h) ∙ e) (inv.unheld h) (λ k. (new h k).1);
        once = l.joins.once;
        ask = l.joins.ask;
      }

  pub loads_beside : WaitsBeside J b' w'
  loads_beside = settles_beside joined_beside l.settles

-- what was held stays so, and each row that still waits lacks something
module _ {J b : List Row} {w : List Waiting} {reply : List ℕ} {b' : List Row} {w' : List Waiting} (l : Loads J b w reply b' w') where
  pub loads_more : (h : ℕ) → held b h ≡ true → held b' h ≡ true
  loads_more = settles_more l.settles

  pub loads_stuck : (h : ℕ) → member h (waiting w') ≡ true → every (held b') (asks w' h) ≡ false
  loads_stuck = settles_stuck l.settles

  -- what is held or waits is what was held, waited or came
  pub loads_all : (h : ℕ) → (member h (waiting w') || held b' h) ≡ ((member h (waiting w) || member h reply) || held b h)
  loads_all h =
      same_truth _ _
      (λ e.
      either (member h (waiting w')) (held b' h) e
      (λ k. or_left _ (held b h) (sym (l.joins.are h) ∙ settles_fewer l.settles h k))
      (λ k.
      settles_least J l.settles l.joins.ask (λ g. ((member g (waiting w) || member g reply) || held b g) ≡ true)
      (λ g m. or_right (member g (waiting w) || member g reply) _ m)
      (λ g m f. or_left _ (held b g) (sym (l.joins.are g) ∙ m))
      h k))
      (λ e.
      either (member h (waiting w) || member h reply) (held b h) e
      (λ k.
      split (member h (waiting w'))
      (λ m. or_left _ (held b' h) m)
      (λ m. or_right (member h (waiting w')) _ (settles_moved J l.settles l.joins.ask h (l.joins.are h ∙ k) m).0))
      (λ k. or_right (member h (waiting w')) _ (loads_more h k)))
