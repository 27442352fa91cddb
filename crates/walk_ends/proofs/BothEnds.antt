-- Both ends come to hold the joint set. After n exchanges the run into the first speaker has n rounds, and heads are heard from its second on; the run into the
-- other has n - 1, and heads are heard from its first on: what it asks in an exchange is answered in the next. So both are complete after max(j, k) + 1. What a run
-- promises of its names and its tables is promised of the ends. Assumes nothing.
use Prim.Native.Nat.{ℕ, suc, ◌≤◌}
use mathlib.Core.Bool.{Bool, true, false, cond, not, ◌&&◌, ◌||◌}
use mathlib.Core.List.{List}
use mathlib.Core.Path.{◌≡◌, ap, subst, ◌∙◌}
use native.Mathlib.Nat.{le-max_left, le-max_right}
use native.Mathlib.Omega.{arith}
use lib.ListN.{length}
use Rattle.hash_order.specs.Order.{member}
use Rattle.rules.proofs.Cases.{same_truth, either, or_right}
use Rattle.table.specs.Table.{Row, held}
use Rattle.waiting.specs.Waiting.{waiting}
use Rattle.walk.proofs.Rounds.{RunStands, all_held, held_none_left}
use Rattle.walk.proofs.Theorem1.{holds_each, each_holds}
use Rattle.walk.specs.Walk.{At, holds_all, lacking}
use Rattle.walk_ends.specs.Ends.{End, Exchange, Exchanges, Turns, first_speaks, BothEnds}
use Rattle.walk_ends.specs.Joint.{Joint}
use Rattle.walk_ends.proofs.Going.{goes_on}
use Rattle.walk_ends.proofs.Turning.{Stood, speaker_stands, speaker_part, hearer, hearer_stands, hearer_part, starts, next, next_new, somewhere}

-- ---- what a run promises when all is held

module _ {J B : List Row} {q k : ℕ} {s : At} (st : RunStands J B q k s) (all : holds_all J s.table ≡ true) where
  -- the names are what was lacking
  names_are : (h : ℕ) → member h s.named ≡ (held J h && not (held B h))
  names_are h =
      st.are h
      ∙ ap (λ (x : Bool). x && not (held B h))
      (same_truth (member h (waiting s.waits) || held s.table h) (held J h)
      (λ m. either (member h (waiting s.waits)) (held s.table h) m (st.between.beside.ours h) (st.between.beside.part.within h))
      (λ m. or_right (member h (waiting s.waits)) (held s.table h) (holds_each J s.table all h m)))

  names_count : length s.named ≡ lacking J B
  names_count = omega (arith, st.count, held_none_left J s.table s.waits (holds_each J s.table all))

-- ---- messages

-- Once both hold the joint set each has named, whoever speaks next, what the other lacked.
pub record NamedAll (J X Y : List Row) (k : ℕ) (e f : End) : Type 0 where
  pub by_speaker : length e.named ≡ lacking J (cond (first_speaks k) Y X)
  pub by_hearer : length f.named ≡ lacking J (cond (first_speaks k) X Y)
  pub which_by_speaker : (h : ℕ) → member h e.named ≡ (held J h && not (held (cond (first_speaks k) Y X) h))
  pub which_by_hearer : (h : ℕ) → member h f.named ≡ (held J h && not (held (cond (first_speaks k) X Y) h))

pub turns_named : {J X Y : List Row} → Joint J X Y → {k : ℕ} {e f : End} → Turns J X Y k e f → holds_all J e.table ≡ true → holds_all J f.table ≡ true
    → NamedAll J X Y k e f
turns_named {J} joint ts all_e allF =
    let w = somewhere joint ts in
    record {
      by_speaker = names_count (hearer_stands w.stood) allF ∙ ap (lacking J) w.hearer_from;
      by_hearer = names_count (speaker_stands w.stood) all_e ∙ ap (lacking J) w.speaker_from;
      which_by_speaker = λ h. names_are (hearer_stands w.stood) allF h ∙ ap (λ (t : List Row). held J h && not (held t h)) w.hearer_from;
      which_by_hearer = λ h. names_are (speaker_stands w.stood) all_e h ∙ ap (λ (t : List Row). held J h && not (held t h)) w.speaker_from;
    }

-- ---- exchanges

module _ {J X Y : List Row} (joint : Joint J X Y) where
  -- two messages lead from the first speaker to the first speaker
  stood : {n : ℕ} {x y : End} → Exchanges J X Y n x y → Stood J X 1 n Y 0 n x y
  stood Exchanges.start = starts joint
  stood (Exchanges.more ex e) = next (next (stood ex) e.first) e.second

  module _ {n : ℕ} {x y : End} (ex : Exchanges J X Y n x y) where
    holds_x : suc (lacking J X) ≤ n → holds_all J x.table ≡ true
    holds_x e = each_holds J x.table (all_held joint.good joint.part_x 1 (stood ex).run (omega arith))

    holds_y : suc (lacking J Y) ≤ n → holds_all J y.table ≡ true
    holds_y e =
        let h = hearer (stood ex) in
        each_holds J y.table (all_held joint.good joint.part_y 0 h.run (omega (arith, h.far)))

    new_x_lem : {x' y' : End} (e : Exchange J x y x' y') (h : ℕ) → member h e.list_y ≡ true → held x.table h ≡ false
    new_x_lem e h m =
        subst (λ t. held t h ≡ false) (ap (λ (z : End). z.table) e.first.speaks.after) (next_new (next (stood ex) e.first) e.second h m)

pub both_ends : (J X Y : List Row) → Joint J X Y → BothEnds J X Y
both_ends J X Y joint =
    record {
      ends =
          λ n x y ex e. (
            holds_x joint ex (omega (arith, le-max_left (lacking J X) (lacking J Y))),
            holds_y joint ex (omega (arith, le-max_right (lacking J X) (lacking J Y))),
          );
      once = λ n x y ex h. ((hearer_stands (stood joint ex)).once h, (speaker_stands (stood joint ex)).once h);
      count_x = λ n x y ex. names_count (speaker_stands (stood joint ex));
      count_y = λ n x y ex. names_count (hearer_stands (stood joint ex));
      which_x = λ n x y ex. names_are (speaker_stands (stood joint ex));
      which_y = λ n x y ex. names_are (hearer_stands (stood joint ex));
      new_y = λ n x y x' y' ex e. next_new (stood joint ex) e.first;
      new_x = λ n x y x' y' ex e. new_x_lem joint ex e;
      parts = λ n x y ex. (speaker_part (stood joint ex), hearer_part (stood joint ex));
      kept = λ n x y ex h. ((speaker_stands (stood joint ex)).kept h, (hearer_stands (stood joint ex)).kept h);
      goes = λ n x y ex. goes_on J x y;
    }
