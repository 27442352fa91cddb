-- Two good tables that agree have a joint table. Y's rows are put behind X one by one, and before each all earlier rows of Y are there: so what the next one
-- depends on is held, and it gets its dependencies by new numbers (walk Loading: a row that can move). A row of X keeps X's dependencies; a row of Y that was
-- there before has Y's, since the tables agree. What an end lacks of the joint table is what it lacks of the other's: both name each of those hashes once.
-- Assumes nothing.
use Prim.Native.Nat.{ℕ, ◌<◌}
use mathlib.Core.Bool.{Bool, true, false, cond, not, ◌||◌}
use mathlib.Core.List.{List, [], ◌∷◌, ◌++◌, map, append-nil, append_assoc}
use mathlib.Core.Path.{◌≡◌, refl, sym, ap, subst, ◌∙◌}
use native.Mathlib.Omega.{arith}
use borrow.Author.Tests.{eqb-true}
use lib.Dec.{eqb}
use lib.ListN.{length, get_or, length-append}
use lib.Seq.{get_or-append_seam}
use Rattle.table_graph.proofs.BelowLaws.{map_member}
use Rattle.hash_order.proofs.KeepLaws.{keep_member, every_one, once_keep, once_same}
use Rattle.hash_order.proofs.OrderLaws.{member_none, member_here}
use Rattle.hash_order.specs.Order.{member, keep, every, ascend}
use Rattle.rules.proofs.Cases.{split, true_false, same_truth, either, or_left, or_right}
use Rattle.table.proofs.ExtendLaws.{rows_append, held_append, hash_stays, good_append, deps_stay}
use Rattle.table.proofs.TableLaws.{length_rows, number_of_row, held_row}
use Rattle.table.specs.Table.{Row, GoodTable, rows, hash_of, row_number, held, deps, deps_of}
use Rattle.waiting.specs.Waiting.{Waiting, waiting, asks}
use Rattle.walk.proofs.Loading.{one_moves}
use Rattle.walk.proofs.Tables.{held_added, added_deps, waiting_for, waiting_for_lem, asks_for}
use Rattle.walk.specs.Round.{Moves}
use Rattle.walk.specs.Walk.{lacking}
use Rattle.walk_ends.specs.Joint.{Agree, Joint, row_behind, joining, joint_of}

-- ---- a row in the middle of a table

module _ (pre : List Row) (r : Row) (rs : List Row) (good : GoodTable (pre ++ r ∷ rs)) where
  hash_here : hash_of (pre ++ r ∷ rs) (length pre) ≡ r.hash
  unfolding hash_of rows
  hash_here =
      ap (λ (l : List ℕ). get_or l (length pre) 0) (rows_append pre (r ∷ rs))
      ∙ ap (λ (n : ℕ). get_or (rows pre ++ r.hash ∷ rows rs) n 0) (sym (length_rows pre))
      ∙ get_or-append_seam (rows pre) r.hash (rows rs) 0

  inside : length pre < length (pre ++ r ∷ rs)
  inside = omega (arith, length-append pre (r ∷ rs))

  number_here : row_number (pre ++ r ∷ rs) r.hash ≡ length pre
  number_here = ap (row_number (pre ++ r ∷ rs)) (sym hash_here) ∙ number_of_row (pre ++ r ∷ rs) good (length pre) inside

  -- it depends on rows before it
  deps_before : (d : ℕ) → member d (deps (pre ++ r ∷ rs) r.hash) ≡ true → held pre d ≡ true
  unfolding deps
  deps_before d m =
      let k = map_member (hash_of (pre ++ r ∷ rs)) (deps_of (pre ++ r ∷ rs) (length pre)) d (rw number_here at m) in
      let low : k.k < length pre = good.down (length pre) k.k inside k.there in
      subst (λ x. held pre x ≡ true) (sym (hash_stays pre (r ∷ rs) k.k low) ∙ k.is) (held_row pre k.k low)

-- ---- rows put behind

-- Where a table stands to which the rows `pre` of Y have come.
record Joined (X Y pre t : List Row) : Type 0 where
  good : GoodTable t
  kept : (h : ℕ) → held X h ≡ true → held t h ≡ true
  came : (h : ℕ) → held pre h ≡ true → held t h ≡ true
  only : (h : ℕ) → held t h ≡ true → (held X h || held Y h) ≡ true
  like_x : (h d : ℕ) → held X h ≡ true → member d (deps t h) ≡ member d (deps X h)
  like_y : Agree t Y

module _ {X Y : List Row} (goodY : GoodTable Y) (pre : List Row) (r : Row) (rs : List Row) (is : Y ≡ pre ++ r ∷ rs) (t : List Row)
    (inv : Joined X Y pre t) where
  held_there : held Y r.hash ≡ true
  unfolding held rows
  held_there =
      ap (λ (u : List Row). held u r.hash) is
      ∙ held_append pre (r ∷ rs) r.hash
      ∙ or_right (held pre r.hash) (held (r ∷ rs) r.hash) (member_here r.hash (rows rs))

  -- the row is there
  joined_there : held t r.hash ≡ true → Joined X Y (pre ++ r ∷ []) t
  joined_there e =
      record {
        good = inv.good;
        kept = inv.kept;
        came =
            λ h m.
            either (held pre h) (eqb h r.hash) (sym (held_added pre r h) ∙ m)
            (inv.came h)
            (λ q. subst (λ g. held t g ≡ true) (sym (eqb-true h r.hash q)) e);
        only = inv.only;
        like_x = inv.like_x;
        like_y = inv.like_y;
      }

  -- it isn't there: then it alone waits for what it depends on, all that is held, and moves
  module _ (out : held t r.hash ≡ false) where
    abbrev alone : List Waiting
    alone = waiting_for (deps Y) (r.hash ∷ [])

    asks_are : asks alone r.hash ≡ deps Y r.hash
    asks_are = asks_for (deps Y) (r.hash ∷ []) r.hash (member_here r.hash [])

    waits : member r.hash (waiting alone) ≡ true
    waits = ap (member r.hash) (waiting_for_lem (deps Y) (r.hash ∷ [])) ∙ member_here r.hash []

    ready : every (held t) (asks alone r.hash) ≡ true
    ready =
        ap (every (held t)) asks_are
        ∙ every_one (held t) (deps Y r.hash)
        (λ d m.
        inv.came d
        (deps_before pre r rs (subst GoodTable is goodY) d (ap (λ (u : List Row). member d (deps u r.hash)) (sym is) ∙ m)))

    module _ {t' : List Row} {w' : List Waiting} (m : Moves t alone t' w') where
      abbrev row : Row
      row = record { hash = m.hash; deps = m.numbers }

      moves_alone : member m.hash (r.hash ∷ []) ≡ true
      moves_alone = ap (member m.hash) (sym (waiting_for_lem (deps Y) (r.hash ∷ []))) ∙ m.waits

      hash_is : m.hash ≡ r.hash
      unfolding member
      hash_is = either (eqb m.hash r.hash) false moves_alone (eqb-true m.hash r.hash) (λ k. absurd (true_false false k refl))

      good_grown : GoodTable (t ++ row ∷ [])
      good_grown = good_append t row inv.good (ap (held t) hash_is ∙ out) m.ordered m.below

      more : (h : ℕ) → held t h ≡ true → held (t ++ row ∷ []) h ≡ true
      more h e = held_added t row h ∙ or_left (held t h) (eqb h m.hash) e

      like_y_lem : Agree (t ++ row ∷ []) Y
      like_y_lem h d e f =
          either (held t h) (eqb h m.hash) (sym (held_added t row h) ∙ e)
          (λ k. ap (member d) (deps_stay t (row ∷ []) inv.good h k) ∙ inv.like_y h d k f)
          (λ k.
          rw (eqb-true h m.hash k)
          (ap (member d) (added_deps t row good_grown m.below)
          ∙ m.name d
          ∙ ap (member d) (asks_for (deps Y) (r.hash ∷ []) m.hash moves_alone)))

      joined_moved : Joined X Y (pre ++ r ∷ []) (t ++ row ∷ [])
      joined_moved =
          record {
            good = good_grown;
            kept = λ h e. more h (inv.kept h e);
            came =
                λ h k.
                either (held pre h) (eqb h r.hash) (sym (held_added pre r h) ∙ k)
                (λ b. more h (inv.came h b))
                (λ b. held_added t row h ∙ or_right (held t h) (eqb h m.hash) (ap (eqb h) hash_is ∙ b));
            only =
                λ h e.
                either (held t h) (eqb h m.hash) (sym (held_added t row h) ∙ e)
                (inv.only h)
                (λ b. or_right (held X h) (held Y h) (ap (held Y) (eqb-true h m.hash b ∙ hash_is) ∙ held_there));
            like_x = λ h d e. ap (member d) (deps_stay t (row ∷ []) inv.good h (inv.kept h e)) ∙ inv.like_x h d e;
            like_y = like_y_lem;
          }

    joined_behind : Joined X Y (pre ++ r ∷ []) (t ++ row_behind Y t r.hash ∷ [])
    unfolding row_behind
    joined_behind =
        let m = one_moves t alone r.hash waits ready in
        subst (λ l. Joined X Y (pre ++ r ∷ []) (t ++ record { hash = r.hash; deps = ascend (map (row_number t) l) } ∷ [])) asks_are
        (subst (Joined X Y (pre ++ r ∷ [])) (sym m.grown) (joined_moved m))

-- all of Y's rows
joined : {X Y : List Row} → GoodTable Y → (rs pre t : List Row) → Y ≡ pre ++ rs → Joined X Y pre t → Joined X Y Y (joining Y t rs)
unfolding joining
joined {X} {Y} goodY [] pre t is inv = subst (λ u. Joined X Y u t) (sym (is ∙ append-nil pre)) inv
joined {X} {Y} goodY (r ∷ rs) pre t is inv =
    let step : Bool → List Row = λ (b : Bool). cond b t (t ++ row_behind Y t r.hash ∷ []) in
    let on : Y ≡ (pre ++ r ∷ []) ++ rs = is ∙ sym (append_assoc pre (r ∷ []) rs) in
    split (held t r.hash)
    (λ e.
    subst (λ (b : Bool). Joined X Y Y (joining Y (step b) rs)) (sym e)
    (joined goodY rs (pre ++ r ∷ []) t on (joined_there goodY pre r rs is t inv e)))
    (λ e.
    subst (λ (b : Bool). Joined X Y Y (joining Y (step b) rs)) (sym e)
    (joined goodY rs (pre ++ r ∷ []) _ on (joined_behind goodY pre r rs is t inv e)))

-- ---- the joint table

-- what is lacking of two good tables that have the same rows beside B
lacking_same : (A C B : List Row) → GoodTable A → GoodTable C → ((h : ℕ) → held B h ≡ false → held A h ≡ held C h) → lacking A B ≡ lacking C B
unfolding held
lacking_same A C B goodA goodC f =
    once_same (keep (λ h. not (held B h)) (rows A)) (keep (λ h. not (held B h)) (rows C))
    (once_keep (λ h. not (held B h)) (rows A) goodA.once)
    (once_keep (λ h. not (held B h)) (rows C) goodC.once)
    (λ h.
    keep_member (λ h. not (held B h)) (rows A) h
    ∙ split (held B h) (λ e. rw e) (λ e. rw e (f h e))
    ∙ sym (keep_member (λ h. not (held B h)) (rows C) h))

module _ (X Y : List Row) (goodX : GoodTable X) (goodY : GoodTable Y) (agree : Agree X Y) where
  all_joined : Joined X Y Y (joint_of X Y)
  unfolding held rows
  all_joined =
      joined goodY Y [] X refl
      (record {
        good = goodX;
        kept = λ h e. e;
        came = λ h e. absurd (member_none h e);
        only = λ h e. or_left (held X h) (held Y h) e;
        like_x = λ h d e. refl;
        like_y = agree;
      })

  -- Both are parts of it, and it has no other row.
  pub joint_of_lem : Joint (joint_of X Y) X Y
  joint_of_lem =
      let j = all_joined in
      record {
        good = j.good;
        part_x = record { good = goodX; within = j.kept; same = λ h d e. sym (j.like_x h d e) };
        part_y = record { good = goodY; within = j.came; same = λ h d e. sym (j.like_y h d (j.came h e) e) };
        only = j.only;
      }

  -- What an end lacks of it is what it lacks of the other's table.
  pub lacks_x_lem : lacking (joint_of X Y) X ≡ lacking Y X
  lacks_x_lem =
      lacking_same (joint_of X Y) Y X all_joined.good goodY
      (λ h e.
      same_truth (held (joint_of X Y) h) (held Y h)
      (λ m. either (held X h) (held Y h) (all_joined.only h m) (λ k. absurd (true_false (held X h) k e)) (λ k. k))
      (all_joined.came h))

  pub lacks_y_lem : lacking (joint_of X Y) Y ≡ lacking X Y
  lacks_y_lem =
      lacking_same (joint_of X Y) X Y all_joined.good goodX
      (λ h e.
      same_truth (held (joint_of X Y) h) (held X h)
      (λ m. either (held X h) (held Y h) (all_joined.only h m) (λ k. k) (λ k. absurd (true_false (held Y h) k e)))
      (all_joined.kept h))
