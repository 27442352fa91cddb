-- Loading has an outcome and, as sets, one. A move takes a row out of those that wait, so moves end; what can move does so sooner or later in whatever
-- order, since what was held stays held. So what is held afterwards is the least set that has what was held and every waiting row whose dependencies
-- it has, and what waits is the rest. Assumes nothing.
use Prim.Native.Nat.{ℕ, zero, suc, ◌<◌}
use mathlib.Core.Bool.{Bool, true, false, not, ◌||◌, ◌&&◌}
use mathlib.Core.List.{List, [], ◌∷◌, ◌++◌, map}
use mathlib.Core.Path.{◌≡◌, refl, sym, ap, ◌∙◌}
use native.Mathlib.Omega.{arith}
use borrow.Author.Tests.{eqb-true, eq-eqb, not-true}
use lib.Dec.{eqb}
use lib.ListN.{length}
use Rattle.table_graph.proofs.BelowLaws.{member_map, map_member}
use Rattle.hash_order.proofs.KeepLaws.{member_long, keep_member, keep_parts, every_member, not_every, often_keep, once_ascends}
use Rattle.hash_order.proofs.OrderLaws.{ascend_ascends, ascend_members, member_append}
use Rattle.hash_order.specs.Order.{member, keep, every, ascend}
use Rattle.rules.proofs.Cases.{split, both, true_false, same_truth, either, or_left, or_right}
use Rattle.table.proofs.TableLaws.{row_of_held, hash_of_held}
use Rattle.table.specs.Table.{Row, hash_of, row_number, held, deps}
use Rattle.waiting.specs.Waiting.{Waiting, waiting, asks}
use Rattle.walk.specs.Round.{Joins, Moves, Settles, done, step, Loads}
use Rattle.walk.proofs.Tables.{held_added, waiting_for, waiting_for_lem, asks_for}

-- The waiting rows ask for what their rows depend on in A.
abbrev pub AsksDeps : List Row → List Waiting → Type 0
AsksDeps A w = (h d : ℕ) → member h (waiting w) ≡ true → member d (asks w h) ≡ member d (deps A h)

-- ---- one move

module _ {b : List Row} {w : List Waiting} {b' : List Row} {w' : List Waiting} (m : Moves b w b' w') where
  pub move_held : (h : ℕ) → held b' h ≡ (held b h || eqb h m.hash)
  move_held h = ap (λ (t : List Row). held t h) m.grown ∙ held_added b (record { hash = m.hash; deps = m.numbers }) h

  pub move_more : (h : ℕ) → held b h ≡ true → held b' h ≡ true
  move_more h e = move_held h ∙ or_left (held b h) (eqb h m.hash) e

  -- the row that moves is held
  pub move_arrives : held b' m.hash ≡ true
  move_arrives = move_held m.hash ∙ or_right (held b m.hash) _ (eq-eqb m.hash m.hash refl)

  pub move_fewer : (h : ℕ) → member h (waiting w') ≡ true → member h (waiting w) ≡ true
  move_fewer h e = (both (member h (waiting w)) (not (eqb h m.hash)) (sym (m.rest h) ∙ e)).0

  pub move_other : (h : ℕ) → member h (waiting w') ≡ true → eqb h m.hash ≡ false
  move_other h e = not-true _ (both (member h (waiting w)) (not (eqb h m.hash)) (sym (m.rest h) ∙ e)).1

  pub move_stays : (h : ℕ) → member h (waiting w) ≡ true → eqb h m.hash ≡ false → member h (waiting w') ≡ true
  move_stays h e f = m.rest h ∙ rw (e, f)

  pub move_asked : (A : List Row) → AsksDeps A w → AsksDeps A w'
  move_asked A q h d e = ap (member d) (m.ask h e) ∙ q h d (move_fewer h e)

-- ---- moves until none can

pub settles_more : {b : List Row} {w : List Waiting} {b' : List Row} {w' : List Waiting} → Settles b w b' w'
    → (h : ℕ) → held b h ≡ true → held b' h ≡ true
settles_more (done f) h e = e
settles_more (step m s) h e = settles_more s h (move_more m h e)

pub settles_fewer : {b : List Row} {w : List Waiting} {b' : List Row} {w' : List Waiting} → Settles b w b' w'
    → (h : ℕ) → member h (waiting w') ≡ true → member h (waiting w) ≡ true
settles_fewer (done f) h e = e
settles_fewer (step m s) h e = move_fewer m h (settles_fewer s h e)

-- what waits afterwards can't move
pub settles_stuck : {b : List Row} {w : List Waiting} {b' : List Row} {w' : List Waiting} → Settles b w b' w'
    → (h : ℕ) → member h (waiting w') ≡ true → every (held b') (asks w' h) ≡ false
settles_stuck (done f) h e = f h e
settles_stuck (step m s) h e = settles_stuck s h e

module _ (A : List Row) where
  pub settles_asked : {b : List Row} {w : List Waiting} {b' : List Row} {w' : List Waiting} → Settles b w b' w' → AsksDeps A w → AsksDeps A w'
  settles_asked (done f) q = q
  settles_asked (step m s) q = settles_asked s (move_asked m A q)

  -- what waits no more is held, with its dependencies
  pub settles_moved : {b : List Row} {w : List Waiting} {b' : List Row} {w' : List Waiting} → Settles b w b' w' → AsksDeps A w
      → (h : ℕ) → member h (waiting w) ≡ true → member h (waiting w') ≡ false
      → (held b' h ≡ true) × ((d : ℕ) → member d (deps A h) ≡ true → held b' d ≡ true)
  settles_moved (done {b} {w} f) q h e n = absurd (true_false (member h (waiting w)) e n)
  settles_moved (step {b} {w} {b'} m s) q h e n =
      split (eqb h m.hash)
      (λ i.
      let is : h ≡ m.hash = eqb-true h m.hash i in (
        settles_more s h (rw is (move_arrives m)),
        (λ d k.
            let asked : member d (asks w m.hash) ≡ true = rw is at (q h d e ∙ k) in
            settles_more s d (move_more m d (every_member (held b) (asks w m.hash) m.ready d asked))),
      ))
      (λ i. settles_moved s (move_asked m A q) h (move_stays m h e i) n)

  -- what holds of what was held, and of a row that waited if it holds of its dependencies, holds of all that is held
  pub settles_least : {b : List Row} {w : List Waiting} {b' : List Row} {w' : List Waiting} → Settles b w b' w' → AsksDeps A w
      → (P : ℕ → Type 0)
      → ((h : ℕ) → held b h ≡ true → P h)
      → ((h : ℕ) → member h (waiting w) ≡ true → ((d : ℕ) → member d (deps A h) ≡ true → P d) → P h)
      → (h : ℕ) → held b' h ≡ true → P h
  settles_least (done f) q P base up h e = base h e
  settles_least (step {b} {w} {b'} m s) q P base up h e =
      settles_least s (move_asked m A q) P
      (λ g k.
      either (held b g) (eqb g m.hash) (sym (move_held m g) ∙ k) (base g)
      (λ i. rw (eqb-true g m.hash i)
      (up m.hash m.waits
      (λ d n. base d (every_member (held b) (asks w m.hash) m.ready d (q m.hash d m.waits ∙ n))))))
      (λ g k. up g (move_fewer m g k))
      h e

-- ---- there is an outcome

-- a row that can move does
module _ (b : List Row) (w : List Waiting) (h : ℕ) (waits : member h (waiting w) ≡ true) (ready : every (held b) (asks w h) ≡ true) where
  abbrev names : List ℕ
  names = ascend (map (row_number b) (asks w h))

  abbrev others : List ℕ
  others = keep (λ g. not (eqb g h)) (waiting w)

  have : (d : ℕ) → member d (asks w h) ≡ true → held b d ≡ true
  have = every_member (held b) (asks w h) ready

  named : (i : ℕ) → member i names ≡ true → record { d : ℕ; asked : member d (asks w h) ≡ true; is : row_number b d ≡ i }
  named i m =
      let k = map_member (row_number b) (asks w h) i (sym (ascend_members i (map (row_number b) (asks w h))) ∙ m) in
      record { d = k.k; asked = k.there; is = k.is }

  name_of : (d : ℕ) → member d (map (hash_of b) names) ≡ member d (asks w h)
  name_of d =
      same_truth _ _
      (λ m.
      let k = map_member (hash_of b) names d m in
      let n = named k.k k.there in
      let is : n.d ≡ d = sym (hash_of_held b n.d (have n.d n.asked)) ∙ ap (hash_of b) n.is ∙ k.is in
      rw is at n.asked)
      (λ m.
      rw (hash_of_held b d (have d m)) at
      (member_map (hash_of b) names (row_number b d)
      (ascend_members (row_number b d) (map (row_number b) (asks w h)) ∙ member_map (row_number b) (asks w h) d m)))

  and_swap : (x y : Bool) → (x && y) ≡ (y && x)
  and_swap true true = refl
  and_swap true false = refl
  and_swap false true = refl
  and_swap false false = refl

  left_waiting : (g : ℕ) → member g (waiting (waiting_for (asks w) others)) ≡ (member g (waiting w) && not (eqb g h))
  left_waiting g =
      ap (member g) (waiting_for_lem (asks w) others)
      ∙ keep_member (λ g. not (eqb g h)) (waiting w) g
      ∙ and_swap (not (eqb g h)) (member g (waiting w))

  pub one_moves : Moves b w (b ++ record { hash = h; deps = names } ∷ []) (waiting_for (asks w) others)
  one_moves =
      record {
        hash = h;
        numbers = names;
        waits = waits;
        ready = ready;
        ordered = ascend_ascends (map (row_number b) (asks w h));
        below = λ i m. let n = named i m in rw n.is at (row_of_held b n.d (have n.d n.asked));
        name = name_of;
        grown = refl;
        rest = left_waiting;
        once = λ g. rw (waiting_for_lem (asks w) others) (often_keep (λ g. not (eqb g h)) g (waiting w));
        ask = λ g m. asks_for (asks w) others g (rw (waiting_for_lem (asks w) others) at m);
      }

  pub one_fewer : length (waiting (waiting_for (asks w) others)) < length (waiting w)
  one_fewer =
      rw (waiting_for_lem (asks w) others)
      (omega (
        arith,
        keep_parts (λ g. eqb g h) (waiting w),
        member_long h (keep (λ g. eqb g h) (waiting w)) (keep_member (λ g. eqb g h) (waiting w) h ∙ rw (eq-eqb h h refl) waits),
      ))

-- moves end, since each leaves one waiting row fewer
settle : (n : ℕ) (b : List Row) (w : List Waiting) → length (waiting w) < n → (b' : List Row) × (w' : List Waiting) × Settles b w b' w'
settle zero b w h = absurd (omega arith)
settle (suc n) b w h =
    let can : ℕ → Bool = λ g. every (held b) (asks w g) in
    split (every (λ g. not (can g)) (waiting w))
    (λ e. (b, w, done (λ g m. not-true (can g) (every_member (λ g. not (can g)) (waiting w) e g m))))
    (λ e.
    let (g, m, n') = not_every (λ g. not (can g)) (waiting w) e in
    let ready : can g ≡ true = split (can g) (λ c. c) (λ c. absurd (true_false (not (can g)) (ap not c) n')) in
    let (b', w', s) = settle n _ _ (omega (arith, one_fewer b w g m ready)) in
    (b', w', step (one_moves b w g m ready) s))

pub settles_outcome : (b : List Row) (w : List Waiting) → (b' : List Row) × (w' : List Waiting) × Settles b w b' w'
settles_outcome b w = settle (suc (length (waiting w))) b w (omega arith)

-- what waited and the reply, each once
module _ (A : List Row) (w : List Waiting) (reply : List ℕ) where
  abbrev all : List ℕ
  all = ascend (waiting w ++ reply)

  pub joins_outcome : Joins A w reply (waiting_for (deps A) all)
  joins_outcome =
      record {
        are = λ h. ap (member h) (waiting_for_lem (deps A) all) ∙ ascend_members h (waiting w ++ reply) ∙ member_append h (waiting w) reply;
        once = λ h. rw (waiting_for_lem (deps A) all) (once_ascends all (ascend_ascends (waiting w ++ reply)) h);
        ask = λ h d m. ap (member d) (asks_for (deps A) all h (rw (waiting_for_lem (deps A) all) at m));
      }

-- Whatever is held, waits and is sent: it can be loaded.
pub loads_outcome : (A b : List Row) (w : List Waiting) (reply : List ℕ) → (b' : List Row) × (w' : List Waiting) × Loads A b w reply b' w'
loads_outcome A b w reply =
    let (b', w', s) = settles_outcome b (waiting_for (deps A) (ascend (waiting w ++ reply))) in
    (b', w', record { joined = waiting_for (deps A) (ascend (waiting w ++ reply)); joins = joins_outcome A w reply; settles = s })

-- ---- and one, as sets

module _ {A b : List Row} {w : List Waiting} {reply : List ℕ} {b₁ : List Row} {w₁ : List Waiting} {b₂ : List Row} {w₂ : List Waiting}
    (one : Loads A b w reply b₁ w₁) (two : Loads A b w reply b₂ w₂) where
  -- what joined in one joined in the other
  across : (h : ℕ) → member h (waiting one.joined) ≡ true → member h (waiting two.joined) ≡ true
  across h m = two.joins.are h ∙ sym (one.joins.are h) ∙ m

  -- what is held after one is held after the other
  held_too : (h : ℕ) → held b₁ h ≡ true → held b₂ h ≡ true
  held_too =
      settles_least A one.settles one.joins.ask (λ h. held b₂ h ≡ true)
      (λ h e. settles_more two.settles h e)
      (λ h m f.
      split (member h (waiting w₂))
      (λ e.
      let (d, k, n) = not_every (held b₂) (asks w₂ h) (settles_stuck two.settles h e) in
      absurd (true_false (held b₂ d) (f d (sym (settles_asked A two.settles two.joins.ask h d e) ∙ k)) n))
      (λ e. (settles_moved A two.settles two.joins.ask h (across h m) e).0))

-- what waits after one waits after the other
waits_too : {A b : List Row} {w : List Waiting} {reply : List ℕ} {b₁ : List Row} {w₁ : List Waiting} {b₂ : List Row} {w₂ : List Waiting}
    → (one : Loads A b w reply b₁ w₁) (two : Loads A b w reply b₂ w₂)
    → (h : ℕ) → member h (waiting w₁) ≡ true → member h (waiting w₂) ≡ true
waits_too {A} {b} {w} {reply} {b₁} {w₁} {b₂} {w₂} one two h m =
    split (member h (waiting w₂)) (λ e. e) (λ e.
    let (d, k, n) = not_every (held b₁) (asks w₁ h) (settles_stuck one.settles h m) in
    let moved = settles_moved A two.settles two.joins.ask h (across one two h (settles_fewer one.settles h m)) e in
    let there : held b₂ d ≡ true = moved.1 d (sym (settles_asked A one.settles one.joins.ask h d m) ∙ k) in
    absurd (true_false (held b₁ d) (held_too two one d there) n))

-- Whatever the order of moves: the same rows are held, and the same wait.
pub loads_one : {A b : List Row} {w : List Waiting} {reply : List ℕ} {b₁ : List Row} {w₁ : List Waiting} {b₂ : List Row} {w₂ : List Waiting}
    → Loads A b w reply b₁ w₁ → Loads A b w reply b₂ w₂
    → (h : ℕ) → (held b₁ h ≡ held b₂ h) × (member h (waiting w₁) ≡ member h (waiting w₂))
loads_one one two h =
    (same_truth _ _ (held_too one two h) (held_too two one h), same_truth _ _ (waits_too one two h) (waits_too two one h))
