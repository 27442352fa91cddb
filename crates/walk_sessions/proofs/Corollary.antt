-- The user's words: if all is granted in each round that is reached, there is a last one, at most m. Among the first m + 1 rounds one ends with all of A
-- held, since the walk does; the first such round is the last. Assumes nothing.
use Prim.Native.Nat.{ℕ, zero, suc, ◌≤◌, ◌<◌}
use mathlib.Core.Bool.{true, false}
use mathlib.Core.List.{List}
use mathlib.Core.Logic.{◌⊎◌, inl, inr}
use mathlib.Core.Path.{◌≡◌, sym, ap, ◌∙◌}
use native.Mathlib.Omega.{arith}
use lib.ListN.{length}
use Rattle.bloom.specs.declared.setting.Setting.{Setting}
use Rattle.hash_order.proofs.ReachLaws.{below_suc}
use Rattle.hash_order.specs.Order.{member}
use Rattle.rules.proofs.Cases.{split, true_false}
use Rattle.table.specs.Table.{Row}
use Rattle.waiting.specs.Waiting.{Waiting}
use Rattle.walk.proofs.Theorem1.{theorem_1}
use Rattle.walk.specs.Walk.{Demand3, Walk, holds_all, lacking}
use Rattle.walk_sessions.specs.Passing.{Passes}
use Rattle.walk_sessions.specs.Talk.{pair_at, Reached, PassAccepted, Granted, Underway, Tables, Ended, Corollary}
use Rattle.walk_sessions.proofs.Passing.{passed_walks}
use Rattle.walk_sessions.proofs.Talk.{Standing, reached_going, inside_standing, next, statement_2}
use Rattle.session.specs.Written.{Host}

module _ (setA set_b : ℕ → Setting) (pass : ℕ → Passes) (A : List Row) (B : ℕ → List Row) (W U : ℕ → List Waiting) (hosts : ℕ → Host) (tables : Tables setA set_b pass A B W U hosts)
    (all : (k : ℕ) → Reached setA set_b pass A B W U hosts k → Granted setA set_b pass A B W U hosts k) where
  abbrev Comes : ℕ → Type 0
  Comes k = Reached setA set_b pass A B W U hosts k

  abbrev m : ℕ
  m = lacking A (B 0)

  demand : Demand3 A (B 0)
  demand = theorem_1 A (B 0) tables.good tables.part

  inside : (k : ℕ) → Comes k → Underway setA set_b pass A B W U hosts k
  inside k r = record { reached = r; granted = λ j h. all j (λ i l. r i (omega arith)) }

  stands : (k : ℕ) → Comes k → Standing setA set_b pass A B W U hosts tables k
  stands k r = inside_standing setA set_b pass A B W U hosts tables k (inside k r)

  -- after the round as well
  stands_after : (k : ℕ) → Comes k → Standing setA set_b pass A B W U hosts tables (suc k)
  stands_after k r =
      next setA set_b pass A B W U hosts tables k (stands k r) (reached_going setA set_b pass A B W U hosts tables k r) (all k r)

  abbrev here : (k : ℕ) → Standing setA set_b pass A B W U hosts tables k → Type 0
  here k st = Walk A (B 0) k (record { table = B k; waits = W k; sent = st.sent; named = st.named })

  walk_of : (k : ℕ) (st : Standing setA set_b pass A B W U hosts tables k) → here k st
  walk_of k st =
      passed_walks.walk pass (λ j. (set_b j).bits) (λ j. (set_b j).probes) (λ j. (pair_at setA set_b pass A B W U hosts j).at_b.shared_heads) A (B 0)
      tables.good tables.fits k _ st.walk

  -- The first round below n that ends with all of A held.
  record Last (n : ℕ) : Type 0 where
    round : ℕ
    less : round < n
    comes : Comes round
    holds : holds_all A (B (suc round)) ≡ true

  search : (n : ℕ) → Comes n ⊎ Last n
  search zero = inl (λ j h. absurd (omega arith))
  search (suc n) = after (search n)
    where
      after : Comes n ⊎ Last n → Comes (suc n) ⊎ Last (suc n)
      after (inr l) = inr (record { round = l.round; less = omega (arith, l.less); comes = l.comes; holds = l.holds })
      after (inl r) =
          split (holds_all A (B (suc n)))
          (λ e. inr (record { round = n; less = omega arith; comes = r; holds = e }))
          (λ e. inl (below_suc (λ j. holds_all A (B (suc j)) ≡ false) n r e))

  found : Comes (suc m) ⊎ Last (suc m) → Last (suc m)
  found (inr l) = l
  found (inl r) =
      absurd (true_false (holds_all A (B (suc m))) (demand.ends (suc m) _ (walk_of (suc m) (stands (suc m) r)) (omega arith)) (r m (omega arith)))

  pub ended : Ended setA set_b pass A B W U hosts m
  ended =
      let l = found (search (suc m)) in
      let inner : (k : ℕ) → k ≤ l.round → Underway setA set_b pass A B W U hosts k = λ k h. inside k (λ j i. l.comes j (omega arith)) in
      let accepted : (k : ℕ) → k ≤ l.round → PassAccepted setA set_b pass A B W U hosts k = λ k h. (all k (inner k h).reached).accepts in
      let two = statement_2 setA set_b pass A B W U hosts tables in
      let st = stands_after l.round l.comes in
      let walk = walk_of (suc l.round) st in
      record {
        last = l.round;
        bound = omega (arith, l.less);
        reached = l.comes;
        holds = l.holds;
        asks = λ k h. let x = (two.stated k (inner k h) (accepted k h)).round in (x.said, x.next, x.speaks);
        answers = λ k h. let x = (two.stated k (inner k h) (accepted k h)).round in (x.reply, x.next', x.replies);
        hears = λ k h. let x = (two.stated k (inner k h) (accepted k h)).round in (x.heard, x.hears);
        takes = λ k h. two.taken k (inner k h) (all k (inner k h).reached);
        count = ap length (sym st.carries) ∙ demand.count (suc l.round) _ walk l.holds;
        which = λ h. ap (member h) (sym st.carries) ∙ demand.which (suc l.round) _ walk l.holds h;
      }

pub corollary : Corollary
corollary setA set_b pass A B W U hosts tables all = ended setA set_b pass A B W U hosts tables all
