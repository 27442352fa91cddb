-- Marks turned one after the other: those before the i-th are what f makes of them, the others are as they were.
use Prim.Native.Nat.{ℕ, ◌+◌, ◌≤◌, ◌<◌}
use mathlib.Core.Bool.{Bool, false}
use mathlib.Core.List.{List}
use mathlib.Core.Path.{◌≡◌, refl, ap, ◌∙◌}
use native.Mathlib.Nat.{not-suc-le-zero}
use native.Mathlib.Omega.{arith}
use lib.ListN.{length, get_or, set}
use lib.Seq.{get_or-set_same, get_or-set_other}
use Rattle.hash_order.proofs.ReachLaws.{below_suc}
use Rattle.table_graph.specs.Internal.Marks.{Marks}

pub record Turned (f : ℕ → Bool → Bool) (i : ℕ) (old new : List Bool) : Type 0 where
  pub done : (k : ℕ) → k < i → get_or new k false ≡ f k (get_or old k false)
  pub rest : (k : ℕ) → i ≤ k → get_or new k false ≡ get_or old k false

module _ (f : ℕ → Bool → Bool) where
  pub turn_start : (m : List Bool) → Turned f 0 m m
  turn_start m = record { done = λ k h. absurd (not-suc-le-zero h); rest = λ k h. refl }

  module _ (i : ℕ) (old new : List Bool) (w : Turned f i old new) where
    pub turn_set : (b : Bool) → i < length new → b ≡ f i (get_or new i false) → Turned f (i + 1) old (set new i b)
    turn_set b h e =
        record {
          done =
              λ k l.
              below_suc (λ j. get_or (set new i b) j false ≡ f j (get_or old j false)) i
              (λ j q. let d : j ≡ i → ⊥ = λ z. omega arith in get_or-set_other new i j b false d ∙ w.done j q)
              (get_or-set_same new i b false h ∙ e ∙ ap (f i) (w.rest i (omega arith)))
              k
              (omega arith);
          rest = λ k l. let d : k ≡ i → ⊥ = λ z. omega arith in get_or-set_other new i k b false d ∙ w.rest k (omega arith);
        }

    pub turn_same : get_or new i false ≡ f i (get_or new i false) → Turned f (i + 1) old new
    turn_same e =
        record {
          done =
              λ k l.
              below_suc (λ j. get_or new j false ≡ f j (get_or old j false)) i w.done
              (e ∙ ap (f i) (w.rest i (omega arith)))
              k
              (omega arith);
          rest = λ k l. w.rest k (omega arith);
        }

    pub turn_done : (n : ℕ) → n ≤ i → Marks n new (λ k. f k (get_or old k false))
    turn_done n h = record { each = λ k l. w.done k (omega arith) }
