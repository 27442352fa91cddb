-- What holds between two rounds, and what follows from it: the end that catches up holds all of a part, or something is missing from that part's heads.
-- For from a row that isn't held one climbs to a head, and from there down through rows that wait, each of which lacks something: where that isn't
-- waiting, it is missing. Assumes nothing.
use Prim.Native.Nat.{ℕ}
use mathlib.Core.Bool.{Bool, true, false, not, ◌||◌}
use mathlib.Core.List.{List, [], ◌∷◌}
use mathlib.Core.Logic.{◌⊎◌, inl, inr}
use mathlib.Core.Path.{◌≡◌, refl, sym, ◌∙◌}
use native.Mathlib.Omega.{arith}
use lib.ListN.{length}
use Rattle.table_graph.proofs.BelowLaws.{row_induction}
use Rattle.table_graph.proofs.HeadLaws.{head_held}
use Rattle.table_graph.specs.Graph.{heads}
use Rattle.waiting_missing.proofs.MissingLaws.{missing_member}
use Rattle.waiting_missing.specs.Missing.{unknown, Missing, itself, through, missing}
use Rattle.hash_order.proofs.KeepLaws.{member_long, keep_member, not_every}
use Rattle.hash_order.proofs.OrderLaws.{member_here, member_none}
use Rattle.hash_order.specs.Order.{member, keep, every}
use Rattle.rules.proofs.Cases.{split, true_false, and_true}
use Rattle.table.specs.Table.{Row, GoodTable, rows, held, deps}
use Rattle.waiting.specs.Waiting.{Waiting, waiting, asks}
use Rattle.walk.specs.Round.{Part}
use Rattle.walk.proofs.Loaded.{WaitsBeside}
use Rattle.walk.proofs.Parts.{heads_all}

-- Scrutinee first.
pub cases : {A B C : Type 0} → A ⊎ B → (A → C) → (B → C) → C
cases (inl a) f g = f a
cases (inr b) f g = g b

-- B with W beside it, and T, in a whole J; J is A, or the joint table where both ends lack something.
pub record Between (J b : List Row) (w : List Waiting) (sent : List ℕ) : Type 0 where
  -- B is a part of the whole, and W has rows of the whole with their dependencies, each once, none of them held
  pub beside : WaitsBeside J b w
  -- a row waits because something that it asks for isn't held
  pub stuck : (h : ℕ) → member h (waiting w) ≡ true → every (held b) (asks w h) ≡ false
  -- of what B doesn't hold, T has just what waits
  pub pending : (h : ℕ) → held b h ≡ false → member h sent ≡ member h (waiting w)

-- A hash that is neither held nor waits.
abbrev pub unsent : List Row → List Waiting → ℕ → Bool
unsent b w h = not (member h (waiting w) || held b h)

-- How many rows of the whole are so.
abbrev pub unsent_count : List Row → List Row → List Waiting → ℕ
unsent_count J b w = length (keep (unsent b w) (rows J))

module _ {J b : List Row} {w : List Waiting} {sent : List ℕ} (inv : Between J b w sent) where
  -- a dependency of a waiting row that isn't held
  lacks : (h : ℕ) → member h (waiting w) ≡ true
      → record { d : ℕ; asked : member d (asks w h) ≡ true; dep : member d (deps J h) ≡ true; out : held b d ≡ false }
  lacks h m =
      let (d, k, n) = not_every (held b) (asks w h) (inv.stuck h m) in
      record { d = d; asked = k; dep = sym (inv.beside.ask h d m) ∙ k; out = n }

  -- where nothing is left, all is held: no row can be the first that waits
  pub none_left : GoodTable J → unsent_count J b w ≡ 0 → (h : ℕ) → held J h ≡ true → held b h ≡ true
  unfolding held
  none_left good e =
      row_induction J good (λ h. held b h ≡ true)
      (λ h m ih.
      split (held b h) (λ k. k) (λ k.
      split (member h (waiting w))
      (λ n. let l = lacks h n in absurd (true_false (held b l.d) (ih l.d l.dep) l.out))
      (λ n. absurd (none_kept h m (rw (n, k))))))
    where
      none_kept : (h : ℕ) → held J h ≡ true → unsent b w h ≡ true → ⊥
      none_kept h m u = omega (arith, member_long h (keep (unsent b w) (rows J)) (keep_member (unsent b w) (rows J) h ∙ and_true _ _ u m))

  -- B holds all of a part Z, or something is missing from Z's heads
  pub some_missing : (Z : List Row) → Part J Z
      → ((h : ℕ) → held Z h ≡ true → held b h ≡ true) ⊎ ((x : ℕ) × (member x (missing b w (heads Z)) ≡ true))
  unfolding unknown
  some_missing Z partZ = found (missing b w (heads Z)) refl
    where
      under : (h : ℕ) → held Z h ≡ true → (held b h ≡ true) ⊎ ((l : List ℕ) → member h l ≡ true → (x : ℕ) × Missing b w l x)
      under =
          row_induction Z partZ.good (λ h. (held b h ≡ true) ⊎ ((l : List ℕ) → member h l ≡ true → (x : ℕ) × Missing b w l x))
          (λ h m ih.
          split (held b h) (λ k. inl k) (λ k.
          split (member h (waiting w))
          (λ n.
          let d = lacks h n in
          inr (λ l i.
          cases (ih d.d (partZ.same h d.d m ∙ d.dep))
          (λ z. absurd (true_false (held b d.d) z d.out))
          (λ f. let (x, g) = f (asks w h) d.asked in (x, through h i k n g))))
          (λ n. inr (λ l i. (h, itself i (rw (k, n)))))))

      found : (l : List ℕ) → missing b w (heads Z) ≡ l
          → ((h : ℕ) → held Z h ≡ true → held b h ≡ true) ⊎ ((x : ℕ) × (member x (missing b w (heads Z)) ≡ true))
      found [] q =
          inl (heads_all J Z b partZ inv.beside.part
          (λ h m.
          cases (under h (head_held Z partZ.good h m)) (λ z. z)
          (λ f. let (x, g) = f (heads Z) m in absurd (member_none x (rw q at (missing_member b w (heads Z) g))))))
      found (x ∷ l) q = inr (x, rw q (member_here x l))
