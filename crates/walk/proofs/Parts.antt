-- A dependency-closed part of a table: it has what its rows depend on in the whole, and two parts agree on the rows that both hold. So ancestors of
-- what a part holds are in it, whichever part they are looked up in. Assumes nothing.
use Prim.Native.Nat.{ℕ}
use mathlib.Core.Bool.{true}
use mathlib.Core.List.{List}
use mathlib.Core.Path.{◌≡◌, refl, sym, ◌∙◌}
use Rattle.table_graph.proofs.BelowLaws.{only_rows, deps_held, below_held, below_listed, below_deps, below_least}
use Rattle.table_graph.proofs.HeadLaws.{head_held, heads_cover}
use Rattle.table_graph.specs.Graph.{heads, below}
use Rattle.hash_order.specs.Order.{member}
use Rattle.table.specs.Table.{Row, GoodTable, held, deps}
use Rattle.walk.specs.Round.{Part}

-- a table is a part of itself
pub part_itself : (t : List Row) → GoodTable t → Part t t
part_itself t good = record { good = good; within = λ h e. e; same = λ h d e. refl }

-- dependencies of what a part holds are held by it
pub part_closed : (j b : List Row) → Part j b → (h d : ℕ) → held b h ≡ true → member d (deps j h) ≡ true → held b d ≡ true
part_closed j b part h d e m = deps_held b part.good h d (part.same h d e ∙ m)

module _ (j x b : List Row) (part_x : Part j x) (part_b : Part j b) where
  -- a part has what its rows depend on by another part's dependencies too
  pub parts_closed : (h d : ℕ) → held b h ≡ true → member d (deps x h) ≡ true → held b d ≡ true
  parts_closed h d e m = part_closed j b part_b h d e (sym (part_x.same h d (only_rows x part_x.good h d m)) ∙ m)

  -- what is below a part's heads is held by it
  pub below_heads : (h : ℕ) → below x (heads b) h ≡ true → held b h ≡ true
  below_heads =
      below_least x part_x.good (heads b) (λ h. held b h ≡ true)
      (λ h e m. head_held b part_b.good h m)
      (λ h d e p m. parts_closed h d p m)

  -- what is below a list in one part is so in another that holds the list
  pub below_there : (l : List ℕ) → ((h : ℕ) → member h l ≡ true → held x h ≡ true) → (h : ℕ) → below b l h ≡ true → below x l h ≡ true
  below_there l f =
      below_least b part_b.good l (λ h. below x l h ≡ true)
      (λ h e m. below_listed x part_x.good l h (f h m) m)
      (λ h d e p m.
      below_deps x part_x.good l h d p (part_x.same h d (below_held x part_x.good l h p) ∙ sym (part_b.same h d e) ∙ m))

  -- a part that holds another's heads holds all of it
  pub heads_all : ((h : ℕ) → member h (heads x) ≡ true → held b h ≡ true) → (h : ℕ) → held x h ≡ true → held b h ≡ true
  heads_all f = heads_cover x part_x.good (λ h. held b h ≡ true) f (λ h d e p m. parts_closed h d p m)
