-- Heads by hash: each is a row, they ascend, no row depends on one, and every row is reached from them over dependencies.
use Prim.Native.Nat.{ℕ, zero, suc, ◌-◌, ◌≤◌, ◌<◌}
use mathlib.Core.Bool.{Bool, true, false, not, ◌&&◌}
use mathlib.Core.List.{List}
use mathlib.Core.Path.{◌≡◌, sym, ap, subst, ◌∙◌}
use native.Mathlib.Omega.{arith}
use borrow.Author.Tests.{not-true}
use lib.ListN.{length}
use Rattle.hash_order.proofs.KeepLaws.{hashes_inside}
use Rattle.hash_order.proofs.OrderLaws.{ascend_ascends, ascend_members, ascend_most}
use Rattle.hash_order.proofs.ReachLaws.{some_below_lem, some_witness}
use Rattle.hash_order.specs.Order.{member, ascends, ascend}
use Rattle.rules.proofs.Cases.{split, both, true_false}
use Rattle.rules.specs.Hash.{AreHashes}
use Rattle.table.proofs.TableLaws.{number_of_row, held_row, row_of_held, hash_of_held}
use Rattle.table.specs.Table.{Row, rows, hash_of, deps_of, GoodTable, row_number, held, deps, rows_where}
use Rattle.table_graph.specs.Graph.{needed, heads, below}
use Rattle.table_graph.proofs.BelowLaws.{dependency, deps_of_hash, below_listed, below_deps}
use Rattle.table_graph.proofs.PickLaws.{rows_where_lem, rows_member, rows_most}

pub heads_ascend : (t : List Row) → ascends (heads t) ≡ true
unfolding heads
heads_ascend t = ascend_ascends (rows_where t (λ i. not (needed t i)))

-- hashes of rows being hashes, so are the heads, and no more than the rows
pub heads_hashes : (t : List Row) → AreHashes (rows t) → AreHashes (heads t)
unfolding heads
heads_hashes t a =
    let p : ℕ → Bool = λ i. not (needed t i) in
    hashes_inside (ascend (rows_where t p)) (rows t) a (λ h m. rows_member t p h (sym (ascend_members h (rows_where t p)) ∙ m))

pub heads_few : (t : List Row) → length (heads t) ≤ length t
unfolding heads
heads_few t =
    let p : ℕ → Bool = λ i. not (needed t i) in
    omega (arith, ascend_most (rows_where t p), rows_most t p)

module _ (t : List Row) (good : GoodTable t) where
  pub head_is : (h : ℕ) → member h (heads t) ≡ (held t h && not (needed t (row_number t h)))
  unfolding heads
  head_is h = ascend_members h (rows_where t (λ i. not (needed t i))) ∙ rows_where_lem t good (λ i. not (needed t i)) h

  pub head_held : (h : ℕ) → member h (heads t) ≡ true → held t h ≡ true
  head_held h m = (both (held t h) (not (needed t (row_number t h))) (sym (head_is h) ∙ m)).0

  head_unneeded : (h : ℕ) → member h (heads t) ≡ true → needed t (row_number t h) ≡ false
  head_unneeded h m = not-true (needed t (row_number t h)) (both (held t h) (not (needed t (row_number t h))) (sym (head_is h) ∙ m)).1

  -- no row depends on a head
  pub head_last : (h g : ℕ) → member h (heads t) ≡ true → member h (deps t g) ≡ false
  unfolding needed
  head_last h g m =
      split (member h (deps t g))
      (λ e.
      let d = dependency t good g h e in
      let less : d.row < length t = omega (arith, d.less, d.inside) in
      let at : d.row ≡ row_number t h = sym (number_of_row t good d.row less) ∙ ap (row_number t) d.is in
      let named : member (row_number t h) (deps_of t (row_number t g)) ≡ true = rw at at d.there in
      absurd (true_false _ (some_below_lem (length t) (λ k. member (row_number t h) (deps_of t k)) (row_number t g) d.inside named) (head_unneeded h m)))
      (λ e. e)

  -- what holds of the heads and passes to dependencies holds of all rows
  module _ (P : ℕ → Type 0)
      (base : (h : ℕ) → member h (heads t) ≡ true → P h)
      (step : (h g : ℕ) → held t h ≡ true → P h → member g (deps t h) ≡ true → P g) where
    from_last : (d i : ℕ) → length t - i ≤ d → i < length t → P (hash_of t i)
    unfolding needed
    from_last zero i m h = absurd (omega arith)
    from_last (suc d) i m h =
        split (needed t i)
        (λ e.
        let w = some_witness (length t) (λ k. member i (deps_of t k)) e in
        let later : i < w.k = good.down w.k i w.less w.is in
        step (hash_of t w.k) (hash_of t i) (held_row t w.k w.less) (from_last d w.k (omega arith) w.less) (deps_of_hash t good w.k i w.less w.is))
        (λ e. base (hash_of t i) (head_is (hash_of t i) ∙ rw (held_row t i h, number_of_row t good i h, e)))

    pub heads_cover : (h : ℕ) → held t h ≡ true → P h
    heads_cover h e = subst P (hash_of_held t h e) (from_last (length t) (row_number t h) (omega arith) (row_of_held t h e))

  -- every row is a head or an ancestor of one
  pub rows_below_heads : (h : ℕ) → held t h ≡ true → below t (heads t) h ≡ true
  rows_below_heads =
      heads_cover (λ (h : ℕ). below t (heads t) h ≡ true)
      (λ h m. below_listed t good (heads t) h (head_held h m) m)
      (λ h g e b d. below_deps t good (heads t) h g b d)
