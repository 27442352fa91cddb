-- Heads and the rows beyond a list as marks: what the list's rows reach is below it, and the rows that aren't marked then are those beyond; the
-- rows that no row needs are the heads.
use Prim.Native.Nat.{ℕ, ◌*◌, ◌≤◌}
use mathlib.Core.Bool.{Bool, false, not, ◌||◌}
use mathlib.Core.List.{List}
use mathlib.Core.Path.{◌≡◌, refl, ap, ◌∙◌}
use native.Mathlib.Omega.{arith}
use lib.ListN.{length, get_or}
use lib.Seq.{sets}
use Rattle.hash_order.proofs.KeepLaws.{once_inside}
use Rattle.hash_order.proofs.OrderLaws.{ascend_most, ascend_members}
use Rattle.hash_order.proofs.ReachLaws.{reach_same}
use Rattle.hash_order.specs.Order.{member, ascend}
use Rattle.hash_order.specs.Reach.{reach}
use Rattle.rules.specs.Hash.{hashes_bytes}
use Rattle.rules.specs.Sizes.{sizes}
use Rattle.table.proofs.TableLaws.{length_rows, length_rows_at}
use Rattle.table.specs.TableBytes.{rows_at}
use Rattle.table.specs.Table.{Row, rows, hash_of, deps_of, GoodTable, rows_where}
use Rattle.table_graph.specs.Graph.{needed, heads, below_row, beyond}
use Rattle.table_graph.specs.Internal.Marks.{Marks, Blank, marked, picked}
use Rattle.table_graph.proofs.MarkLaws.{blank_or}
use Rattle.table_graph.proofs.PickLaws.{rows_marked, rows_once, picked_size, picked_count}

module _ (s : List ℕ) (n : ℕ) where
  abbrev t : List Row
  t = rows_at s 0 n

  pub many_rows : length (rows t) ≡ n
  many_rows = length_rows t ∙ length_rows_at s 0 n

  -- the rows that are some of p, and the others
  pub marked_rows : (m : List Bool) (p : ℕ → Bool) → Marks n m p → picked (rows t) m ≡ rows_where t p
  marked_rows m p w = rows_marked t m p (record { each = λ i h. w.each i (omega (arith, length_rows_at s 0 n)) })

  flipped : (m r : List Bool) (p : ℕ → Bool) → Marks n m p → Marks n r (λ i. not (get_or m i false)) → Marks n r (λ i. not (p i))
  flipped m r p a b = record { each = λ i h. b.each i h ∙ ap not (a.each i h) }

  -- ---- below a list, and beyond it

  -- what the rows of a list reach
  pub below_list : (l : List ℕ) (listed r : List Bool) → Marks n listed (λ i. member (hash_of t i) l)
      → Marks n r (reach n (λ k. get_or listed k false) (λ k j. member j (deps_of t k)))
      → Marks n r (below_row t l)
  unfolding below_row
  below_list l listed r a b =
      record {
        each =
            λ i h.
            rw (length_rows_at s 0 n)
            (b.each i h
            ∙ reach_same n (λ k. get_or listed k false) (λ k. member (hash_of t k) l) (λ k j. member j (deps_of t k)) (λ k j. member j (deps_of t k))
            (λ k f. a.each k f)
            (λ k j f g. refl)
            i h);
      }

  -- where the list's rows are marked and none was before, what is reached from the marks is what lies at or below the list
  pub below_blank : (l : List ℕ) (m listed r : List Bool) → Blank n m → Marks n listed (λ i. get_or m i false || member (hash_of t i) l)
      → Marks n r (reach n (λ k. get_or listed k false) (λ k j. member j (deps_of t k)))
      → Marks n r (below_row t l)
  below_blank l m listed r none a b = below_list l listed r (blank_or n m listed (λ i. member (hash_of t i) l) none a) b

  module _ (l : List ℕ) (m r : List Bool) (a : Marks n m (below_row t l)) (b : Marks n r (λ i. not (get_or m i false))) where
    pub picked_beyond : picked (rows t) r ≡ beyond t l
    unfolding beyond
    picked_beyond = marked_rows r (λ i. not (below_row t l i)) (flipped m r (below_row t l) a b)

    pub beyond_size : (count : ℕ) → count ≡ marked n r → sizes.hash * count ≡ length (hashes_bytes (beyond t l))
    beyond_size count e = rw (e, ← picked_beyond) (picked_size (rows t) r n many_rows)

    pub beyond_put : (out next : List ℕ) → next ≡ sets out 0 (hashes_bytes (picked (rows t) r)) → next ≡ sets out 0 (hashes_bytes (beyond t l))
    beyond_put out next e = rw picked_beyond at e

  -- ---- heads

  -- the rows that no row needs
  pub heads_marked : (m r : List Bool) → Marks n m (needed t) → Marks n r (λ i. not (get_or m i false)) → Marks n r (λ i. not (needed t i))
  heads_marked m r a b = flipped m r (needed t) a b

  module _ (r : List Bool) (those : Marks n r (λ i. not (needed t i))) where
    pub picked_heads : ascend (picked (rows t) r) ≡ heads t
    unfolding heads
    picked_heads = ap ascend (marked_rows r (λ i. not (needed t i)) those)

    -- no two rows have one hash, so as many heads are ascending
    pub heads_many_lem : GoodTable t → length (heads t) ≡ marked n r
    unfolding heads
    heads_many_lem good =
        let some : List ℕ = rows_where t (λ i. not (needed t i)) in
        let same : picked (rows t) r ≡ some = marked_rows r (λ i. not (needed t i)) those in
        let count : length (picked (rows t) r) ≡ marked n r = picked_count (rows t) r n many_rows in
        let all : length some ≤ length (ascend some) =
        once_inside some (ascend some) (rows_once t good (λ i. not (needed t i))) (λ h e. ascend_members h some ∙ e)
        in
        omega (arith, all, ascend_most some, ap length same, count)
