-- The new table is a good table: no kept row has another's hash, what a kept row uses is kept and stands before it, and places in a list that ascends go
-- with its numbers.
use Prim.Native.Nat.{ℕ, zero, suc, ◌/◌, ◌≤◌, ◌<◌}
use mathlib.Core.Bool.{true, false, not, ◌&&◌}
use mathlib.Core.List.{List, [], ◌∷◌, ◌++◌, map, append-nil}
use mathlib.Core.Option.{Option, none, some}
use mathlib.Core.Path.{◌≡◌, refl, sym, ap, ◌∙◌}
use native.Mathlib.Omega.{arith}
use borrow.Author.Tests.{not-true, eqb-false, eqb-true, ltb-true, ltb-false}
use lib.Dec.{ltb, leb, eqb}
use lib.ListN.{length, get_or, length-map}
use Rattle.hash_order.proofs.KeepLaws.{every_member, once_none, once_cons, once_append, once_ascends}
use Rattle.hash_order.proofs.OrderLaws.{member_none, member_here, member_there, index_member, ascends_tail, ascends_first, ascends_index, ascends_cons}
use Rattle.hash_order.specs.Order.{member, keep, every, ascends, Once}
use Rattle.rules.proofs.Cases.{split, both, true_false}
use Rattle.rules.specs.Zeros.{zeros}
use Rattle.salvage_rules.proofs.KeptLaws.{only_one, is_none, sound, new, has, broken_tests, kept_ascends, is_kept}
use Rattle.salvage_rules.specs.KeptRows.{Rule, row_hash, broken_rule, kept_if, kept_of}
use Rattle.table.proofs.TableLaws.{index_of_member, entry_at_index, index_of_entry}
use Rattle.table.specs.Table.{Row, no_row, rows, deps_of, index_in, GoodTable}
use Rattle.table.specs.TableBytes.{row_size_of, count_of, used_of, unused_of, numbers_good}
use Rattle.table_index.proofs.ListLaws.{member_map}
use Rattle.salvage.specs.Salvaged.{new_row, new_table}

pub map_member : (f : ℕ → ℕ) (l : List ℕ) (g : ℕ) → member g (map f l) ≡ true → record { k : ℕ; there : member k l ≡ true; is : f k ≡ g }
map_member f l g m = let r = member_map f l g m in record { k = r.0; there = r.1; is = r.2 }

-- places in an ascending list go with its numbers
place_less : (l : List ℕ) → ascends l ≡ true → (u v : ℕ) → member u l ≡ true → member v l ≡ true → u < v → index_in l u < index_in l v
place_less l a u v mu mv h =
    let iu = index_of_member l u mu in
    let iv = index_of_member l v mv in
    let eu = entry_at_index l u iu in
    let ev = entry_at_index l v iv in
    split (ltb (index_in l u) (index_in l v)) (λ e. ltb-true _ _ e)
    (λ e.
    let back = ltb-false (index_in l u) (index_in l v) e in
    split (eqb (index_in l u) (index_in l v))
    (λ q.
    let same = ap (λ (i : ℕ). get_or l i 0) (eqb-true (index_in l u) (index_in l v) q) in
    absurd (let z : u ≡ v = sym eu ∙ same ∙ ev in omega arith))
    (λ q.
    let less : index_in l v < index_in l u = apart (index_in l v) (index_in l u) back (λ x. eqb-false (index_in l u) (index_in l v) q (sym x)) in
    let wrong = ascends_index l (index_in l v) (index_in l u) a less iu in
    absurd (omega arith)))
  where
    apart : (x y : ℕ) → x ≤ y → (x ≡ y → ⊥) → x < y
    apart x y p q = split (ltb x y) (λ e. ltb-true x y e) (λ e. absurd (q (let z = ltb-false x y e in omega arith)))

map_ascends : (f : ℕ → ℕ) (l : List ℕ) → ascends l ≡ true → ((u v : ℕ) → member u l ≡ true → member v l ≡ true → u < v → f u < f v) → ascends (map f l) ≡ true
unfolding ascends
map_ascends f [] a g = refl
map_ascends f (x ∷ l) a g =
    ascends_cons (f x) (map f l)
    (map_ascends f l (ascends_tail x l a) (λ u v mu mv. g u v (member_there u x l mu) (member_there v x l mv)))
    (λ y m.
    let k = map_member f l y m in
    let z = g x k.k (member_here x l) (member_there k.k x l k.there) (ascends_first x l a k.k k.there) in
    let q = k.is in
    omega arith)

pub map_row : (f : ℕ → Row) (l : List ℕ) (p : ℕ) → p < length l → get_or (map f l) p no_row ≡ f (get_or l p 0)
map_row f [] p h = absurd (let z : p < 0 = h in omega arith)
map_row f (x ∷ l) zero h = refl
map_row f (x ∷ l) (suc p) h = map_row f l p (let z : suc p < suc (length l) = h in omega arith)

pub map_hashes : (d : ℕ) (s kept l : List ℕ) → rows (map (new_row d s kept) l) ≡ map (row_hash d s) l
unfolding rows new_row
map_hashes d s kept [] = refl
map_hashes d s kept (x ∷ l) = ap (λ (m : List ℕ). row_hash d s x ∷ m) (map_hashes d s kept l)

none_in : (x : ℕ) → member x [] ≡ false
none_in x = split (member x []) (λ m. absurd (member_none x m)) (λ m. m)

map_append : (f : ℕ → ℕ) (a b : List ℕ) → map f (a ++ b) ≡ map f a ++ map f b
map_append f [] b = refl
map_append f (x ∷ a) b = ap (λ (l : List ℕ). f x ∷ l) (map_append f a b)

module _ (d : ℕ) (s : List ℕ) where
  -- no hash twice
  hashes_once : (n : ℕ) → Once (map (row_hash d s) (kept_of d s n))
  unfolding kept_of
  hashes_once zero = once_none
  hashes_once (suc n) = grown (broken_rule d s (kept_of d s n) n) refl (hashes_once n)
    where
      grown : (r : Option Rule) → broken_rule d s (kept_of d s n) n ≡ r → Once (map (row_hash d s) (kept_of d s n)) → Once (map (row_hash d s) (kept_of d s n ++ kept_if r n))
      grown none e o =
          let tests = sym (broken_tests d s (kept_of d s n) n) ∙ ap is_none e in
          let fresh = (both (new d s (kept_of d s n) n) (has d s (kept_of d s n) n) (both (sound d s n) _ tests).1).0 in
          rw (map_append (row_hash d s) (kept_of d s n) (n ∷ []))
          (once_append (map (row_hash d s) (kept_of d s n)) (row_hash d s n ∷ []) o (once_cons (row_hash d s n) [] (none_in (row_hash d s n)) once_none)
          (λ h m.
          split (member h (row_hash d s n ∷ []))
          (λ k. absurd (true_false (member (row_hash d s n) (map (row_hash d s) (kept_of d s n))) (rw (only_one h (row_hash d s n) k) at m) (not-true _ fresh)))
          (λ k. k)))
      grown (some r) e o = rw (append-nil (kept_of d s n)) o

  abbrev count : ℕ
  count = length s / row_size_of d

  abbrev K' : List ℕ
  K' = kept_of d s count

  -- a kept row: what it uses is kept and stands before it
  pub kept_used : (i : ℕ) → member i K' ≡ true
      → (ascends (used_of d s i) ≡ true) × ((u : ℕ) → member u (used_of d s i) ≡ true → (u < i) × (member u K' ≡ true))
  unfolding numbers_good
  kept_used i m =
      let is = is_kept d s count in
      let tests = sym (is.exactly i (is.inside i m)) ∙ m in
      let a = both (sound d s i) (not (member (row_hash d s i) (map (row_hash d s) (keep (λ k. ltb k i) K'))) && has d s K' i) tests in
      let b = both (leb (count_of d s i) d) (numbers_good i (used_of d s i)) (both (leb (count_of d s i) d && numbers_good i (used_of d s i)) (zeros (unused_of d s i)) a.0).0 in
      let g = both (ascends (used_of d s i)) (every (λ k. ltb k i) (used_of d s i)) b.1 in
      let h = both (not (member (row_hash d s i) (map (row_hash d s) (keep (λ k. ltb k i) K')))) (has d s K' i) a.1 in
      (g.0, λ u n. (ltb-true u i (every_member (λ k. ltb k i) (used_of d s i) g.1 u n), every_member (λ k. member k K') (used_of d s i) h.1 u n))

  abbrev t : List Row
  t = new_table d s

  pub new_deps : (p : ℕ) → p < length K' → deps_of t p ≡ map (index_in K') (used_of d s (get_or K' p 0))
  unfolding deps_of new_table new_row
  new_deps p h = ap (λ (r : Row). r.deps) (map_row (new_row d s K') K' p h)

  pub new_long : length t ≡ length K'
  unfolding new_table
  new_long = length-map K' (new_row d s K')

  pub new_good : GoodTable t
  unfolding new_table
  new_good =
      record {
        once = rw (map_hashes d s K' K') (hashes_once count);
        down =
            λ p k h m.
            let l : p < length K' = (let z = new_long in omega arith) in
            let i : ℕ = get_or K' p 0 in
            let mi : member i K' ≡ true = index_member K' p l in
            let x = map_member (index_in K') (used_of d s i) k (ap (member k) (sym (new_deps p l)) ∙ m) in
            let u = (kept_used i mi).1 x.k x.there in
            let less = place_less K' (kept_ascends d s count) x.k i u.1 mi u.0 in
            let at : index_in K' i ≡ p = index_of_entry K' (once_ascends K' (kept_ascends d s count)) p l in
            let q = x.is in
            omega arith;
        ordered =
            λ p h.
            let l : p < length K' = (let z = new_long in omega arith) in
            let i : ℕ = get_or K' p 0 in
            let u = kept_used i (index_member K' p l) in
            ap ascends (new_deps p l)
            ∙ map_ascends (index_in K') (used_of d s i) u.0 (λ a b ma mb. place_less K' (kept_ascends d s count) a b (u.1 a ma).1 (u.1 b mb).1);
      }
