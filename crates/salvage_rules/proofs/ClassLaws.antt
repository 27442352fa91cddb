-- Along the order of all rows those of one hash stand side by side, since hashes don't fall along it: so two rows' runs begin at the same place just if
-- their hashes are the same.
use Prim.Native.Nat.{ℕ, zero, suc, ◌+◌, ◌-◌, ◌*◌, ◌≤◌, ◌<◌}
use mathlib.Core.Bool.{Bool, true, false, cond}
use mathlib.Core.List.{List, [], ◌∷◌, map}
use mathlib.Core.Path.{◌≡◌, refl, sym, ap, ap₂, ◌∙◌}
use native.Mathlib.Omega.{arith}
use borrow.Author.Tests.{ltb-true, ltb-false, eq-eqb, eqb-true, eqb-false}
use lib.Dec.{ltb, eqb}
use lib.ListN.{length, get_or, set, length-map}
use lib.Seq.{get_or-set_same, get_or-set_other}
use Rattle.hash_order.proofs.KeepLaws.{once_none, once_first, once_tail, once_cons, once_index}
use Rattle.hash_order.proofs.OrderLaws.{member_none, member_index, index_member}
use Rattle.hash_order.specs.Order.{member, Once}
use Rattle.rules.proofs.Cases.{split, same_truth}
use Rattle.rules.specs.LittleEndian.{u16_at}
use Rattle.table.specs.TableBytes.{u16s_at, row_size_of}
use Rattle.table_check.specs.Internal.Repeats.{RowOrder}
use Rattle.table_index.proofs.ByteLaws.{entry}
use Rattle.table_index.proofs.IndexLaws.{put_member, index_length, index_rises, index_has, index_member_below}
use Rattle.table_index.proofs.ListLaws.{map_index, rises_tail, rises_first}
use Rattle.table_index.specs.Index.{put, indexed, rises, record_hash}
use Rattle.salvage_rules.specs.Internal.Decided.{run_start, Classes}

-- ---- where runs begin

module _ (g : ℕ → ℕ) where
  pub run_first : (k : ℕ) → k ≡ 0 → 0 ≡ run_start g k
  unfolding run_start
  run_first k e = rw e

  pub run_new : (k : ℕ) → (k ≡ 0 → ⊥) → eqb (g k) (g (k - 1)) ≡ false → k ≡ run_start g k
  unfolding run_start
  run_new zero z e = absurd (z refl)
  run_new (suc k) z e =
      let before : suc k - 1 ≡ k = omega arith in
      let other : eqb (g (suc k)) (g k) ≡ false = rw before at e in
      rw other

  pub run_on : (k last : ℕ) → (k ≡ 0 → ⊥) → eqb (g k) (g (k - 1)) ≡ true → last ≡ run_start g (k - 1) → last ≡ run_start g k
  unfolding run_start
  run_on zero last z e l = absurd (z refl)
  run_on (suc k) last z e l =
      let before : suc k - 1 ≡ k = omega arith in
      let same : eqb (g (suc k)) (g k) ≡ true = rw before at e in
      rw same (rw before at l)

  pub start_first : 0 ≡ run_start g (0 - 1)
  unfolding run_start
  start_first = let none : 0 - 1 ≡ 0 = omega arith in rw none

  pub start_next : (k r : ℕ) → r ≡ run_start g k → r ≡ run_start g (k + 1 - 1)
  start_next k r e = let same : k + 1 - 1 ≡ k = omega arith in rw same e

  start_within : (k : ℕ) → run_start g k ≤ k
  unfolding run_start
  start_within zero = omega arith
  start_within (suc k) = split (eqb (g (suc k)) (g k)) (λ e. rw e (omega (arith, start_within k))) (λ e. rw e (omega arith))

  pub start_below : (k r : ℕ) → r ≡ run_start g k → r ≤ k
  start_below k r e = omega (arith, start_within k)

  start_same : (k : ℕ) → g (run_start g k) ≡ g k
  unfolding run_start
  start_same zero = refl
  start_same (suc k) =
      split (eqb (g (suc k)) (g k)) (λ e. rw e (start_same k ∙ sym (eqb-true (g (suc k)) (g k) e))) (λ e. rw e)

  module _ (n : ℕ) (up : (a b : ℕ) → a ≤ b → b < n → g a ≤ g b) where
    same_start : (a b : ℕ) → a ≤ b → b < n → g a ≡ g b → run_start g a ≡ run_start g b
    unfolding run_start
    same_start a zero h l e = ap (run_start g) (let z : a ≡ 0 = omega arith in z)
    same_start a (suc b) h l e =
        split (eqb a (suc b))
        (λ q. ap (run_start g) (eqb-true a (suc b) q))
        (λ q.
        let other : a ≡ suc b → ⊥ = eqb-false a (suc b) q in
        let low : a ≤ b = below a b h other in
        let first = up a b low (omega arith) in
        let last = up b (suc b) (omega arith) l in
        let same : g (suc b) ≡ g b = omega arith in
        rw (eq-eqb (g (suc b)) (g b) same) (same_start a b low (omega arith) (omega arith)))
      where
        below : (a b : ℕ) → a ≤ suc b → (a ≡ suc b → ⊥) → a ≤ b
        below a b h o = split (ltb a (suc b)) (λ e. let z = ltb-true a (suc b) e in omega arith) (λ e. absurd (o (let z = ltb-false a (suc b) e in omega arith)))

    runs_tell : (a b : ℕ) → a < n → b < n → eqb (run_start g a) (run_start g b) ≡ eqb (g a) (g b)
    runs_tell a b la lb =
        same_truth (eqb (run_start g a) (run_start g b)) (eqb (g a) (g b))
        (λ e. eq-eqb (g a) (g b) (sym (start_same a) ∙ ap g (eqb-true (run_start g a) (run_start g b) e) ∙ start_same b))
        (λ e.
        let same = eqb-true (g a) (g b) e in
        eq-eqb (run_start g a) (run_start g b)
        (split (ltb a b)
        (λ h. same_start a b (let z = ltb-true a b h in omega arith) lb same)
        (λ h. sym (same_start b a (ltb-false a b h) la (sym same)))))

-- ---- the order of all rows

rises_at : (l : List ℕ) → rises l ≡ true → (i j : ℕ) → i ≤ j → j < length l → get_or l i 0 ≤ get_or l j 0
rises_at [] r i j h b = absurd (let z : j < 0 = b in omega arith)
rises_at (x ∷ l) r zero zero h b = omega arith
rises_at (x ∷ l) r zero (suc j) h b = rises_first x l r (get_or l j 0) (index_member l j (let z : suc j < suc (length l) = b in omega arith))
rises_at (x ∷ l) r (suc i) zero h b = absurd (omega arith)
rises_at (x ∷ l) r (suc i) (suc j) h b = rises_at l (rises_tail x l r) i j (omega arith) (let z : suc j < suc (length l) = b in omega arith)

module _ (f : ℕ → ℕ) where
  none_in : (x : ℕ) → member x [] ≡ false
  none_in x = split (member x []) (λ m. absurd (member_none x m)) (λ m. m)

  once_put : (i : ℕ) (l : List ℕ) → Once l → member i l ≡ false → Once (put f i l)
  unfolding put member
  once_put i [] o m = once_cons i [] (none_in i) o
  once_put i (x ∷ l) o m =
      split (ltb (f x) (f i))
      (λ e.
      split (eqb i x)
      (λ q. absurd (let z : ◌≡◌ {A = Bool} true false = (rw q at m) in never z))
      (λ q.
      let out : member i l ≡ false = rw q at m in
      let apart : eqb x i ≡ false = split (eqb x i) (λ z. absurd (eqb-false i x q (sym (eqb-true x i z)))) (λ z. z) in
      let gone : member x (put f i l) ≡ false = rw (put_member f i l x, apart) (once_first x l o) in
      rw e (once_cons x (put f i l) gone (once_put i l (once_tail x l o) out))))
      (λ e. rw e (once_cons i (x ∷ l) m o))
    where
      never : ◌≡◌ {A = Bool} true false → ⊥
      never z = let y : ◌≡◌ {A = ℕ} 1 0 = ap (λ (b : Bool). cond b 1 0) z in omega arith

  once_index_of : (n : ℕ) → Once (indexed f n)
  unfolding indexed
  once_index_of zero = once_none
  once_index_of (suc n) =
      once_put n (indexed f n) (once_index_of n)
      (split (member n (indexed f n)) (λ m. absurd (let z = index_member_below f n n m in omega arith)) (λ m. m))

module _ (d : ℕ) (s x : List ℕ) (n : ℕ) (o : RowOrder d s x n) where
  abbrev f : ℕ → ℕ
  f i = record_hash s (row_size_of d) i

  abbrev e : ℕ → ℕ
  e k = u16_at x (2 * k)

  entry_is : (k : ℕ) → k < n → get_or (indexed f n) k 0 ≡ e k
  entry_is k h = ap (λ (l : List ℕ). get_or l k 0) (sym o.order) ∙ entry x n k h

  entries_apart : (a b : ℕ) → a < n → b < n → e a ≡ e b → a ≡ b
  entries_apart a b la lb q =
      let long = index_length f n in
      once_index (indexed f n) (once_index_of f n) a b (omega arith) (omega arith) (entry_is a la ∙ q ∙ sym (entry_is b lb))

  entries_rise : (a b : ℕ) → a ≤ b → b < n → f (e a) ≤ f (e b)
  entries_rise a b h l =
      let long = index_length f n in
      let many = length-map (indexed f n) f in
      let up = rises_at (map f (indexed f n)) (index_rises f n) a b h (omega arith) in
      let first : get_or (map f (indexed f n)) a 0 ≡ f (e a) = map_index f (indexed f n) a (omega arith) ∙ ap f (entry_is a (omega arith)) in
      let last : get_or (map f (indexed f n)) b 0 ≡ f (e b) = map_index f (indexed f n) b (omega arith) ∙ ap f (entry_is b l) in
      omega arith

  entry_of : (i : ℕ) → i < n → (a : ℕ) × (a < n) × (e a ≡ i)
  entry_of i h =
      let long = index_length f n in
      let r = member_index i (indexed f n) (index_has f n i h) in
      let l : r.0 < n = omega (arith, r.1) in
      (r.0, l, sym (entry_is r.0 l) ∙ r.2)

  -- each row of an entry has its run's start
  pub classes_more : (classes : List ℕ) (k row r : ℕ) → ((a : ℕ) → a < k → get_or classes (e a) 0 ≡ run_start (λ j. f (e j)) a) → k < n
      → row ≡ e k
      → r ≡ run_start (λ j. f (e j)) k
      → row < n
      → (full : ℕ)
      → n ≤ full
      → length classes ≡ full
      → (a : ℕ)
      → a < k + 1
      → get_or (set classes row r) (e a) 0 ≡ run_start (λ j. f (e j)) a
  classes_more classes k row r done h at is there full room long a l =
      split (eqb a k)
      (λ q.
      let same = eqb-true a k q in
      ap (λ (j : ℕ). get_or (set classes row r) (e j) 0) same
      ∙ ap (λ (j : ℕ). get_or (set classes row r) j 0) (sym at)
      ∙ get_or-set_same classes row r 0 (omega arith)
      ∙ is
      ∙ ap (run_start (λ j. f (e j))) (sym same))
      (λ q.
      let other : a ≡ k → ⊥ = eqb-false a k q in
      let less : a < k = split (ltb a k) (λ z. ltb-true a k z) (λ z. absurd (other (let y = ltb-false a k z in omega arith))) in
      get_or-set_other classes row (e a) r 0 (λ z. other (entries_apart a k (omega arith) h (z ∙ at))) ∙ done a less)

  pub classes_all : (classes : List ℕ) → ((a : ℕ) → a < n → get_or classes (e a) 0 ≡ run_start (λ j. f (e j)) a) → Classes f n classes
  classes_all classes done =
      record {
        below =
            λ i h.
            let r = entry_of i h in
            let is : get_or classes i 0 ≡ run_start (λ j. f (e j)) r.0 = ap (λ (j : ℕ). get_or classes j 0) (sym r.2) ∙ done r.0 r.1 in
            omega (arith, is, start_within (λ j. f (e j)) r.0, r.1);
        same =
            λ i j h l.
            let a = entry_of i h in
            let b = entry_of j l in
            ap₂ (λ (x y : ℕ). eqb x y)
            (ap (λ (j : ℕ). get_or classes j 0) (sym a.2) ∙ done a.0 a.1)
            (ap (λ (j : ℕ). get_or classes j 0) (sym b.2) ∙ done b.0 b.1)
            ∙ runs_tell (λ j. f (e j)) n entries_rise a.0 b.0 a.1 b.1
            ∙ ap₂ (λ (x y : ℕ). eqb (f x) (f y)) a.2 b.2;
      }

-- hashes of two rows compared, which two entries name
pub told_runs : (s x : List ℕ) (size a b k : ℕ) (r : Bool) → r ≡ eqb (record_hash s size a) (record_hash s size b) → a ≡ u16_at x (2 * k) → b ≡ u16_at x (2 * (k - 1))
    → r ≡ eqb (record_hash s size (u16_at x (2 * k))) (record_hash s size (u16_at x (2 * (k - 1))))
told_runs s x size a b k r e p q = rw (p, q) at e

-- the order that was made
pub ordered : (d : ℕ) (s x : List ℕ) (n size : ℕ) → size ≡ row_size_of d → n * row_size_of d ≤ length s → 2 * n ≤ length x → u16s_at x 0 n ≡ indexed (record_hash s size) n → RowOrder d s x n
ordered d s x n size e inside room made = record { inside = inside; entries = room; order = made ∙ ap (λ (z : ℕ). indexed (record_hash s z) n) e }
