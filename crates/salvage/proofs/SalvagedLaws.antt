-- The result as bytes, what is told, and good tables that come out as they went in.
use Prim.Native.Nat.{ℕ, zero, suc, ◌+◌, ◌-◌, ◌*◌, ◌/◌, ◌%◌, ◌≤◌, ◌<◌}
use mathlib.Core.Bool.{Bool, true, false, not, ◌&&◌, ◌||◌}
use mathlib.Core.List.{List, [], ◌∷◌, ◌++◌, map, append-nil}
use mathlib.Core.Option.{Option, none, some}
use mathlib.Core.Path.{◌≡◌, refl, sym, ap, ap₂, subst, ◌∙◌}
use native.Mathlib.Nat.{div-le_of_le-mul, le_trans, le_of_eq, mul_comm, mul-mod_left}
use native.Mathlib.Omega.{arith}
use borrow.Author.Tests.{eq-eqb, ne_eqb, lt-ltb, le-ltb, ltb-true, ltb-false, leb-true, eqb-true, not-true}
use lib.Dec.{ltb, leb, eqb}
use lib.ListN.{length, get_or, length-append, length-map, get_or-append}
use lib.Seq.{get_or_at}
use Rattle.hash_order.proofs.KeepLaws.{hashes_each, every_one, once_ascends}
use Rattle.hash_order.proofs.OrderLaws.{index_member, member_index, member_none, member_here, member_there, member_append}
use Rattle.hash_order.specs.Order.{member, every, ascends}
use Rattle.rules.proofs.Cases.{split, both, true_false, same_truth, either, or_left, or_right, and_true}
use Rattle.rules.proofs.Hash.{hash_is_hash}
use Rattle.rules.specs.Hash.{Bytes}
use Rattle.rules.specs.Zeros.{zeros}
use Rattle.salvage_rules.proofs.KeptLaws.{ascends_end, is_none, sound, new, has, broken_tests, kept_first, kept_one, is_kept}
use Rattle.salvage_rules.specs.KeptRows.{Rule, row_hash, broken_rule, kept_if, kept_of}
use Rattle.table.proofs.ExtendLaws.{rows_append}
use Rattle.table.proofs.TableLaws.{length_used_of, index_of_member, entry_at_index, index_of_entry, good_row_has, good_table_of, good_accepted_of}
use Rattle.table.proofs.WrittenLaws.{table_read, table_accepted, round_trip}
use Rattle.table.specs.Table.{Row, rows, hash_of, deps_of, index_in}
use Rattle.table.specs.TableBytes.{row_size_of, count_of, used_of, unused_of, row_of, rows_of, whole_rows_of, numbers_good, row_good_of, table_checked_of}
use Rattle.table.specs.TableWritten.{table_bytes_of, Holdable}
use Rattle.salvage.specs.Salvaged.{Entry, dropped_if, report_of, new_row, new_table, salvage, rows_told, IsReport, M109}
use Rattle.salvage.proofs.NewTableLaws.{map_member, map_hashes, new_deps, new_long, new_good, kept_used}
use Rattle.std.specs.Prelude.{Ok}

-- each row is kept or told
pub all_told : (d : ℕ) (s : List ℕ) (n : ℕ) → length (kept_of d s n) + length (report_of d s n) ≡ n
unfolding kept_of report_of
all_told d s zero = omega arith
all_told d s (suc n) = grown (broken_rule d s (kept_of d s n) n) (all_told d s n)
  where
    grown : (r : Option Rule) → length (kept_of d s n) + length (report_of d s n) ≡ n
        → length (kept_of d s n ++ kept_if r n) + length (report_of d s n ++ dropped_if r n) ≡ suc n
    grown none e =
        let a = length-append (kept_of d s n) (n ∷ []) in
        let b = length-append (report_of d s n) [] in
        let c : length (n ∷ []) ≡ 1 = refl in
        let f : length {A = Entry} [] ≡ 0 = refl in
        omega arith
    grown (some r) e =
        let a = length-append (kept_of d s n) [] in
        let b = length-append (report_of d s n) (record { row = n; rule = r } ∷ []) in
        let c : length {A = Entry} (record { row = n; rule = r } ∷ []) ≡ 1 = refl in
        let f : length {A = ℕ} [] ≡ 0 = refl in
        omega arith

module _ (d most : ℕ) (s : List ℕ) (wide : d < 65536) (rowsFew : most ≤ 65536) (short : length s ≤ most * row_size_of d) (b : Bytes s) where
  abbrev n : ℕ
  n = length s / row_size_of d

  abbrev K : List ℕ
  K = kept_of d s n

  abbrev t : List Row
  t = new_table d s

  few : n ≤ most
  few = div_most (length s) most (row_size_of d) (omega arith) short
    where
      div_most : (a m k : ℕ) → 0 < k → a ≤ m * k → a / k ≤ m
      div_most a m k p h = div-le_of_le-mul k (le_trans h (le_of_eq (mul_comm m k)))

  kept_few : length t ≤ most
  kept_few = let a = new_long d s in let c = all_told d s n in let e = few in omega arith

  narrow : (p : ℕ) → p < length t → length (deps_of t p) ≤ d
  narrow p h =
      let l : p < length K = (let z = new_long d s in omega arith) in
      let i : ℕ = get_or K p 0 in
      let is = is_kept d s n in
      let m : member i K ≡ true = index_member K p l in
      let tests = sym (is.exactly i (is.inside i m)) ∙ m in
      let a = both ((leb (count_of d s i) d && numbers_good i (used_of d s i)) && zeros (unused_of d s i)) _ tests in
      let c = both (leb (count_of d s i) d && numbers_good i (used_of d s i)) (zeros (unused_of d s i)) a.0 in
      let e = leb-true (count_of d s i) d (both (leb (count_of d s i) d) (numbers_good i (used_of d s i)) c.0).0 in
      let f = ap length (new_deps d s p l) in
      let g = length-map (used_of d s i) (index_in K) in
      let u = length_used_of d s i in
      omega arith

  pub holdable : Holdable d t
  unfolding new_table
  holdable =
      record {
        hashes =
            rw (map_hashes d s K K)
            (hashes_each (map (row_hash d s) K)
            (λ h m. let k = map_member (row_hash d s) K h m in rw (sym k.is) (hash_is_hash s (k.k * row_size_of d) b)));
        narrow = narrow;
      }

  pub result_values : whole_rows_of d (table_bytes_of d t) ≡ t
  result_values = table_read d t holdable

  pub result_good : table_checked_of d most (table_bytes_of d t) ≡ Ok (length t)
  result_good = table_accepted d t (new_good d s) holdable most kept_few

  pub result_bytes : Bytes (table_bytes_of d t)
  result_bytes = round_trip.bytes d t (new_good d s) holdable wide (let a = kept_few in omega arith)

-- ---- good tables

up_to : ℕ → List ℕ
up_to zero = []
up_to (suc k) = up_to k ++ k ∷ []

up_long : (k : ℕ) → length (up_to k) ≡ k
unfolding up_to
up_long zero = refl
up_long (suc k) = let a = length-append (up_to k) (k ∷ []) in let b = up_long k in let c : length (k ∷ []) ≡ 1 = refl in omega arith

up_at : (k p : ℕ) → p < k → get_or (up_to k) p 0 ≡ p
unfolding up_to
up_at zero p h = absurd (omega arith)
up_at (suc k) p h =
    split (ltb p k)
    (λ e. let l = ltb-true p k e in get_or-append (up_to k) (k ∷ []) 0 p (let z = up_long k in omega arith) ∙ up_at k p l)
    (λ e. let q : p ≡ k = (let z = ltb-false p k e in omega arith) in rw q (get_or_at (up_to k) k [] 0 k (up_long k)))

up_member : (k j : ℕ) → j < k → member j (up_to k) ≡ true
up_member k j h = ap (λ (x : ℕ). member x (up_to k)) (sym (up_at k j h)) ∙ index_member (up_to k) j (let z = up_long k in omega arith)

up_less : (k x : ℕ) → member x (up_to k) ≡ true → x < k
up_less k x m =
    let (i, b, e) = member_index x (up_to k) m in
    let l : i < k = let z = up_long k in omega arith in
    let q = up_at k i l in
    omega arith

up_ascends : (k : ℕ) → ascends (up_to k) ≡ true
unfolding up_to ascends
up_ascends zero = refl
up_ascends (suc k) = ascends_end (up_to k) k (up_ascends k) (up_less k)

up_index : (k p : ℕ) → p < k → index_in (up_to k) p ≡ p
up_index k p h =
    ap (index_in (up_to k)) (sym (up_at k p h)) ∙ index_of_entry (up_to k) (once_ascends (up_to k) (up_ascends k)) p (let z = up_long k in omega arith)

map_same : (f : ℕ → ℕ) (l : List ℕ) → ((x : ℕ) → member x l ≡ true → f x ≡ x) → map f l ≡ l
map_same f [] g = refl
map_same f (x ∷ l) g = ap₂ (λ (a : ℕ) (m : List ℕ). a ∷ m) (g x (member_here x l)) (map_same f l (λ y m. g y (member_there y x l m)))

map_end : {B : Type 0} (f : ℕ → B) (l : List ℕ) (x : ℕ) → map f (l ++ x ∷ []) ≡ map f l ++ f x ∷ []
map_end f [] x = refl
map_end f (y ∷ l) x = ap (λ m. f y ∷ m) (map_end f l x)

module _ (d : ℕ) (s : List ℕ) where
  rows_end : (i k : ℕ) → rows_of d s i (suc k) ≡ rows_of d s i k ++ row_of d s (i + k) ∷ []
  unfolding rows_of
  rows_end i zero = ap (λ (x : ℕ). row_of d s x ∷ []) (let z : i ≡ i + 0 = omega arith in z)
  rows_end i (suc k) =
      ap (λ (l : List Row). row_of d s i ∷ l)
      (rows_end (suc i) k ∙ ap (λ (x : ℕ). rows_of d s (suc i) k ++ row_of d s x ∷ []) (let z : suc i + k ≡ i + suc k = omega arith in z))

  up_hashes : (k : ℕ) → map (row_hash d s) (up_to k) ≡ rows (rows_of d s 0 k)
  unfolding up_to rows_of rows row_of
  up_hashes zero = refl
  up_hashes (suc k) =
      map_end (row_hash d s) (up_to k) k
      ∙ ap (λ (l : List ℕ). l ++ row_hash d s k ∷ []) (up_hashes k)
      ∙ sym (ap rows (rows_end 0 k) ∙ rows_append (rows_of d s 0 k) (row_of d s (0 + k) ∷ []) ∙ ap (λ (x : ℕ). rows (rows_of d s 0 k) ++ row_hash d s x ∷ []) (let z : 0 + k ≡ k = omega arith in z))

  -- a good row breaks no rule where all rows before it are kept
  good_unbroken : (k : ℕ) → row_good_of d s k ≡ true → broken_rule d s (up_to k) k ≡ none
  unfolding broken_rule numbers_good
  good_unbroken k g =
      let r = good_row_has d s k g in
      let below : every (λ j. ltb j k) (used_of d s k) ≡ true = every_one (λ j. ltb j k) (used_of d s k) (λ j m. lt-ltb j k (r.below j m)) in
      let new : member (row_hash d s k) (map (row_hash d s) (up_to k)) ≡ false = ap (member (row_hash d s k)) (up_hashes k) ∙ r.new in
      let has : every (λ j. member j (up_to k)) (used_of d s k) ≡ true = every_one (λ j. member j (up_to k)) (used_of d s k) (λ j m. up_member k j (r.below j m)) in
      rw (le-ltb d (count_of d s k) r.count, r.ordered, below, r.unused, new, has)

  all_kept : (k : ℕ) → ((i : ℕ) → i < k → row_good_of d s i ≡ true) → kept_of d s k ≡ up_to k
  unfolding kept_of up_to
  all_kept zero f = refl
  all_kept (suc k) f =
      let ih = all_kept k (λ i l. f i (omega arith)) in
      let u : broken_rule d s (kept_of d s k) k ≡ none = ap (λ (l : List ℕ). broken_rule d s l k) ih ∙ good_unbroken k (f k (omega arith)) in
      ap₂ (λ (l : List ℕ) (r : Option Rule). l ++ kept_if r k) ih u

  -- the rows as they were
  same_row : (m k : ℕ) → k < m → row_good_of d s k ≡ true → new_row d s (up_to m) k ≡ row_of d s k
  unfolding new_row row_of
  same_row m k l g =
      let r = good_row_has d s k g in
      ap (λ (x : List ℕ). record { hash = row_hash d s k; deps = x })
      (map_same (index_in (up_to m)) (used_of d s k) (λ j n. up_index m j (let z = r.below j n in omega arith)))

  same_rows : (m k : ℕ) → k ≤ m → ((i : ℕ) → i < k → row_good_of d s i ≡ true) → map (new_row d s (up_to m)) (up_to k) ≡ rows_of d s 0 k
  unfolding up_to rows_of
  same_rows m zero l f = refl
  same_rows m (suc k) l f =
      map_end (new_row d s (up_to m)) (up_to k) k
      ∙ ap₂ (λ (x : List Row) (y : Row). x ++ y ∷ []) (same_rows m k (omega arith) (λ i h. f i (omega arith))) (same_row m k (omega arith) (f k (omega arith)))
      ∙ sym (rows_end 0 k ∙ ap (λ (x : ℕ). rows_of d s 0 k ++ row_of d s x ∷ []) (let z : 0 + k ≡ k = omega arith in z))

no_entries : (l : List Entry) → length l ≡ 0 → l ≡ []
no_entries [] e = refl
no_entries (x ∷ l) e = absurd (let z : suc (length l) ≡ 0 = e in omega arith)

-- a good table comes out as it went in, with nothing reported
pub unhurt : (d most : ℕ) (s : List ℕ) (m : ℕ) → Bytes s → table_checked_of d most s ≡ Ok m
    → ((salvage d s).bytes ≡ s) × ((salvage d s).report ≡ []) × ((salvage d s).partial ≡ 0)
unfolding salvage new_table
unhurt d most s m b e =
    let x = good_table_of d most s m e in
    let n : length s / row_size_of d ≡ m = sym x.count in
    let kept : kept_of d s (length s / row_size_of d) ≡ up_to m = ap (kept_of d s) n ∙ all_kept d s m x.each in
    let table : map (new_row d s (kept_of d s (length s / row_size_of d))) (kept_of d s (length s / row_size_of d)) ≡ rows_of d s 0 m =
    ap (λ (l : List ℕ). map (new_row d s l) l) kept ∙ same_rows d s m m (omega arith) x.each
    in
    let told = all_told d s (length s / row_size_of d) in
    let many = ap length kept ∙ up_long m in (
      ap (table_bytes_of d) (table ∙ sym x.is) ∙ round_trip.written d most s m b e,
      no_entries (report_of d s (length s / row_size_of d)) (omega arith),
      ap (λ (l : ℕ). l % row_size_of d) x.whole ∙ mul-mod_left m (row_size_of d),
    )

-- salvaging the result reports nothing and changes nothing
pub again : (d most : ℕ) (s : List ℕ) → d < 65536 → most ≤ 65536 → length s ≤ most * row_size_of d → Bytes s
    → ((salvage d (salvage d s).bytes).bytes ≡ (salvage d s).bytes) × ((salvage d (salvage d s).bytes).report ≡ []) × ((salvage d (salvage d s).bytes).partial ≡ 0)
unfolding salvage
again d most s wide rowsFew short b =
    unhurt d most (table_bytes_of d (new_table d s)) (length (new_table d s)) (result_bytes d most s wide rowsFew short b) (result_good d most s wide rowsFew short b)

-- ---- what is told

one_member : (j n : ℕ) → member j (n ∷ []) ≡ eqb j n
unfolding member
one_member j n = or_none (eqb j n)
  where
    or_none : (b : Bool) → (b || false) ≡ b
    or_none true = refl
    or_none false = refl

told_end : (l : List Entry) (e : Entry) → rows_told (l ++ e ∷ []) ≡ rows_told l ++ e.row ∷ []
told_end [] e = refl
told_end (x ∷ l) e = ap (λ (m : List ℕ). x.row ∷ m) (told_end l e)

abbrev is_some : Option Rule → Bool
is_some none = false
is_some (some r) = true

module _ (d : ℕ) (s : List ℕ) where
  told_step : (n j : ℕ) → member j (rows_told (report_of d s (suc n))) ≡ (member j (rows_told (report_of d s n)) || (is_some (broken_rule d s (kept_of d s n) n) && eqb j n))
  unfolding report_of
  told_step n j = grown (broken_rule d s (kept_of d s n) n)
    where
      or_none : (b : Bool) → b ≡ (b || false)
      or_none true = refl
      or_none false = refl

      grown : (r : Option Rule) → member j (rows_told (report_of d s n ++ dropped_if r n)) ≡ (member j (rows_told (report_of d s n)) || (is_some r && eqb j n))
      grown none = ap (λ (l : List Entry). member j (rows_told l)) (append-nil (report_of d s n)) ∙ or_none (member j (rows_told (report_of d s n)))
      grown (some r) =
          ap (member j) (told_end (report_of d s n) (record { row = n; rule = r }))
          ∙ member_append j (rows_told (report_of d s n)) (n ∷ [])
          ∙ ap (λ (b : Bool). member j (rows_told (report_of d s n)) || b) (one_member j n)

  told_inside : (n j : ℕ) → member j (rows_told (report_of d s n)) ≡ true → j < n
  unfolding report_of
  told_inside zero j m = absurd (member_none j m)
  told_inside (suc n) j m =
      either (member j (rows_told (report_of d s n))) (is_some (broken_rule d s (kept_of d s n) n) && eqb j n) (sym (told_step n j) ∙ m)
      (λ k. let z = told_inside n j k in omega arith)
      (λ k. let z = eqb-true j n (both (is_some (broken_rule d s (kept_of d s n) n)) (eqb j n) k).1 in omega arith)

  told_ascends : (n : ℕ) → ascends (rows_told (report_of d s n)) ≡ true
  unfolding report_of ascends
  told_ascends zero = refl
  told_ascends (suc n) = grown (broken_rule d s (kept_of d s n) n) (told_ascends n)
    where
      grown : (r : Option Rule) → ascends (rows_told (report_of d s n)) ≡ true → ascends (rows_told (report_of d s n ++ dropped_if r n)) ≡ true
      grown none a = ap (λ (l : List Entry). ascends (rows_told l)) (append-nil (report_of d s n)) ∙ a
      grown (some r) a = ap ascends (told_end (report_of d s n) (record { row = n; rule = r })) ∙ ascends_end (rows_told (report_of d s n)) n a (told_inside n)

  -- of the first n rows each is kept or told, and none is both
  told_out : (n j : ℕ) → member j (rows_told (report_of d s n)) ≡ true → member j (kept_of d s n) ≡ false
  unfolding report_of kept_of
  told_out zero j m = absurd (member_none j m)
  told_out (suc n) j m = grown (broken_rule d s (kept_of d s n) n) refl (told_step n j) (told_out n j)
    where
      grown : (r : Option Rule) → broken_rule d s (kept_of d s n) n ≡ r
          → member j (rows_told (report_of d s (suc n))) ≡ (member j (rows_told (report_of d s n)) || (is_some (broken_rule d s (kept_of d s n) n) && eqb j n))
          → (member j (rows_told (report_of d s n)) ≡ true → member j (kept_of d s n) ≡ false)
          → member j (kept_of d s n ++ kept_if r n) ≡ false
      grown none q st ih =
          either (member j (rows_told (report_of d s n))) (is_some (broken_rule d s (kept_of d s n) n) && eqb j n) (sym st ∙ m)
          (λ k.
          member_append j (kept_of d s n) (n ∷ [])
          ∙ ap₂ (λ (a b : Bool). a || b) (ih k) (one_member j n ∙ ne_eqb j n (λ z. let y = told_inside n j k in omega arith)))
          (λ k. absurd (true_false (is_some (broken_rule d s (kept_of d s n) n)) (both _ (eqb j n) k).0 (ap is_some q)))
      grown (some r) q st ih =
          ap (member j) (append-nil (kept_of d s n))
          ∙ either (member j (rows_told (report_of d s n))) (is_some (broken_rule d s (kept_of d s n) n) && eqb j n) (sym st ∙ m) ih
          (λ k.
          split (member j (kept_of d s n))
          (λ x. absurd (let y = (is_kept d s n).inside j x in let z = eqb-true j n (both (is_some (broken_rule d s (kept_of d s n) n)) (eqb j n) k).1 in omega arith))
          (λ x. x))

  out_told : (n j : ℕ) → j < n → member j (kept_of d s n) ≡ false → member j (rows_told (report_of d s n)) ≡ true
  unfolding report_of kept_of
  out_told zero j h m = absurd (omega arith)
  out_told (suc n) j h m = grown (broken_rule d s (kept_of d s n) n) refl (told_step n j) (out_told n j)
    where
      grown : (r : Option Rule) → broken_rule d s (kept_of d s n) n ≡ r
          → member j (rows_told (report_of d s (suc n))) ≡ (member j (rows_told (report_of d s n)) || (is_some (broken_rule d s (kept_of d s n) n) && eqb j n))
          → (j < n → member j (kept_of d s n) ≡ false → member j (rows_told (report_of d s n)) ≡ true)
          → member j (rows_told (report_of d s (suc n))) ≡ true
      grown r q st ih =
          split (ltb j n)
          (λ e. st ∙ or_left _ (is_some (broken_rule d s (kept_of d s n) n) && eqb j n) (ih (ltb-true j n e) (before r q)))
          (λ e.
          let same : j ≡ n = (let z = ltb-false j n e in omega arith) in
          st ∙ or_right (member j (rows_told (report_of d s n))) _ (and_true _ _ (ap is_some q ∙ dropped r q same) (eq-eqb j n same)))
        where
          before : (r : Option Rule) → broken_rule d s (kept_of d s n) n ≡ r → member j (kept_of d s n) ≡ false
          before r q =
              split (member j (kept_of d s n))
              (λ x. absurd (true_false (member j (kept_of d s n ++ kept_if (broken_rule d s (kept_of d s n) n) n)) (member_append j (kept_of d s n) _ ∙ or_left _ (member j (kept_if (broken_rule d s (kept_of d s n) n) n)) x) m))
              (λ x. x)

          dropped : (r : Option Rule) → broken_rule d s (kept_of d s n) n ≡ r → j ≡ n → is_some r ≡ true
          dropped (some x) q e = refl
          dropped none q e =
              absurd (true_false (member j (kept_of d s n ++ kept_if (broken_rule d s (kept_of d s n) n) n))
              (member_append j (kept_of d s n) _
              ∙ or_right (member j (kept_of d s n)) _ (ap (λ (x : Option Rule). member j (kept_if x n)) q ∙ one_member j n ∙ eq-eqb j n e)) m)

  told_is : (n j : ℕ) → member j (rows_told (report_of d s n)) ≡ (ltb j n && not (member j (kept_of d s n)))
  told_is n j =
      same_truth (member j (rows_told (report_of d s n))) (ltb j n && not (member j (kept_of d s n)))
      (λ m. and_true (ltb j n) (not (member j (kept_of d s n))) (lt-ltb j n (told_inside n j m)) (ap not (told_out n j m)))
      (λ m. let x = both (ltb j n) (not (member j (kept_of d s n))) m in out_told n j (ltb-true j n x.0) (not-true (member j (kept_of d s n)) x.1))

-- ---- the rule that is told

abbrev any_entry : Entry
any_entry = record { row = 0; rule = Rule.count }

record FirstRule (d : ℕ) (s : List ℕ) (n : ℕ) (e : Entry) : Type 0 where
  inside : e.row < n
  broke : broken_rule d s (kept_of d s e.row) e.row ≡ some e.rule

module _ (d : ℕ) (s : List ℕ) where
  report_rules : (n p : ℕ) → p < length (report_of d s n) → FirstRule d s n (get_or (report_of d s n) p any_entry)
  unfolding report_of
  report_rules zero p h = absurd (let z : p < 0 = h in omega arith)
  report_rules (suc n) p h = grown (broken_rule d s (kept_of d s n) n) refl h (report_rules n p)
    where
      longer : {e : Entry} → FirstRule d s n e → FirstRule d s (suc n) e
      longer f = record { inside = let z = f.inside in omega arith; broke = f.broke }

      grown : (r : Option Rule) → broken_rule d s (kept_of d s n) n ≡ r → p < length (report_of d s n ++ dropped_if r n)
          → (p < length (report_of d s n) → FirstRule d s n (get_or (report_of d s n) p any_entry))
          → FirstRule d s (suc n) (get_or (report_of d s n ++ dropped_if r n) p any_entry)
      grown none q l ih = rw (append-nil (report_of d s n)) (longer (ih (rw (append-nil (report_of d s n)) at l)))
      grown (some r) q l ih =
          let last : Entry = record { row = n; rule = r } in
          let long = length-append (report_of d s n) (last ∷ []) in
          let one : length (last ∷ []) ≡ 1 = refl in
          split (ltb p (length (report_of d s n)))
          (λ e. rw (get_or-append (report_of d s n) (last ∷ []) any_entry p (ltb-true _ _ e)) (longer (ih (ltb-true _ _ e))))
          (λ e.
          let at : length (report_of d s n) ≡ p = (let z = ltb-false p (length (report_of d s n)) e in omega arith) in
          rw (get_or_at (report_of d s n) last [] any_entry p at) (record { inside = omega arith; broke = q }))

entry_same : (l : List Entry) (p : ℕ) (e x : Entry) → p < length l → get_or l p e ≡ get_or l p x
entry_same [] p e x h = absurd (let z : p < 0 = h in omega arith)
entry_same (y ∷ l) zero e x h = refl
entry_same (y ∷ l) (suc p) e x h = entry_same l p e x (let z : suc p < suc (length l) = h in omega arith)

report_is : (d : ℕ) (s : List ℕ) (n : ℕ) → IsReport d s n (kept_of d s n) (report_of d s n)
report_is d s n =
    record {
      ascending = told_ascends d s n;
      dropped = told_is d s n;
      first =
          λ p e h q.
          let is : get_or (report_of d s n) p any_entry ≡ e = entry_same (report_of d s n) p any_entry e h ∙ q in
          let f : FirstRule d s n e = subst (FirstRule d s n) is (report_rules d s n p h) in
          ap (λ (l : List ℕ). broken_rule d s l e.row) (kept_first d s e.row (n - e.row) n (let z = f.inside in omega arith)) ∙ f.broke;
      all = all_told d s n;
    }

-- ---- the same changes

map_map : (f g : ℕ → ℕ) (l : List ℕ) (h : ℕ → ℕ) → ((x : ℕ) → member x l ≡ true → f (g x) ≡ h x) → map f (map g l) ≡ map h l
map_map f g [] h e = refl
map_map f g (x ∷ l) h e = ap₂ (λ (a : ℕ) (m : List ℕ). a ∷ m) (e x (member_here x l)) (map_map f g l h (λ y m. e y (member_there y x l m)))

map_get_d : (f : ℕ → ℕ) (l : List ℕ) (p : ℕ) → p < length l → get_or (map f l) p 0 ≡ f (get_or l p 0)
map_get_d f [] p h = absurd (let z : p < 0 = h in omega arith)
map_get_d f (x ∷ l) zero h = refl
map_get_d f (x ∷ l) (suc p) h = map_get_d f l p (let z : suc p < suc (length l) = h in omega arith)

pub same_changes : (d : ℕ) (s : List ℕ) (p : ℕ) → p < length (kept_of d s (length s / row_size_of d))
    → map (hash_of (new_table d s)) (deps_of (new_table d s) p) ≡ map (row_hash d s) (used_of d s (get_or (kept_of d s (length s / row_size_of d)) p 0))
unfolding hash_of new_table
same_changes d s p h =
    let K : List ℕ = kept_of d s (length s / row_size_of d) in
    let i : ℕ = get_or K p 0 in
    ap (map (hash_of (new_table d s))) (new_deps d s p h)
    ∙ map_map (hash_of (new_table d s)) (index_in K) (used_of d s i) (row_hash d s)
    (λ u m.
    let there = ((kept_used d s i (index_member K p h)).1 u m).1 in
    let at = index_of_member K u there in
    ap (λ (l : List ℕ). get_or l (index_in K u) 0) (map_hashes d s K K) ∙ map_get_d (row_hash d s) K (index_in K u) at ∙ ap (row_hash d s) (entry_at_index K u at))

-- kept rows stay in order
pub same_order : (d : ℕ) (s : List ℕ) (p : ℕ) → p < length (kept_of d s (length s / row_size_of d))
    → hash_of (new_table d s) p ≡ row_hash d s (get_or (kept_of d s (length s / row_size_of d)) p 0)
unfolding hash_of new_table
same_order d s p h =
    let K : List ℕ = kept_of d s (length s / row_size_of d) in
    ap (λ (l : List ℕ). get_or l p 0) (map_hashes d s K K) ∙ map_get_d (row_hash d s) K p h

-- ---- nothing told is a good table

module _ (d : ℕ) (s : List ℕ) where
  unbroken : (n k : ℕ) → k < n → report_of d s n ≡ [] → broken_rule d s (kept_of d s k) k ≡ none
  unfolding report_of
  unbroken zero k h e = absurd (omega arith)
  unbroken (suc n) k h e = grown (broken_rule d s (kept_of d s n) n) refl e (unbroken n k)
    where
      long : (l : List Entry) → l ≡ [] → length l ≡ 0
      long l q = ap length q

      grown : (r : Option Rule) → broken_rule d s (kept_of d s n) n ≡ r → report_of d s n ++ dropped_if r n ≡ []
          → (k < n → report_of d s n ≡ [] → broken_rule d s (kept_of d s k) k ≡ none)
          → broken_rule d s (kept_of d s k) k ≡ none
      grown none q z ih =
          split (ltb k n)
          (λ x. ih (ltb-true k n x) (sym (append-nil (report_of d s n)) ∙ z))
          (λ x. let same : k ≡ n = (let y = ltb-false k n x in omega arith) in rw same q)
      grown (some r) q z ih =
          absurd (let a = long _ z in let b = length-append (report_of d s n) (record { row = n; rule = r } ∷ []) in
          let c : length {A = Entry} (record { row = n; rule = r } ∷ []) ≡ 1 = refl in omega arith)

  unbroken_kept : (k : ℕ) → ((i : ℕ) → i < k → broken_rule d s (kept_of d s i) i ≡ none) → kept_of d s k ≡ up_to k
  unfolding kept_of up_to
  unbroken_kept zero f = refl
  unbroken_kept (suc k) f = ap₂ (λ (l : List ℕ) (r : Option Rule). l ++ kept_if r k) (unbroken_kept k (λ i l. f i (omega arith))) (f k (omega arith))

  -- a row that breaks no rule beside all rows before it is good
  row_is_good : (k : ℕ) → broken_rule d s (up_to k) k ≡ none → row_good_of d s k ≡ true
  unfolding row_good_of
  row_is_good k e =
      let x = sym (broken_tests d s (up_to k) k) ∙ ap is_none e in
      let a = both (sound d s k) (new d s (up_to k) k && has d s (up_to k) k) x in
      let n = (both (new d s (up_to k) k) (has d s (up_to k) k) a.1).0 in
      and_true ((leb (count_of d s k) d && numbers_good k (used_of d s k)) && zeros (unused_of d s k)) _ a.0 (ap (λ (l : List ℕ). not (member (row_hash d s k) l)) (sym (up_hashes d s k)) ∙ n)

nothing_told : (d most : ℕ) (s : List ℕ) → length s ≤ most * row_size_of d → (salvage d s).report ≡ [] → (salvage d s).partial ≡ 0
    → table_checked_of d most s ≡ Ok (length s / row_size_of d)
unfolding salvage
nothing_told d most s short e p =
    good_accepted_of d most s p short
    (λ i l.
    let free : (k : ℕ) → k < length s / row_size_of d → broken_rule d s (kept_of d s k) k ≡ none = λ k h. unbroken d s (length s / row_size_of d) k h e in
    row_is_good d s i (ap (λ (x : List ℕ). broken_rule d s x i) (sym (unbroken_kept d s i (λ k h. free k (omega arith)))) ∙ free i l))

-- ---- all of it

pub m109 : M109
unfolding salvage
m109 d most s wide rowsFew short b =
    record {
      kept = is_kept d s (length s / row_size_of d);
      one = λ K is. kept_one d s (length s / row_size_of d) K is;
      told = report_is d s (length s / row_size_of d);
      table = new_good d s;
      values = result_values d most s wide rowsFew short b;
      good = result_good d most s wide rowsFew short b;
      bytes = result_bytes d most s wide rowsFew short b;
      order = same_order d s;
      same = same_changes d s;
      unhurt = λ n e. unhurt d most s n b e;
      again = let x = again d most s wide rowsFew short b in (x.1, x.2, x.0);
      silent = nothing_told d most s short;
    }
