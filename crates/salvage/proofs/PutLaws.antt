-- Rows and entries put: numbers one by one, a row by its three parts, rows and entries one after the other. Each law is one turn or one end of a loop.
use Prim.Native.Nat.{ℕ, zero, suc, ◌+◌, ◌-◌, ◌*◌, ◌/◌, ◌%◌, ◌≤◌, ◌<◌}
use mathlib.Core.Bool.{Bool, true, false, cond, not, ◌&&◌}
use mathlib.Core.List.{List, [], ◌∷◌, ◌++◌, map, append-nil, append_assoc}
use mathlib.Core.Option.{Option, none, some}
use mathlib.Core.Path.{◌≡◌, refl, sym, ap, ap₂, ◌∙◌}
use native.Mathlib.Nat.{mul-le-mul_right, le_trans}
use native.Mathlib.Numerals.{add-one}
use native.Mathlib.Omega.{arith}
use borrow.Author.Tests.{eq-eqb, ne_eqb, eqb-true, eqb-false, leb-true, lt-ltb, le-ltb}
use lib.Dec.{ltb, leb, eqb}
use lib.ListN.{length, get_or, set, take, drop, replicate, length-append, length-map}
use lib.Seq.{sets, slice}
use Rattle.hash_order.proofs.KeepLaws.{keep_most, keep_none, every_member}
use Rattle.hash_order.proofs.OrderLaws.{member_here, member_there, member_behind, ascends_tail, ascends_first}
use Rattle.hash_order.specs.Order.{member, keep, every, ascends}
use Rattle.rules.proofs.Cases.{split, both}
use Rattle.rules.proofs.Hash.{take_drop, length_slice_of, hash_bytes_lem, slice_append}
use Rattle.rules.proofs.Outputs.{sets_append}
use Rattle.rules.specs.Hash.{Bytes, hash_bytes, hash_at}
use Rattle.rules.specs.LittleEndian.{u16_at}
use Rattle.rules.specs.Sizes.{sizes}
use Rattle.rules.specs.Zeros.{zeros}
use Rattle.salvage_rules.proofs.DecideLaws.{byte_none, kept_byte, count_next}
use Rattle.salvage_rules.proofs.KeptLaws.{kept_first, kept_ascends, kept_inside, is_kept}
use Rattle.salvage_rules.specs.Internal.Decided.{rule_byte, rule_of}
use Rattle.salvage_rules.specs.KeptRows.{Rule, rule_number, row_hash, broken_rule, kept_if, kept_of}
use Rattle.table.proofs.TableLaws.{number_place_of, length_used_of}
use Rattle.table.proofs.TwoBytes.{length_twos_bytes, twos_at_bytes}
use Rattle.table.proofs.WrittenLaws.{row_long_lem}
use Rattle.table.specs.Table.{Row, index_in}
use Rattle.table.specs.TableBytes.{u16s_at, u16s_bytes, row_size_of, count_of, used_of, unused_of, numbers_good}
use Rattle.table.specs.TableWritten.{row_bytes_of, table_bytes_of}
use Rattle.salvage.specs.Internal.Putting.{moved_row, row_if, RowsDecided, words_if, told_words, ToldPut}
use Rattle.salvage.specs.Salvaged.{Entry, dropped_if, report_of, new_row, report_words}

-- ---- numbers

number_next : (d i j : ℕ) → number_place_of d i j + 2 ≡ number_place_of d i (j + 1)
number_next d i j = omega arith

module _ (d : ℕ) (s : List ℕ) (i : ℕ) (places : List ℕ) (at count : ℕ) where
  -- the buffer with the numbers that are left put
  pub numbers_left : List ℕ → ℕ → List ℕ
  numbers_left out j = sets out (at + 2 * j) (u16s_bytes (map (λ k. get_or places k 0) (u16s_at s (number_place_of d i j) (count - j))))

  pub numbers_start : (out : List ℕ) → count ≡ count_of d s i → numbers_left out 0 ≡ sets out at (u16s_bytes (map (λ k. get_or places k 0) (used_of d s i)))
  unfolding numbers_left used_of
  numbers_start out e =
      let all : count - 0 ≡ count_of d s i = omega arith in
      let p : number_place_of d i 0 ≡ i * row_size_of d + sizes.hash + 2 = omega arith in
      let q : at + 2 * 0 ≡ at = omega arith in
      rw (all, p, q)

  pub numbers_more : (out : List ℕ) (j k place : ℕ) → j < count → k ≡ u16_at s (number_place_of d i j) → place ≡ get_or places k 0
      → numbers_left (set (set out (at + 2 * j) (place % 256)) (at + 2 * j + 1) (place / 256)) (j + 1) ≡ numbers_left out j
  unfolding numbers_left u16s_at u16s_bytes
  numbers_more out j k place h read is =
      let left : count - j ≡ suc (count - (j + 1)) = omega arith in
      let next : at + 2 * (j + 1) ≡ suc (suc (at + 2 * j)) = omega arith in
      let one : at + 2 * j + 1 ≡ suc (at + 2 * j) = omega arith in
      rw (left, next, one, ← read, ← is, number_next d i j)

  pub numbers_all : (out : List ℕ) (j : ℕ) → count ≤ j → out ≡ numbers_left out j
  unfolding numbers_left u16s_at u16s_bytes
  numbers_all out j h =
      let none : count - j ≡ 0 = omega arith in
      rw none

-- ---- a row

-- the hash and the count of a row are the bytes from its place on
row_head : (s : List ℕ) (at : ℕ) → Bytes s → at + sizes.hash + 2 ≤ length s
    → slice at (at + sizes.hash + 2) s ≡ hash_bytes (hash_at s at) ++ u16s_bytes (u16_at s (at + sizes.hash) ∷ [])
unfolding u16s_at
row_head s at b l =
    let head : hash_bytes (hash_at s at) ≡ slice at (at + 32) s = hash_bytes_lem s at b (omega arith) in
    let count : u16s_bytes (u16_at s (at + 32) ∷ []) ≡ slice (at + 32) (at + 32 + 2) s = twos_at_bytes s (at + 32) 1 b (omega arith) in
    sym (ap₂ (λ (x y : List ℕ). x ++ y) head count ∙ slice_append 32 at (at + 32 + 2) s (omega arith))

moved_bytes : (d : ℕ) (s places : List ℕ) (i : ℕ)
    → row_bytes_of d (moved_row d s places i)
    ≡ ((hash_bytes (row_hash d s i) ++ u16s_bytes (count_of d s i ∷ [])) ++ u16s_bytes (map (λ k. get_or places k 0) (used_of d s i))) ++ replicate (2 * (d - count_of d s i)) 0
unfolding row_bytes_of moved_row u16s_bytes
moved_bytes d s places i =
    let l : List ℕ = map (λ k. get_or places k 0) (used_of d s i) in
    let long : length (map (λ k. get_or places k 0) (used_of d s i)) ≡ count_of d s i = length-map (used_of d s i) (λ k. get_or places k 0) ∙ length_used_of d s i in
    let H : List ℕ = hash_bytes (row_hash d s i) in
    let C : List ℕ = count_of d s i % 256 ∷ count_of d s i / 256 ∷ [] in
    let B : List ℕ = u16s_bytes l in
    let Z : List ℕ = replicate (2 * (d - count_of d s i)) 0 in
    let whole : H ++ (C ++ (B ++ Z)) ≡ ((H ++ C) ++ B) ++ Z = sym (append_assoc (H ++ C) B Z ∙ append_assoc H C (B ++ Z)) in
    rw long whole

pub row_put : (d : ℕ) (s places out head numbers last : List ℕ) (i count start at : ℕ) → Bytes s → (i + 1) * row_size_of d ≤ length s → count ≡ count_of d s i
    → start ≡ i * row_size_of d
    → at ≡ get_or places i 0 * row_size_of d
    → head ≡ sets out at (take (start + sizes.hash + 2 - start) (drop start s))
    → numbers ≡ sets head (at + sizes.hash + 2) (u16s_bytes (map (λ k. get_or places k 0) (used_of d s i)))
    → last ≡ sets numbers (at + sizes.hash + 2 + 2 * count) (replicate (2 * (d - count)) 0)
    → last ≡ sets out (get_or places i 0 * row_size_of d) (row_bytes_of d (moved_row d s places i))
unfolding count_of
row_put d s places out head numbers last i count start at b l e p q first second third =
    let H : List ℕ = hash_bytes (row_hash d s i) ++ u16s_bytes (count_of d s i ∷ []) in
    let B : List ℕ = u16s_bytes (map (λ k. get_or places k 0) (used_of d s i)) in
    let Z : List ℕ = replicate (2 * (d - count_of d s i)) 0 in
    let part : take (start + sizes.hash + 2 - start) (drop start s) ≡ hash_bytes (row_hash d s i) ++ u16s_bytes (count_of d s i ∷ []) =
    rw (let z : start + sizes.hash + 2 - start ≡ 34 = omega arith in z) (take_drop 34 start s)
    ∙ ap (λ (n : ℕ). slice n (n + 34) s) p
    ∙ ap (λ (n : ℕ). slice (i * row_size_of d) n s) (let z : i * row_size_of d + 34 ≡ i * row_size_of d + sizes.hash + 2 = omega arith in z)
    ∙ row_head s (i * row_size_of d) b (omega arith)
    in
    let long : length (hash_bytes (row_hash d s i) ++ u16s_bytes (count_of d s i ∷ [])) ≡ 34 =
    ap length (sym (row_head s (i * row_size_of d) b (omega arith)))
    ∙ ap (λ (n : ℕ). length (slice (i * row_size_of d) n s)) (let z : i * row_size_of d + sizes.hash + 2 ≡ i * row_size_of d + 34 = omega arith in z)
    ∙ length_slice_of 34 s (i * row_size_of d) (omega arith)
    in
    let many : length (u16s_bytes (map (λ k. get_or places k 0) (used_of d s i))) ≡ 2 * count_of d s i =
    length_twos_bytes (map (λ k. get_or places k 0) (used_of d s i))
    ∙ ap (λ (n : ℕ). 2 * n) (length-map (used_of d s i) (λ k. get_or places k 0) ∙ length_used_of d s i)
    in
    let both_long = length-append (hash_bytes (row_hash d s i) ++ u16s_bytes (count_of d s i ∷ [])) (u16s_bytes (map (λ k. get_or places k 0) (used_of d s i))) in
    let place : at + sizes.hash + 2 ≡ at + length (hash_bytes (row_hash d s i) ++ u16s_bytes (count_of d s i ∷ [])) = omega arith in
    let place-2 : at + sizes.hash + 2 + 2 * count
    ≡ at + length ((hash_bytes (row_hash d s i) ++ u16s_bytes (count_of d s i ∷ [])) ++ u16s_bytes (map (λ k. get_or places k 0) (used_of d s i))) =
    omega arith
    in
    let one : head ≡ sets out at H = first ∙ ap (sets out at) part in
    let two : numbers ≡ sets out at (H ++ B) =
    second ∙ ap₂ (λ (x : List ℕ) (n : ℕ). sets x n B) one place ∙ sets_append H B out at
    in
    let three : last ≡ sets out at ((H ++ B) ++ Z) =
    third
    ∙ ap₂ (λ (x : List ℕ) (n : ℕ). sets x n (replicate (2 * (d - count)) 0)) two place-2
    ∙ ap (λ (n : ℕ). sets (sets out at (H ++ B)) (at + length (H ++ B)) (replicate (2 * (d - n)) 0)) e
    ∙ sets_append (H ++ B) Z out at
    in
    three ∙ ap₂ (λ (n : ℕ) (x : List ℕ). sets out n x) q (sym (moved_bytes d s places i))

-- ---- where a kept row stands

never : ◌≡◌ {A = Bool} false true → ⊥
never z = let y : ◌≡◌ {A = ℕ} 0 1 = ap (λ (b : Bool). cond b 1 0) z in omega arith

place_keep : (l : List ℕ) (u : ℕ) → ascends l ≡ true → member u l ≡ true → index_in l u ≡ length (keep (λ k. ltb k u) l)
unfolding index_in keep
place_keep [] u a m = refl
place_keep (x ∷ l) u a m =
    split (eqb x u)
    (λ e.
    let same = eqb-true x u e in
    let none : keep (λ k. ltb k u) l ≡ [] = keep_none (λ k. ltb k u) l (λ k n. le-ltb k u (let z = ascends_first x l a k n in omega arith)) in
    rw (e, le-ltb x u (omega arith), none))
    (λ e.
    let other : x ≡ u → ⊥ = eqb-false x u e in
    let there : member u l ≡ true = member_behind u x l m (λ q. other (sym q)) in
    rw (e, lt-ltb x u (ascends_first x l a u there)) (ap suc (place_keep l u (ascends_tail x l a) there)))

module _ (d : ℕ) (s : List ℕ) (n : ℕ) where
  pub kept_place : (u : ℕ) → member u (kept_of d s n) ≡ true → index_in (kept_of d s n) u ≡ length (kept_of d s u)
  kept_place u m =
      let h = kept_inside d s n u m in
      place_keep (kept_of d s n) u (kept_ascends d s n) m ∙ ap length (kept_first d s u (n - u) n (omega arith))

  kept_grows : (i : ℕ) → i ≤ n → length (kept_of d s i) ≤ length (kept_of d s n)
  kept_grows i h =
      let a = keep_most (λ k. ltb k i) (kept_of d s n) in
      let b = ap length (kept_first d s i (n - i) n (omega arith)) in
      omega arith

  -- a kept row by its tests
  pub kept_sound : (i : ℕ) → member i (kept_of d s n) ≡ true
      → (count_of d s i ≤ d) × (numbers_good i (used_of d s i) ≡ true) × ((u : ℕ) → member u (used_of d s i) ≡ true → member u (kept_of d s n) ≡ true)
  kept_sound i m =
      let is = is_kept d s n in
      let tests = sym (is.exactly i (is.inside i m)) ∙ m in
      let a = both ((leb (count_of d s i) d && numbers_good i (used_of d s i)) && zeros (unused_of d s i))
      (not (member (row_hash d s i) (map (row_hash d s) (keep (λ k. ltb k i) (kept_of d s n)))) && every (λ k. member k (kept_of d s n)) (used_of d s i)) tests
      in
      let b = both (leb (count_of d s i) d) (numbers_good i (used_of d s i)) (both (leb (count_of d s i) d && numbers_good i (used_of d s i)) (zeros (unused_of d s i)) a.0).0 in
      let c = both (not (member (row_hash d s i) (map (row_hash d s) (keep (λ k. ltb k i) (kept_of d s n))))) (every (λ k. member k (kept_of d s n)) (used_of d s i)) a.1 in
      (leb-true (count_of d s i) d b.0, b.1, every_member (λ k. member k (kept_of d s n)) (used_of d s i) c.1)

  if_none : (i : ℕ) → rule_of d s i ≡ 0 → kept_if (broken_rule d s (kept_of d s i) i) i ≡ i ∷ []
  if_none i e = grown (broken_rule d s (kept_of d s i) i) e
    where
      grown : (r : Option Rule) → rule_byte r ≡ 0 → kept_if r i ≡ i ∷ []
      grown none e = refl
      grown (some r) e = absurd (let z : eqb (rule_byte (some r)) 0 ≡ true = eq-eqb (rule_byte (some r)) 0 e in never (sym (byte_none (some r)) ∙ z))

  if_some : (i : ℕ) → (rule_of d s i ≡ 0 → ⊥) → kept_if (broken_rule d s (kept_of d s i) i) i ≡ []
  if_some i e = grown (broken_rule d s (kept_of d s i) i) e
    where
      grown : (r : Option Rule) → (rule_byte r ≡ 0 → ⊥) → kept_if r i ≡ []
      grown none e = absurd (e (eqb-true (rule_byte none) 0 (byte_none none)))
      grown (some r) e = refl

  module _ (rules places : List ℕ) (kept : ℕ) (r : RowsDecided d s n rules places kept) where
    pub mark_kept : (i : ℕ) → i < n → get_or rules i 0 ≡ 0 → member i (kept_of d s n) ≡ true
    mark_kept i h e = kept_byte d s i n h ∙ eq-eqb (rule_of d s i) 0 (sym (r.decided.rule i h) ∙ e)

    -- adjusting by what stands beside each row is adjusting to where it stands among the kept ones
    moved_new : (i : ℕ) → i < n → member i (kept_of d s n) ≡ true → moved_row d s places i ≡ new_row d s (kept_of d s n) i
    unfolding moved_row new_row
    moved_new i h m =
        ap (λ (l : List ℕ). record { hash = row_hash d s i; deps = l })
        (map_same (used_of d s i)
        (λ u k.
        let there = (kept_sound i m).2 u k in
        r.decided.place u (kept_inside d s n u there) ∙ sym (kept_place u there)))
      where
        map_same : (l : List ℕ) → ((u : ℕ) → member u l ≡ true → get_or places u 0 ≡ index_in (kept_of d s n) u)
            → map (λ k. get_or places k 0) l ≡ map (index_in (kept_of d s n)) l
        map_same [] f = refl
        map_same (x ∷ l) f = ap₂ (λ (a : ℕ) (m : List ℕ). a ∷ m) (f x (member_here x l)) (map_same l (λ u k. f u (member_there u x l k)))

    -- room for a kept row
    pub row_room : (i long : ℕ) → i < n → get_or rules i 0 ≡ 0 → kept * row_size_of d ≤ long → (get_or places i 0 + 1) * row_size_of d ≤ long
    row_room i long h e room =
        let at = r.decided.place i h in
        let rule = sym (r.decided.rule i h) ∙ e in
        let next : length (kept_of d s i) + 1 ≡ length (kept_of d s (i + 1)) =
        count_next d s i (length (kept_of d s i)) (length (kept_of d s i) + 1) 0 refl (sym rule) refl
        in
        let most = kept_grows (i + 1) (omega arith) in
        let few : get_or places i 0 + 1 ≤ kept = omega (arith, r.decided.count) in
        le_trans (mul-le-mul_right (row_size_of d) few) room

    pub row_left : (out : List ℕ) (i : ℕ) → i < n → (get_or rules i 0 ≡ 0 → ⊥) → out ≡ sets out (length (kept_of d s i) * row_size_of d) (table_bytes_of d (row_if d s n i))
    unfolding table_bytes_of
    row_left out i h e = rw (if_some i (λ z. e (r.decided.rule i h ∙ z)))

    pub row_taken : (out next : List ℕ) (i : ℕ) → i < n → get_or rules i 0 ≡ 0
        → next ≡ sets out (get_or places i 0 * row_size_of d) (row_bytes_of d (moved_row d s places i))
        → next ≡ sets out (length (kept_of d s i) * row_size_of d) (table_bytes_of d (row_if d s n i))
    unfolding table_bytes_of
    row_taken out next i h e put =
        put
        ∙ ap₂ (λ (k : ℕ) (x : Row). sets out (k * row_size_of d) (row_bytes_of d x)) (r.decided.place i h) (moved_new i h (mark_kept i h e))
        ∙ rw (if_none i (sym (r.decided.rule i h) ∙ e)) (ap (sets out (length (kept_of d s i) * row_size_of d)) (sym (append-nil (row_bytes_of d (new_row d s (kept_of d s n) i)))))

  -- ---- rows

  abbrev N : ℕ → Row
  N i = new_row d s (kept_of d s n) i

  table_append : (a b : List Row) → table_bytes_of d (a ++ b) ≡ table_bytes_of d a ++ table_bytes_of d b
  unfolding table_bytes_of
  table_append [] b = refl
  table_append (x ∷ a) b = ap (λ (l : List ℕ). row_bytes_of d x ++ l) (table_append a b) ∙ sym (append_assoc (row_bytes_of d x) (table_bytes_of d a) (table_bytes_of d b))

  map_append : (a b : List ℕ) → map N (a ++ b) ≡ map N a ++ map N b
  map_append [] b = refl
  map_append (x ∷ a) b = ap (λ (l : List Row). N x ∷ l) (map_append a b)

  rows_size : (l : List ℕ) → ((k : ℕ) → member k l ≡ true → count_of d s k ≤ d) → length (table_bytes_of d (map N l)) ≡ length l * row_size_of d
  unfolding table_bytes_of new_row
  rows_size [] f = let z : 0 ≡ 0 * row_size_of d = omega arith in z
  rows_size (x ∷ l) f =
      let many : length (map (index_in (kept_of d s n)) (used_of d s x)) ≡ count_of d s x = length-map (used_of d s x) (index_in (kept_of d s n)) ∙ length_used_of d s x in
      let fits = f x (member_here x l) in
      let row : length (row_bytes_of d (new_row d s (kept_of d s n) x)) ≡ row_size_of d = row_long_lem d (new_row d s (kept_of d s n) x) (omega arith) in
      let rest = rows_size l (λ k m. f k (member_there k x l m)) in
      let one : length (x ∷ l) ≡ suc (length l) = refl in
      let both_long : length (row_bytes_of d (new_row d s (kept_of d s n) x)) + length (table_bytes_of d (map N l)) ≡ suc (length l) * row_size_of d = omega arith in
      length-append (row_bytes_of d (new_row d s (kept_of d s n) x)) (table_bytes_of d (map N l)) ∙ both_long

  kept_of_lem : (i : ℕ) → i ≤ n → (k : ℕ) → member k (kept_of d s i) ≡ true → count_of d s k ≤ d
  kept_of_lem i h k m =
      let low = kept_inside d s i k m in
      (kept_sound k (kept_byte d s k n (omega arith) ∙ sym (kept_byte d s k i low) ∙ m)).0

  pub rows_start : (out : List ℕ) → out ≡ sets out 0 (table_bytes_of d (map N (kept_of d s 0)))
  unfolding kept_of table_bytes_of
  rows_start out = refl

  pub rows_more : (out₀ out next : List ℕ) (i : ℕ) → i < n → out ≡ sets out₀ 0 (table_bytes_of d (map N (kept_of d s i)))
      → next ≡ sets out (length (kept_of d s i) * row_size_of d) (table_bytes_of d (row_if d s n i))
      → next ≡ sets out₀ 0 (table_bytes_of d (map N (kept_of d s (i + 1))))
  unfolding kept_of
  rows_more out₀ out next i h e put =
      let A : List ℕ = table_bytes_of d (map N (kept_of d s i)) in
      let B : List ℕ = table_bytes_of d (row_if d s n i) in
      let long = rows_size (kept_of d s i) (kept_of_lem i (omega arith)) in
      let place : length (kept_of d s i) * row_size_of d ≡ 0 + length (table_bytes_of d (map N (kept_of d s i))) = omega arith in
      rw (add-one i)
      (put
      ∙ ap₂ (λ (x : List ℕ) (k : ℕ). sets x k B) e place
      ∙ sets_append A B out₀ 0
      ∙ ap (sets out₀ 0) (sym (ap (table_bytes_of d) (map_append (kept_of d s i) (kept_if (broken_rule d s (kept_of d s i) i) i)) ∙ table_append (map N (kept_of d s i)) (row_if d s n i))))

  pub rows_long : length (table_bytes_of d (map N (kept_of d s n))) ≡ length (kept_of d s n) * row_size_of d
  rows_long = rows_size (kept_of d s n) (kept_of_lem n (omega arith))

-- ---- entries

pub entry_none : (report : List ℕ) (at i rule : ℕ) → rule ≡ 0 → ToldPut report report at i rule at
unfolding words_if
entry_none report at i rule e = record { place = rw (eq-eqb rule 0 e) (let z : at ≡ at + 0 = omega arith in z); content = rw (eq-eqb rule 0 e) }

module _ (at i rule : ℕ) (e : rule ≡ 0 → ⊥) where
  two : length (words_if i rule) ≡ 2
  unfolding words_if
  two = rw (ne_eqb rule 0 e)

  pub entry_room : (long : ℕ) → at + length (words_if i rule) ≤ long → at + 2 ≤ long
  entry_room long h = omega (arith, two)

  pub entry_told : (report : List ℕ) → ToldPut report (set (set report at i) (at + 1) rule) at i rule (at + 2)
  unfolding words_if
  entry_told report =
      record {
        place = let z = two in omega arith;
        content = rw (ne_eqb rule 0 e, add-one at);
      }

module _ (rules : List ℕ) where
  words_grow : (i j : ℕ) → length (told_words rules i) ≤ length (told_words rules (j + i))
  unfolding told_words
  words_grow i zero = let z : 0 + i ≡ i = omega arith in rw z (omega arith)
  words_grow i (suc j) =
      let next : suc j + i ≡ suc (j + i) = omega arith in
      rw next (omega (arith, words_grow i j, length-append (told_words rules (j + i)) (words_if (j + i) (get_or rules (j + i) 0))))

  pub words_none : 0 ≡ length (told_words rules 0)
  unfolding told_words
  words_none = refl

  pub words_start : (report : List ℕ) → report ≡ sets report 0 (told_words rules 0)
  unfolding told_words
  words_start report = refl

  module _ (n i at : ℕ) (h : i < n) (place : at ≡ length (told_words rules i)) where
    words_next : length (told_words rules (i + 1)) ≡ at + length (words_if i (get_or rules i 0))
    unfolding told_words
    words_next = rw (add-one i) (omega (arith, length-append (told_words rules i) (words_if i (get_or rules i 0))))

    pub words_room_lem : (long full : ℕ) → length (told_words rules n) ≤ full → long ≡ full → at + length (words_if i (get_or rules i 0)) ≤ long
    words_room_lem long full room same =
        let all : n - (i + 1) + (i + 1) ≡ n = omega arith in
        let grows : length (told_words rules (i + 1)) ≤ length (told_words rules n) = rw all at (words_grow (i + 1) (n - (i + 1))) in
        omega (arith, words_next)

    pub words_more : (before report after : List ℕ) (next : ℕ) → report ≡ sets before 0 (told_words rules i) → ToldPut report after at i (get_or rules i 0) next
        → (next ≡ length (told_words rules (i + 1))) × (after ≡ sets before 0 (told_words rules (i + 1)))
    unfolding told_words
    words_more before report after next e put = (
      put.place ∙ sym words_next,
      rw (add-one i)
          (put.content
          ∙ ap₂ (λ (x : List ℕ) (k : ℕ). sets x k (words_if i (get_or rules i 0))) e (let z : at ≡ 0 + length (told_words rules i) = omega arith in z)
          ∙ sets_append (told_words rules i) (words_if i (get_or rules i 0)) before 0),
    )

-- ---- the report's words

report_append : (a b : List Entry) → report_words (a ++ b) ≡ report_words a ++ report_words b
unfolding report_words
report_append [] b = refl
report_append (x ∷ a) b = ap (λ (l : List ℕ). x.row ∷ rule_number x.rule ∷ l) (report_append a b)

pub report_long : (l : List Entry) → length (report_words l) ≡ 2 * length l
unfolding report_words
report_long [] = let z : 0 ≡ 2 * 0 = omega arith in z
report_long (x ∷ l) =
    let rest = report_long l in
    let one : length (x ∷ l) ≡ suc (length l) = refl in
    let z : suc (suc (length (report_words l))) ≡ 2 * suc (length l) = omega arith in
    z

told_words_lem : (n : ℕ) (r : Option Rule) → words_if n (rule_byte r) ≡ report_words (dropped_if r n)
unfolding words_if report_words rule_byte
told_words_lem n none = refl
told_words_lem n (some r) = rw (byte_none (some r))

pub words_told : (d : ℕ) (s rules : List ℕ) (n : ℕ) → ((i : ℕ) → i < n → get_or rules i 0 ≡ rule_of d s i) → told_words rules n ≡ report_words (report_of d s n)
unfolding told_words report_of report_words
words_told d s rules zero f = refl
words_told d s rules (suc n) f =
    ap₂ (λ (a b : List ℕ). a ++ b) (words_told d s rules n (λ i h. f i (omega arith)))
    (ap (words_if n) (f n (omega arith)) ∙ told_words_lem n (broken_rule d s (kept_of d s n) n))
    ∙ sym (report_append (report_of d s n) (dropped_if (broken_rule d s (kept_of d s n) n) n))
