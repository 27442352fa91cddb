-- A table written with room for d dependencies is read back, bytes that are read are written again, and what is written is good. 02, M-106.
use Prim.Native.Nat.{ℕ, zero, suc, ◌+◌, ◌-◌, ◌*◌, ◌/◌, ◌%◌, ◌≤◌, ◌<◌}
use mathlib.Core.Bool.{true, false}
use mathlib.Core.List.{List, [], ◌∷◌, ◌++◌, append_assoc}
use mathlib.Core.Path.{◌≡◌, refl, sym, ap, ap₂, subst, ◌∙◌}
use native.Mathlib.Nat.{zero-add, mul-div_cancel, mul-mod_left, mul-le-mul_right, le_trans, le_of_eq}
use native.Mathlib.Omega.{arith}
use borrow.Author.Tests.{eqb-true, eqb-false, lt-ltb, le-leb}
use lib.Dec.{ltb, eqb}
use lib.ListN.{length, get_or, take, drop, replicate, length-append, length-replicate, length-drop, take-append-drop}
use lib.Seq.{slice, take-append-add, drop-append-add, take_at, length-take-le, get_or-take}
use Rattle.hash_order.proofs.KeepLaws.{every_one, once_index}
use Rattle.hash_order.proofs.OrderLaws.{member_index, member_behind}
use Rattle.hash_order.specs.Order.{member, every, ascends}
use Rattle.rules.proofs.ByteLaws.{bytes_append, zeros_bytes}
use Rattle.rules.proofs.Cases.{split, both, and_true}
use Rattle.rules.proofs.Hash.{big_endian_bytes_bytes, hash_there_and_back, hash_bytes_lem, length_hash_bytes, slice_append}
use Rattle.rules.specs.Hash.{Bytes, big_endian, IsHash, AreHashes, hash_at, hash_bytes}
use Rattle.rules.specs.LittleEndian.{u16_at}
use Rattle.rules.specs.Sizes.{sizes}
use Rattle.rules.specs.Zeros.{zeros}
use Rattle.table.specs.Table.{Row, GoodTable, rows, hash_of, deps_of}
use Rattle.table.specs.TableBytes.{u16s_at, u16s_bytes, row_size_of, count_of, used_of, unused_of, row_of, rows_of, whole_rows_of, numbers_good, row_good_of, table_checked_of}
use Rattle.table.specs.TableWritten.{row_bytes_of, table_bytes_of, Holdable, RoundTrip}
use Rattle.table.proofs.ExtendLaws.{rows_take}
use Rattle.table.proofs.TableLaws.{length_rows, take_rows_of, row_deps_of, row_hash_of, length_used_of, good_row_has, good_table_of, good_accepted_of}
use Rattle.table.proofs.TwoBytes.{length_twos_at, length_twos_bytes, twos_at_bytes, u16_behind, u16s_behind, u16_front, twos_front, twos_bytes}
use Rattle.std.specs.Prelude.{Ok}

-- ---- what stands behind some bytes

module _ (pre s : List ℕ) where
  slice_behind : (k n : ℕ) → slice (length pre + k) (length pre + k + n) (pre ++ s) ≡ slice k (k + n) s
  slice_behind k n =
      ap (λ (i : ℕ). drop (length pre + k) (take i (pre ++ s))) (let z : length pre + k + n ≡ length pre + (k + n) = omega arith in z)
      ∙ ap (drop (length pre + k)) (take-append-add pre s (k + n))
      ∙ drop-append-add pre (take (k + n) s) k

  hash_behind : (k : ℕ) → hash_at (pre ++ s) (length pre + k) ≡ hash_at s k
  unfolding hash_at
  hash_behind k = ap big_endian (slice_behind k sizes.hash)

  -- rows behind one that is as long as a row
  module _ (d : ℕ) (long : length pre ≡ row_size_of d) where
    place : (i c : ℕ) → suc i * row_size_of d + c ≡ length pre + (i * row_size_of d + c)
    place i c = omega (arith, long)

    row_behind_lem : (i : ℕ) → row_of d (pre ++ s) (suc i) ≡ row_of d s i
    unfolding row_of used_of count_of
    row_behind_lem i =
        let h : hash_at (pre ++ s) (suc i * row_size_of d) ≡ hash_at s (i * row_size_of d) =
        ap (hash_at (pre ++ s)) (let z : suc i * row_size_of d ≡ length pre + i * row_size_of d = omega (arith, long) in z) ∙ hash_behind (i * row_size_of d)
        in
        let c : u16_at (pre ++ s) (suc i * row_size_of d + sizes.hash) ≡ u16_at s (i * row_size_of d + sizes.hash) =
        ap (u16_at (pre ++ s)) (place i sizes.hash) ∙ u16_behind pre s (i * row_size_of d + sizes.hash)
        in
        let u : (n : ℕ) → u16s_at (pre ++ s) (suc i * row_size_of d + sizes.hash + 2) n ≡ u16s_at s (i * row_size_of d + sizes.hash + 2) n =
        λ n. ap (λ (x : ℕ). u16s_at (pre ++ s) x n) (let z : suc i * row_size_of d + sizes.hash + 2 ≡ length pre + (i * row_size_of d + sizes.hash + 2) = omega (arith, long) in z)
        ∙ u16s_behind pre s (i * row_size_of d + sizes.hash + 2) n
        in
        ap₂ (λ (x : ℕ) (y : List ℕ). record { hash = x; deps = y }) h
        (u (u16_at (pre ++ s) (suc i * row_size_of d + sizes.hash)) ∙ ap (u16s_at s (i * row_size_of d + sizes.hash + 2)) c)

    count_behind : (i : ℕ) → count_of d (pre ++ s) (suc i) ≡ count_of d s i
    unfolding count_of
    count_behind i = ap (u16_at (pre ++ s)) (place i sizes.hash) ∙ u16_behind pre s (i * row_size_of d + sizes.hash)

    unused_behind : (i : ℕ) → unused_of d (pre ++ s) (suc i) ≡ unused_of d s i
    unfolding unused_of
    unused_behind i =
        ap (λ (c : ℕ). u16s_at (pre ++ s) (suc i * row_size_of d + sizes.hash + 2 + 2 * c) (d - c)) (count_behind i)
        ∙ ap (λ (x : ℕ). u16s_at (pre ++ s) x (d - count_of d s i))
        (let z : suc i * row_size_of d + sizes.hash + 2 + 2 * count_of d s i ≡ length pre + (i * row_size_of d + sizes.hash + 2 + 2 * count_of d s i) = omega (arith, long) in z)
        ∙ u16s_behind pre s (i * row_size_of d + sizes.hash + 2 + 2 * count_of d s i) (d - count_of d s i)

    rows_behind : (i n : ℕ) → rows_of d (pre ++ s) (suc i) n ≡ rows_of d s i n
    unfolding rows_of
    rows_behind i zero = refl
    rows_behind i (suc n) = ap₂ (λ (r : Row) (l : List Row). r ∷ l) (row_behind_lem i) (rows_behind (suc i) n)

-- ---- a row that is written

count_front : (l x : List ℕ) → u16_at (u16s_bytes (length l ∷ l) ++ x) 0 ≡ length l
unfolding u16s_bytes
count_front l x = u16_front (length l) (u16s_bytes l ++ x)

used_front : (l x : List ℕ) → u16s_at (u16s_bytes (length l ∷ l) ++ x) 2 (length l) ≡ l
unfolding u16s_bytes
used_front l x = u16s_behind (length l % 256 ∷ length l / 256 ∷ []) (u16s_bytes l ++ x) 0 (length l) ∙ twos_front l x

pub row_long_lem : (d : ℕ) (r : Row) → length r.deps ≤ d → length (row_bytes_of d r) ≡ row_size_of d
unfolding row_bytes_of
row_long_lem d r h =
    let n : ℕ = length r.deps in
    let a = length-append (hash_bytes r.hash) (u16s_bytes (n ∷ r.deps) ++ replicate (2 * (d - n)) 0) in
    let b = length-append (u16s_bytes (n ∷ r.deps)) (replicate (2 * (d - n)) 0) in
    let c = length_hash_bytes r.hash in
    let e = length_twos_bytes (n ∷ r.deps) in
    let f = length-replicate {A = ℕ} (2 * (d - n)) 0 in
    let g : length (n ∷ r.deps) ≡ suc n = refl in
    omega arith

row_front : (d : ℕ) (r : Row) (s : List ℕ) → IsHash r.hash → row_of d (row_bytes_of d r ++ s) 0 ≡ r
unfolding row_of used_of count_of row_bytes_of
row_front d r s ish =
    let n : ℕ = length r.deps in
    let rest : List ℕ = replicate (2 * (d - n)) 0 in
    let H : List ℕ = hash_bytes r.hash in
    let N : List ℕ = u16s_bytes (n ∷ r.deps) in
    let behind : List ℕ = N ++ (rest ++ s) in
    let whole : (H ++ (N ++ rest)) ++ s ≡ H ++ behind = append_assoc H (N ++ rest) s ∙ ap (λ (x : List ℕ). H ++ x) (append_assoc N rest s) in
    let long : length H ≡ sizes.hash = length_hash_bytes r.hash in
    let h : hash_at (H ++ behind) 0 ≡ r.hash = hash_there_and_back (H ++ behind) 0 r.hash ish (take_at H behind sizes.hash long) in
    let c : u16_at (H ++ behind) sizes.hash ≡ n =
    ap (u16_at (H ++ behind)) (let z : sizes.hash ≡ length H + 0 = omega (arith, long) in z) ∙ u16_behind H behind 0 ∙ count_front r.deps (rest ++ s)
    in
    let u : u16s_at (H ++ behind) (sizes.hash + 2) n ≡ r.deps =
    ap (λ (i : ℕ). u16s_at (H ++ behind) i n) (let z : sizes.hash + 2 ≡ length H + 2 = omega (arith, long) in z) ∙ u16s_behind H behind 2 n ∙ used_front r.deps (rest ++ s)
    in
    rw (whole, let z : 0 * row_size_of d ≡ 0 = omega arith in z, let z : 0 + sizes.hash ≡ sizes.hash = omega arith in z) (rw (h, c, u))

-- ---- a table that is written

narrow_first : {d : ℕ} {r : Row} {t : List Row} → Holdable d (r ∷ t) → length r.deps ≤ d
unfolding deps_of
narrow_first {d} {r} {t} h = h.narrow 0 (let z : length (r ∷ t) ≡ suc (length t) = refl in omega arith)

holdable_rest : {d : ℕ} {r : Row} {t : List Row} → Holdable d (r ∷ t) → Holdable d t
unfolding deps_of rows AreHashes
holdable_rest {d} {r} {t} h =
    record {
      hashes = h.hashes.1;
      narrow = λ i l. h.narrow (suc i) (let z : length (r ∷ t) ≡ suc (length t) = refl in omega arith);
    }

hash_first : {d : ℕ} {r : Row} {t : List Row} → Holdable d (r ∷ t) → IsHash r.hash
unfolding rows AreHashes
hash_first h = h.hashes.0

pub table_long : (d : ℕ) (t : List Row) → Holdable d t → length (table_bytes_of d t) ≡ length t * row_size_of d
unfolding table_bytes_of
table_long d [] h = omega arith
table_long d (r ∷ t) h =
    let a = length-append (row_bytes_of d r) (table_bytes_of d t) in
    let b = row_long_lem d r (narrow_first h) in
    let c = table_long d t (holdable_rest h) in
    let e : length (r ∷ t) ≡ suc (length t) = refl in
    omega arith

table_rows : (d : ℕ) (t : List Row) → Holdable d t → rows_of d (table_bytes_of d t) 0 (length t) ≡ t
unfolding table_bytes_of rows_of
table_rows d [] h = refl
table_rows d (r ∷ t) h =
    ap₂ (λ (x : Row) (l : List Row). x ∷ l) (row_front d r (table_bytes_of d t) (hash_first h))
    (rows_behind (row_bytes_of d r) (table_bytes_of d t) d (row_long_lem d r (narrow_first h)) 0 (length t) ∙ table_rows d t (holdable_rest h))

-- so many whole rows
pub table_read : (d : ℕ) (t : List Row) → Holdable d t → whole_rows_of d (table_bytes_of d t) ≡ t
unfolding whole_rows_of
table_read d t h =
    ap (rows_of d (table_bytes_of d t) 0) (ap (λ (n : ℕ). n / row_size_of d) (table_long d t h) ∙ mul-div_cancel (length t) {n = row_size_of d} (omega arith)) ∙ table_rows d t h

-- ---- bytes that are read, written again

zero_bytes : (l : List ℕ) → zeros l ≡ true → u16s_bytes l ≡ replicate (2 * length l) 0
unfolding zeros u16s_bytes
zero_bytes [] e = refl
zero_bytes (x ∷ l) e =
    let a = both (eqb x 0) (zeros l) e in
    let z : x ≡ 0 = eqb-true x 0 a.0 in
    rw (z, let q : 2 * suc (length l) ≡ suc (suc (2 * length l)) = omega arith in q)
    (ap (λ (m : List ℕ). 0 ∷ 0 ∷ m) (zero_bytes l a.1))

-- the hash, the count and the numbers in use of a row are the bytes from its place on
row_used : (s : List ℕ) (at c : ℕ) → Bytes s → at + sizes.hash + 2 + 2 * c ≤ length s → c ≡ u16_at s (at + sizes.hash)
    → hash_bytes (hash_at s at) ++ u16s_bytes (c ∷ u16s_at s (at + sizes.hash + 2) c) ≡ slice at (at + sizes.hash + 2 + 2 * c) s
unfolding u16s_at
row_used s at c b l e =
    let head : hash_bytes (hash_at s at) ≡ slice at (at + 32) s = hash_bytes_lem s at b (omega arith) in
    let numbers : u16s_bytes (u16_at s (at + 32) ∷ u16s_at s (at + 32 + 2) c) ≡ slice (at + 32) (at + 32 + 2 * suc c) s =
    twos_at_bytes s (at + 32) (suc c) b (omega arith)
    in
    let q : at + 32 + 2 * suc c ≡ at + 32 + 2 + 2 * c = omega arith in
    ap₂ (λ (x y : List ℕ). x ++ y) head
    (ap (λ (n : ℕ). u16s_bytes (n ∷ u16s_at s (at + 32 + 2) c)) e ∙ numbers ∙ ap (λ (n : ℕ). slice (at + 32) n s) q)
    ∙ slice_append 32 at (at + 32 + 2 + 2 * c) s (omega arith)

-- a row of one width as bytes of another: those up to its last number in use, and zeros
pub row_as : (from to : ℕ) (s : List ℕ) (i c : ℕ) → Bytes s → (i + 1) * row_size_of from ≤ length s → c ≡ count_of from s i → c ≤ from
    → row_bytes_of to (row_of from s i) ≡ slice (i * row_size_of from) (i * row_size_of from + sizes.hash + 2 + 2 * c) s ++ replicate (2 * (to - c)) 0
unfolding row_bytes_of row_of used_of count_of
row_as from to s i c b l e few =
    let at : ℕ = i * row_size_of from in
    let used = row_used s at c b (omega arith) e in
    let long : length (u16s_at s (at + sizes.hash + 2) c) ≡ c = length_twos_at s (at + sizes.hash + 2) c in
    let H : List ℕ = hash_bytes (hash_at s at) in
    let N : List ℕ = u16s_bytes (c ∷ u16s_at s (at + sizes.hash + 2) c) in
    let Z : List ℕ = replicate (2 * (to - c)) 0 in
    let whole : H ++ (N ++ Z) ≡ slice at (at + sizes.hash + 2 + 2 * c) s ++ Z = sym (append_assoc H N Z) ∙ ap (λ (x : List ℕ). x ++ Z) used in
    rw (← e, long) whole

row_written : (d : ℕ) (s : List ℕ) → Bytes s → row_size_of d ≤ length s → count_of d s 0 ≤ d → zeros (unused_of d s 0) ≡ true
    → row_bytes_of d (row_of d s 0) ≡ take (row_size_of d) s
unfolding unused_of
row_written d s b l few z =
    let c : ℕ = count_of d s 0 in
    let start : 0 * row_size_of d ≡ 0 = omega arith in
    let end : 0 * row_size_of d + sizes.hash + 2 + 2 * c ≡ 34 + 2 * c = omega arith in
    let none : zeros (u16s_at s (34 + 2 * c) (d - c)) ≡ true = ap (λ (n : ℕ). zeros (u16s_at s n (d - c))) (sym end) ∙ z in
    let tail : replicate (2 * (d - c)) 0 ≡ slice (34 + 2 * c) (34 + 2 * c + 2 * (d - c)) s =
    sym (ap (λ (n : ℕ). replicate (2 * n) 0) (length_twos_at s (34 + 2 * c) (d - c))) ∙ sym (zero_bytes (u16s_at s (34 + 2 * c) (d - c)) none)
    ∙ twos_at_bytes s (34 + 2 * c) (d - c) b (omega arith)
    in
    let whole : 34 + 2 * c + 2 * (d - c) ≡ row_size_of d = omega arith in
    row_as d d s 0 c b (omega arith) refl few
    ∙ ap₂ (λ (m n : ℕ). slice m n s ++ replicate (2 * (d - c)) 0) start end
    ∙ ap (λ (x : List ℕ). slice 0 (34 + 2 * c) s ++ x) (tail ∙ ap (λ (n : ℕ). slice (34 + 2 * c) n s) whole)
    ∙ rw zero-add at (slice_append (34 + 2 * c) 0 (row_size_of d) s (omega arith))

bytes_drop : (n : ℕ) (l : List ℕ) → Bytes l → Bytes (drop n l)
bytes_drop zero l f i = f i
bytes_drop (suc n) [] f i = f i
bytes_drop (suc n) (x ∷ l) f i = bytes_drop n l (λ j. f (suc j)) i

-- rows that follow
pub table_written : (d n : ℕ) (s : List ℕ) → Bytes s → length s ≡ n * row_size_of d
    → ((i : ℕ) → i < n → (count_of d s i ≤ d) × (zeros (unused_of d s i) ≡ true))
    → table_bytes_of d (rows_of d s 0 n) ≡ s
unfolding table_bytes_of rows_of
table_written d zero s b l f = sym (none_long s (let z = l in omega arith))
  where
    none_long : (l : List ℕ) → length l ≡ 0 → l ≡ []
    none_long [] e = refl
    none_long (x ∷ l) e = absurd (let z : suc (length l) ≡ 0 = e in omega arith)
table_written d (suc n) s b l f =
    let size : ℕ = row_size_of d in
    let front : List ℕ = take (row_size_of d) s in
    let back : List ℕ = drop (row_size_of d) s in
    let parts : front ++ back ≡ s = take-append-drop (row_size_of d) s in
    let long : length front ≡ row_size_of d = length-take-le (row_size_of d) s (omega arith) in
    let backLong : length back ≡ n * row_size_of d = length-drop (row_size_of d) s ∙ (let z : length s - row_size_of d ≡ n * row_size_of d = omega arith in z) in
    let rest : rows_of d s 1 n ≡ rows_of d back 0 n = ap (λ (x : List ℕ). rows_of d x 1 n) (sym parts) ∙ rows_behind front back d long 0 n in
    let ih : table_bytes_of d (rows_of d back 0 n) ≡ back =
    table_written d n back (bytes_drop (row_size_of d) s b) backLong
    (λ i h.
    let g = f (suc i) (omega arith) in
    let ce : count_of d s (suc i) ≡ count_of d back i = ap (λ (x : List ℕ). count_of d x (suc i)) (sym parts) ∙ count_behind front back d long i in
    let ue : unused_of d s (suc i) ≡ unused_of d back i = ap (λ (x : List ℕ). unused_of d x (suc i)) (sym parts) ∙ unused_behind front back d long i in
    (let z = g.0 in omega arith, ap zeros (sym ue) ∙ g.1))
    in
    let here = f 0 (omega arith) in
    ap₂ (λ (x y : List ℕ). x ++ y) (row_written d s b (omega arith) here.0 here.1) (ap (table_bytes_of d) rest ∙ ih) ∙ parts

-- ---- what is written is good

two_zeros : (x : List ℕ) → eqb (u16_at (0 ∷ 0 ∷ x) 0) 0 ≡ true
unfolding u16_at
two_zeros x = refl

zeros_front : (m : ℕ) (x : List ℕ) → zeros (u16s_at (replicate (2 * m) 0 ++ x) 0 m) ≡ true
unfolding zeros u16s_at
zeros_front zero x = refl
zeros_front (suc m) x =
    let q : 2 * suc m ≡ suc (suc (2 * m)) = omega arith in
    subst (λ (n : ℕ). zeros (u16s_at (replicate n 0 ++ x) 0 (suc m)) ≡ true) (sym q)
    (and_true (eqb (u16_at (0 ∷ 0 ∷ (replicate (2 * m) 0 ++ x)) 0) 0) (zeros (u16s_at (0 ∷ 0 ∷ (replicate (2 * m) 0 ++ x)) 2 m))
    (two_zeros (replicate (2 * m) 0 ++ x))
    (ap zeros (u16s_behind (0 ∷ 0 ∷ []) (replicate (2 * m) 0 ++ x) 0 m) ∙ zeros_front m x))

unused_front : (d : ℕ) (r : Row) (s : List ℕ) → length r.deps ≤ d → zeros (unused_of d (row_bytes_of d r ++ s) 0) ≡ true
unfolding unused_of count_of row_bytes_of
unused_front d r s few =
    let n : ℕ = length r.deps in
    let rest : List ℕ = replicate (2 * (d - n)) 0 in
    let H : List ℕ = hash_bytes r.hash in
    let N : List ℕ = u16s_bytes (n ∷ r.deps) in
    let behind : List ℕ = N ++ (rest ++ s) in
    let whole : (H ++ (N ++ rest)) ++ s ≡ H ++ behind = append_assoc H (N ++ rest) s ∙ ap (λ (x : List ℕ). H ++ x) (append_assoc N rest s) in
    let long : length H ≡ sizes.hash = length_hash_bytes r.hash in
    let c : u16_at (H ++ behind) sizes.hash ≡ n =
    ap (u16_at (H ++ behind)) (let z : sizes.hash ≡ length H + 0 = omega (arith, long) in z) ∙ u16_behind H behind 0 ∙ count_front r.deps (rest ++ s)
    in
    let front : (H ++ N) ++ (rest ++ s) ≡ H ++ behind = append_assoc H N (rest ++ s) in
    let longer : length (H ++ N) ≡ sizes.hash + 2 + 2 * n =
    length-append H N ∙ (let a = length_twos_bytes (n ∷ r.deps) in let b : length (n ∷ r.deps) ≡ suc n = refl in let z : length H + length N ≡ sizes.hash + 2 + 2 * n = omega (arith, long) in z)
    in
    let u : zeros (u16s_at (H ++ behind) (sizes.hash + 2 + 2 * n) (d - n)) ≡ true =
    ap zeros
    (ap₂ (λ (x : List ℕ) (i : ℕ). u16s_at x i (d - n)) (sym front) (let z : sizes.hash + 2 + 2 * n ≡ length (H ++ N) + 0 = omega (arith, longer) in z)
    ∙ u16s_behind (H ++ N) (rest ++ s) 0 (d - n))
    ∙ zeros_front (d - n) s
    in
    rw (whole, let z : 0 * row_size_of d ≡ 0 = omega arith in z, let z : 0 + sizes.hash ≡ sizes.hash = omega arith in z) (rw c u)

table_unused : (d : ℕ) (t : List Row) → Holdable d t → (i : ℕ) → i < length t → zeros (unused_of d (table_bytes_of d t) i) ≡ true
unfolding table_bytes_of
table_unused d [] h i l = absurd (let z : i < 0 = l in omega arith)
table_unused d (r ∷ t) h zero l = unused_front d r (table_bytes_of d t) (narrow_first h)
table_unused d (r ∷ t) h (suc i) l =
    ap zeros (unused_behind (row_bytes_of d r) (table_bytes_of d t) d (row_long_lem d r (narrow_first h)) i)
    ∙ table_unused d t (holdable_rest h) i (let z : length (r ∷ t) ≡ suc (length t) = refl in omega arith)

module _ (d : ℕ) (t : List Row) (good : GoodTable t) (h : Holdable d t) where
  abbrev out : List ℕ
  out = table_bytes_of d t

  out_rows : (n : ℕ) → n ≤ length t → rows_of d out 0 n ≡ take n t
  out_rows n l = sym (take_rows_of d out 0 n (length t) l) ∙ ap (take n) (table_rows d t h)

  out_deps : (i : ℕ) → i < length t → used_of d out i ≡ deps_of t i
  out_deps i l = sym (row_deps_of d out (length t) i l) ∙ ap (λ (x : List Row). deps_of x i) (table_rows d t h)

  out_hash : (i : ℕ) → i < length t → hash_at out (i * row_size_of d) ≡ hash_of t i
  out_hash i l = sym (row_hash_of d out (length t) i l) ∙ ap (λ (x : List Row). hash_of x i) (table_rows d t h)

  -- no earlier row has a row's hash
  hash_new : (i : ℕ) → i < length t → member (hash_of t i) (rows (take i t)) ≡ false
  unfolding hash_of
  hash_new i l =
      split (member (hash_of t i) (rows (take i t)))
      (λ m.
      let long : length (rows t) ≡ length t = length_rows t in
      let (j, b, e) = member_index (hash_of t i) (rows (take i t)) m in
      let jl : j < i = rw (length_rows (take i t), length-take-le i t (omega arith)) at b in
      let same : get_or (rows t) j 0 ≡ get_or (rows t) i 0 = sym (ap (λ (x : List ℕ). get_or x j 0) (rows_take i t) ∙ get_or-take i (rows t) j 0 jl) ∙ e in
      let q = once_index (rows t) good.once j i (omega arith) (omega arith) same in
      absurd (omega arith))
      (λ m. m)

  out_good : (i : ℕ) → i < length t → row_good_of d out i ≡ true
  unfolding row_good_of numbers_good
  out_good i l =
      let used = out_deps i l in
      let count : count_of d out i ≤ d = let a = length_used_of d out i in let b = ap length used in let c = h.narrow i l in omega arith in
      let order : ascends (used_of d out i) ≡ true = ap ascends used ∙ good.ordered i l in
      let below : every (λ k. ltb k i) (used_of d out i) ≡ true =
      every_one (λ k. ltb k i) (used_of d out i) (λ k m. lt-ltb k i (good.down i k l (ap (member k) (sym used) ∙ m)))
      in
      let new : member (hash_at out (i * row_size_of d)) (rows (rows_of d out 0 i)) ≡ false =
      ap₂ (λ (x : ℕ) (y : List Row). member x (rows y)) (out_hash i l) (out_rows i (omega arith)) ∙ hash_new i l
      in
      rw (le-leb (count_of d out i) d count, order, below, table_unused d t h i l, new)

  pub table_accepted : (most : ℕ) → length t ≤ most → table_checked_of d most out ≡ Ok (length t)
  table_accepted most few =
      let long = table_long d t h in
      let n : length out / row_size_of d ≡ length t = ap (λ (x : ℕ). x / row_size_of d) long ∙ mul-div_cancel (length t) {n = row_size_of d} (omega arith) in
      good_accepted_of d most out
      (ap (λ (x : ℕ). x % row_size_of d) long ∙ mul-mod_left (length t) (row_size_of d))
      (le_trans (le_of_eq long) (mul-le-mul_right (row_size_of d) few))
      (λ i l. out_good i (let z = n in omega arith))
      ∙ ap Ok n

-- ---- what is written are bytes

abbrev TwoBytes : List Row → Type 0
TwoBytes t = (i : ℕ) → i < length t → (length (deps_of t i) < 65536) × ((k : ℕ) → member k (deps_of t i) ≡ true → k < 65536)

table_bytes : (d : ℕ) (t : List Row) → TwoBytes t → Bytes (table_bytes_of d t)
unfolding table_bytes_of row_bytes_of hash_bytes deps_of
table_bytes d [] f = zeros_bytes 0
table_bytes d (r ∷ t) f =
    let here = f 0 (let z : length (r ∷ t) ≡ suc (length t) = refl in omega arith) in
    bytes_append (hash_bytes r.hash ++ (u16s_bytes (length r.deps ∷ r.deps) ++ replicate (2 * (d - length r.deps)) 0)) (table_bytes_of d t)
    (bytes_append (hash_bytes r.hash) (u16s_bytes (length r.deps ∷ r.deps) ++ replicate (2 * (d - length r.deps)) 0) (big_endian_bytes_bytes sizes.hash r.hash)
    (bytes_append (u16s_bytes (length r.deps ∷ r.deps)) (replicate (2 * (d - length r.deps)) 0)
    (twos_bytes (length r.deps ∷ r.deps) (λ x m. entries r.deps here.0 here.1 x m))
    (zeros_bytes (2 * (d - length r.deps)))))
    (table_bytes d t (λ i l. f (suc i) (let z : length (r ∷ t) ≡ suc (length t) = refl in omega arith)))
  where
    entries : (l : List ℕ) → length l < 65536 → ((k : ℕ) → member k l ≡ true → k < 65536) → (x : ℕ) → member x (length l ∷ l) ≡ true → x < 65536
    entries l h g x m =
        split (eqb x (length l)) (λ e. let z = eqb-true x (length l) e in omega arith) (λ e. g x (member_behind x (length l) l m (eqb-false x (length l) e)))

-- the round trip, whole
pub round_trip : RoundTrip
round_trip =
    record {
      read = table_read;
      long = table_long;
      written =
          λ d most s n b e.
          let x = good_table_of d most s n e in
          ap (table_bytes_of d) x.is
          ∙ table_written d n s b x.whole (λ i l. let g = good_row_has d s i (x.each i l) in (g.count, g.unused));
      good = λ d most t good h few. table_accepted d t good h most few;
      bytes =
          λ d t good h counts few.
          table_bytes d t (λ i l. (
            let z = h.narrow i l in omega arith,
            λ k m. let z = good.down i k l m in omega arith,
          ));
    }
