-- Rows decided in table order: each test of a row is one of its rule's, and each turn decides one row more.
use Prim.Native.Nat.{ℕ, suc, ◌+◌, ◌-◌, ◌*◌, ◌≤◌, ◌<◌}
use mathlib.Core.Bool.{Bool, true, false, cond, ◌&&◌, ◌||◌}
use mathlib.Core.List.{List, [], ◌∷◌, ◌++◌, map, append-nil}
use mathlib.Core.Option.{Option, none, some}
use mathlib.Core.Path.{◌≡◌, refl, sym, ap, ap₂, ◌∙◌}
use native.Mathlib.Numerals.{add-one}
use native.Mathlib.Omega.{arith}
use borrow.Author.Tests.{eqb-false, eqb-true, eq-eqb, ne_eqb, ltb-true, ltb-false, lt-ltb, le-ltb}
use lib.Dec.{ltb, eqb}
use lib.ListN.{length, get_or, set, replicate, get_or-replicate, length-append}
use lib.Seq.{get_or-set_same, get_or-set_other}
use Rattle.hash_order.proofs.KeepLaws.{every_member}
use Rattle.hash_order.proofs.OrderLaws.{member_append, index_member, member_here, member_there}
use Rattle.hash_order.specs.Order.{member, every, ascends}
use Rattle.rules.proofs.Cases.{split, both}
use Rattle.rules.specs.LittleEndian.{u16_at}
use Rattle.rules.specs.Sizes.{sizes}
use Rattle.rules.specs.Zeros.{zeros}
use Rattle.table.proofs.TableLaws.{number_place_of, length_used_of, used_of_index}
use Rattle.table.specs.TableBytes.{u16s_at, row_size_of, count_of, used_of, unused_of, numbers_good}
use Rattle.table_index.proofs.ListLaws.{ascending_few}
use Rattle.table_index.specs.Index.{record_hash}
use Rattle.salvage_rules.specs.Internal.Decided.{Classes, rule_byte, rule_of, Before, Taken}
use Rattle.salvage_rules.specs.KeptRows.{Rule, rule_number, row_hash, broken_rule, kept_if, kept_of}
use Rattle.salvage_rules.proofs.KeptLaws.{is_none, every_same, kept_is, kept_inside, kept_ascends}

-- ---- dependencies that are kept

number_next : (d i j : ℕ) → number_place_of d i j + 2 ≡ number_place_of d i (j + 1)
number_next d i j = omega arith

-- good numbers are below the row
pub numbers_low : (d : ℕ) (s : List ℕ) (i : ℕ) → numbers_good i (used_of d s i) ≡ true → (k : ℕ) → member k (used_of d s i) ≡ true → k < i
unfolding numbers_good
numbers_low d s i g k m =
    ltb-true k i (every_member (λ k. ltb k i) (used_of d s i) (both (ascends (used_of d s i)) (every (λ k. ltb k i) (used_of d s i)) g).1 k m)

pub number_low : (d : ℕ) (s : List ℕ) (i count j k : ℕ) → numbers_good i (used_of d s i) ≡ true → count ≡ count_of d s i → j < count
    → k ≡ u16_at s (number_place_of d i j)
    → k < i
number_low d s i count j k g e h read =
    let l : j < count_of d s i = omega arith in
    let long = length_used_of d s i in
    let is : get_or (used_of d s i) j 0 ≡ k = used_of_index d s i j l ∙ sym read in
    numbers_low d s i g k (ap (λ (x : ℕ). member x (used_of d s i)) (sym is) ∙ index_member (used_of d s i) j (omega arith))

module _ (d : ℕ) (s : List ℕ) (i : ℕ) (rules : List ℕ) (count : ℕ) where
  -- whether the numbers from the j-th on, of those in use, name kept rows
  pub kept_left : ℕ → Bool
  kept_left j = every (λ k. eqb (get_or rules k 0) 0) (u16s_at s (number_place_of d i j) (count - j))

  pub left_starts : count ≡ count_of d s i → kept_left 0 ≡ every (λ k. eqb (get_or rules k 0) 0) (used_of d s i)
  unfolding kept_left used_of
  left_starts e =
      let all : count - 0 ≡ count_of d s i = omega arith in
      let p : number_place_of d i 0 ≡ i * row_size_of d + sizes.hash + 2 = omega arith in
      rw (all, p)

  module _ (j k : ℕ) (inside : j < count) (read : k ≡ u16_at s (number_place_of d i j)) where
    left : count - j ≡ suc (count - (j + 1))
    left = omega arith

    pub left_lost : (get_or rules k 0 ≡ 0 → ⊥) → kept_left j ≡ false
    unfolding kept_left every u16s_at
    left_lost h = rw (left, ← read, ne_eqb (get_or rules k 0) 0 h)

    pub left_on : get_or rules k 0 ≡ 0 → kept_left j ≡ kept_left (j + 1)
    unfolding kept_left every u16s_at
    left_on h = rw (left, ← read, eq-eqb (get_or rules k 0) 0 h, number_next d i j)

  pub left_ends : (j : ℕ) → count ≤ j → kept_left j ≡ true
  unfolding kept_left every u16s_at
  left_ends j h =
      let none : count - j ≡ 0 = omega arith in
      rw none

-- ---- the rule of a row

-- a row is kept just if its byte is 0
pub byte_none : (r : Option Rule) → eqb (rule_byte r) 0 ≡ is_none r
unfolding rule_byte rule_number
byte_none none = refl
byte_none (some Rule.count) = refl
byte_none (some Rule.numbers) = refl
byte_none (some Rule.not_zero) = refl
byte_none (some Rule.repeated) = refl
byte_none (some Rule.lost) = refl

pub kept_byte : (d : ℕ) (s : List ℕ) (i n : ℕ) → i < n → member i (kept_of d s n) ≡ eqb (rule_of d s i) 0
kept_byte d s i n h = kept_is d s i (n - suc i) n (omega arith) ∙ sym (byte_none (broken_rule d s (kept_of d s i) i))

module _ (d : ℕ) (s : List ℕ) (i : ℕ) (rules : List ℕ) (taken : Bool) (b : Before d s i rules taken) where
  has_kept : numbers_good i (used_of d s i) ≡ true
      → every (λ k. eqb (get_or rules k 0) 0) (used_of d s i) ≡ every (λ k. member k (kept_of d s i)) (used_of d s i)
  has_kept g =
      every_same d s (λ k. eqb (get_or rules k 0) 0) (λ k. member k (kept_of d s i)) (used_of d s i)
      (λ k m.
      let low = numbers_low d s i g k m in
      ap (λ (x : ℕ). eqb x 0) (b.each k low) ∙ sym (kept_byte d s k i low))

  pub rule_count : (count : ℕ) → count ≡ count_of d s i → d < count → 1 ≡ rule_of d s i
  unfolding broken_rule rule_byte rule_number
  rule_count count e h = rw (lt-ltb d (count_of d s i) (omega arith))

  module _ (count : ℕ) (e : count ≡ count_of d s i) (few : count ≤ d) where
    low : ltb d (count_of d s i) ≡ false
    low = le-ltb d (count_of d s i) (omega arith)

    pub rule_numbers : numbers_good i (used_of d s i) ≡ false → 2 ≡ rule_of d s i
    unfolding broken_rule rule_byte rule_number
    rule_numbers g = rw (low, g)

    module _ (g : numbers_good i (used_of d s i) ≡ true) where
      pub rule_zeros : zeros (unused_of d s i) ≡ false → 3 ≡ rule_of d s i
      unfolding broken_rule rule_byte rule_number
      rule_zeros z = rw (low, g, z)

      module _ (z : zeros (unused_of d s i) ≡ true) where
        pub rule_repeated : taken ≡ true → 4 ≡ rule_of d s i
        unfolding broken_rule rule_byte rule_number
        rule_repeated t = rw (low, g, z, (sym b.hash ∙ t))

        module _ (t : taken ≡ false) where
          pub rule_lost : every (λ k. eqb (get_or rules k 0) 0) (used_of d s i) ≡ false → 5 ≡ rule_of d s i
          unfolding broken_rule rule_byte rule_number
          rule_lost h = rw (low, g, z, (sym b.hash ∙ t), (sym (has_kept g) ∙ h))

          pub rule_none : every (λ k. eqb (get_or rules k 0) 0) (used_of d s i) ≡ true → 0 ≡ rule_of d s i
          unfolding broken_rule rule_byte rule_number
          rule_none h = rw (low, g, z, (sym b.hash ∙ t), (sym (has_kept g) ∙ h))

-- ---- one row more

-- the first i numbers of a list are those that R tells, and one more after the next is set
set_next : (R : ℕ → ℕ) (l : List ℕ) (i r : ℕ) {n : ℕ} → i < n → (full : ℕ) → length l ≡ full → n ≤ full
    → ((j : ℕ) → j < i → get_or l j 0 ≡ R j)
    → r ≡ R i
    → (j : ℕ)
    → j < i + 1
    → get_or (set l i r) j 0 ≡ R j
set_next R l i r more full long room each is j h =
    split (eqb j i)
    (λ q. let same = eqb-true j i q in rw same (get_or-set_same l i r 0 (omega arith) ∙ is))
    (λ q.
    let other : j ≡ i → ⊥ = eqb-false j i q in
    let less : j < i = split (ltb j i) (λ z. ltb-true j i z) (λ z. absurd (other (let y = ltb-false j i z in omega arith))) in
    get_or-set_other l i j r 0 other ∙ each j less)

module _ (d : ℕ) (s : List ℕ) where
  pub rules_next : (rules : List ℕ) (i r : ℕ) {n : ℕ} → i < n → (full : ℕ) → length rules ≡ full → n ≤ full
      → ((j : ℕ) → j < i → get_or rules j 0 ≡ rule_of d s j)
      → r ≡ rule_of d s i
      → (j : ℕ)
      → j < i + 1
      → get_or (set rules i r) j 0 ≡ rule_of d s j
  rules_next = set_next (rule_of d s)

  pub places_next : (places : List ℕ) (i k : ℕ) {n : ℕ} → i < n → (full : ℕ) → length places ≡ full → n ≤ full
      → ((j : ℕ) → j < i → get_or places j 0 ≡ length (kept_of d s j))
      → k ≡ length (kept_of d s i)
      → (j : ℕ)
      → j < i + 1
      → get_or (set places i k) j 0 ≡ length (kept_of d s j)
  places_next = set_next (λ j. length (kept_of d s j))

  pub kept_few : (i : ℕ) → length (kept_of d s i) ≤ i
  kept_few i = ascending_few (kept_of d s i) i (kept_ascends d s i) (kept_inside d s i)

  pub count_few : (i kept : ℕ) → kept ≡ length (kept_of d s i) → kept ≤ i
  count_few i kept e = omega (arith, kept_few i)

  pub none_kept : 0 ≡ length (kept_of d s 0)
  unfolding kept_of
  none_kept = refl

  pub count_next : (i kept next rule : ℕ) → kept ≡ length (kept_of d s i) → rule ≡ rule_of d s i → next ≡ cond (eqb rule 0) (kept + 1) kept → next ≡ length (kept_of d s (i + 1))
  unfolding kept_of
  count_next i kept next rule e r q = rw (add-one i) (q ∙ ap (λ (x : ℕ). cond (eqb x 0) (kept + 1) kept) r ∙ grown (broken_rule d s (kept_of d s i) i))
    where
      grown : (r : Option Rule) → cond (eqb (rule_byte r) 0) (kept + 1) kept ≡ length (kept_of d s i ++ kept_if r i)
      grown none =
          let long = length-append (kept_of d s i) (i ∷ []) in
          let one : length (i ∷ []) ≡ 1 = refl in
          rw (byte_none none) (omega arith)
      grown (some r) = rw (byte_none (some r), append-nil (kept_of d s i)) e

-- ---- hashes of kept rows

map_append : (f : ℕ → ℕ) (a b : List ℕ) → map f (a ++ b) ≡ map f a ++ map f b
map_append f [] b = refl
map_append f (x ∷ a) b = ap (λ (l : List ℕ). f x ∷ l) (map_append f a b)

or_none : (b : Bool) → (b || false) ≡ b
or_none true = refl
or_none false = refl

module _ (d : ℕ) (s : List ℕ) (n : ℕ) (classes : List ℕ) where
  abbrev C : ℕ → ℕ
  C j = get_or classes j 0

  if_class : (r : Option Rule) (i c : ℕ) → member c (map C (kept_if r i)) ≡ (is_none r && eqb c (C i))
  unfolding member
  if_class none i c = or_none (eqb c (C i))
  if_class (some r) i c = refl

  next_class : (i c : ℕ) → member c (map C (kept_of d s (suc i))) ≡ (member c (map C (kept_of d s i)) || (eqb (rule_of d s i) 0 && eqb c (C i)))
  unfolding kept_of
  next_class i c =
      let r : Option Rule = broken_rule d s (kept_of d s i) i in
      ap (member c) (map_append C (kept_of d s i) (kept_if r i))
      ∙ member_append c (map C (kept_of d s i)) (map C (kept_if r i))
      ∙ ap (λ (b : Bool). member c (map C (kept_of d s i)) || b) (if_class r i c ∙ ap (λ (b : Bool). b && eqb c (C i)) (sym (byte_none r)))

  module _ (k : Classes (record_hash s (row_size_of d)) n classes) where
    class_member : (i : ℕ) (l : List ℕ) → i < n → ((j : ℕ) → member j l ≡ true → j < n) → member (C i) (map C l) ≡ member (row_hash d s i) (map (row_hash d s) l)
    unfolding member
    class_member i [] h f = refl
    class_member i (x ∷ l) h f =
        ap₂ (λ (a b : Bool). a || b) (k.same i x h (f x (member_here x l))) (class_member i l h (λ j m. f j (member_there j x l m)))

    -- what is known of row i when its turn comes
    pub before_row : (rules : List ℕ) (taken : List Bool) (i class : ℕ) → i < n → (i + 1) * row_size_of d ≤ length s
        → (full : ℕ)
        → length rules ≡ full
        → n ≤ full
        → ((j : ℕ) → j < i → get_or rules j 0 ≡ rule_of d s j)
        → Taken d s n classes taken i
        → class ≡ get_or classes i 0
        → Before d s i rules (get_or taken class false)
    before_row rules taken i class h inside full long room each t at =
        record {
          inside = inside;
          long = omega arith;
          each = each;
          hash =
              ap (λ (x : ℕ). get_or taken x false) at
              ∙ t (C i) (k.below i h)
              ∙ class_member i (kept_of d s i) h (λ j m. let z = kept_inside d s i j m in omega arith);
        }

    pub class_low : (i class : ℕ) → i < n → class ≡ get_or classes i 0 → class < n
    class_low i class h at = let z = k.below i h in omega arith

    -- whether a kept row has a class: none is kept yet, and one row later
    pub taken_start : (size : ℕ) → n ≤ size → Taken d s n classes (replicate size false) 0
    unfolding kept_of member
    taken_start size h c l = get_or-replicate size c false false (omega arith)

    pub taken_next : (taken : List Bool) (i class rule : ℕ) (now : Bool) → Taken d s n classes taken i → class ≡ get_or classes i 0 → class < n
        → (full : ℕ)
        → length taken ≡ full
        → n ≤ full
        → rule ≡ rule_of d s i
        → now ≡ (eqb rule 0 || get_or taken class false)
        → Taken d s n classes (set taken class now) (i + 1)
    taken_next taken i class rule now t at low full long room r e c h =
        rw (add-one i)
        (split (eqb c class)
        (λ q.
        let same = eqb-true c class q in
        ap (λ (x : ℕ). get_or (set taken class now) x false) same
        ∙ get_or-set_same taken class now false (omega arith)
        ∙ e
        ∙ ap₂ (λ (x : ℕ) (y : Bool). eqb x 0 || y) r (ap (λ (x : ℕ). get_or taken x false) (sym same) ∙ t c h)
        ∙ joined (eqb (rule_of d s i) 0) (member c (map C (kept_of d s i))) (eqb c (C i)) (eq-eqb c (C i) (same ∙ at))
        ∙ sym (next_class i c))
        (λ q.
        let other : c ≡ class → ⊥ = eqb-false c class q in
        get_or-set_other taken class c now false other
        ∙ t c h
        ∙ apart (eqb (rule_of d s i) 0) (member c (map C (kept_of d s i))) (eqb c (C i)) (ne_eqb c (C i) (λ z. other (z ∙ sym at)))
        ∙ sym (next_class i c)))
      where
        joined : (a m b : Bool) → b ≡ true → (a || m) ≡ (m || (a && b))
        joined true true b z = refl
        joined true false b z = sym z
        joined false true b z = refl
        joined false false b z = refl

        apart : (a m b : Bool) → b ≡ false → m ≡ (m || (a && b))
        apart a true b z = refl
        apart true false b z = sym z
        apart false false b z = refl
