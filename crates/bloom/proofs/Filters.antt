-- Filters read and written: one law for each case of the definitions; a filter that was read ends inside its part and keeps the filter rules; and
-- reading undoes writing. A filter is three numbers and a field, so the laws of numbers and of slices do the work.
use Prim.Native.Nat.{ℕ, ◌+◌, ◌-◌, ◌≤◌, ◌<◌}
use mathlib.Core.Bool.{true}
use mathlib.Core.List.{List, [], ◌∷◌, ◌++◌, append_assoc}
use mathlib.Core.Path.{◌≡◌, refl, sym, ◌∙◌, ap, ap₂}
use native.Mathlib.Omega.{arith}
use borrow.Author.Tests.{ltb-true, ltb-false, eqb-true, eqb-false, lt-ltb, le-ltb, eq-eqb, ne_eqb}
use lib.Dec.{ltb, eqb}
use lib.ListN.{length, length-append}
use lib.Seq.{slice, sets, length-slice}
use Rattle.rules.specs.Hash.{Bytes}
use Rattle.rules.specs.Sizes.{sizes}
use Rattle.rules.specs.declared.refusal.Refusal.{Refusal}
use Rattle.rules.specs.declared.refusal.Refusal.TheVariants.{Cut, PastSize, NoBits}
use Rattle.rules.proofs.Cases.{read_same, split}
use Rattle.rules.proofs.Hash.{slice_append, slice_parts}
use Rattle.wire.specs.Item.{left_at, after_number}
use Rattle.leb128.specs.Number.{shortest, number_at, most_filter, Put}
use Rattle.wire.proofs.Item.{left_is}
use Rattle.leb128.proofs.Meaning.{EndsInside, number_inside, number_most, number_written, written_number}
use Rattle.leb128.proofs.Number.{slice_past, put_joined}
use Rattle.bloom.specs.Filter.{Filter, filter_of4, field_size, filter_rules, filter_bytes, default_bits, default_probes}
use Rattle.bloom.specs.Have.{numbers_of, filter_with}
use Rattle.bloom.specs.FilterMeans.{FilterMeans}
use Rattle.bloom.specs.FilterRead.{field_at, numbers_at, filter_at}
use Rattle.bloom.specs.declared.have.FilterNumbers.{FilterNumbers}
use Rattle.bloom.proofs.Rules.{capacity_none, ruled, rules, rules_none, full_of}
use Rattle.std.specs.Prelude.{Result, Ok, Err}

no_elements : (l : List ℕ) → length l ≡ 0 → l ≡ []
no_elements [] e = refl
no_elements (x ∷ l) e = absurd (omega arith)

-- a slice in two parts
pub slice_parted : (s : List ℕ) (a b e : ℕ) → a ≤ b → b ≤ e → slice a e s ≡ slice a b s ++ slice b e s
slice_parted s a b e h l =
    let k : a + (b - a) ≡ b = omega arith in
    sym (rw k at (slice_append (b - a) a e s (omega arith)))

-- ---- the cases of reading

module _ (s : List ℕ) (at end n b p place : ℕ) where
  pub field_none : n ≡ 0 → field_at s at end n b p place ≡ Ok (numbers_of 0 b p place 0, place)
  unfolding field_at
  field_none h = rw (eq-eqb _ _ h)

  module _ (some : n ≡ 0 → ⊥) where
    pub field_no_bits : b ≡ 0 → field_at s at end n b p place ≡ Err (NoBits at)
    unfolding field_at
    field_no_bits h = rw (ne_eqb _ _ some, eq-eqb _ _ h)

    module _ (bits : b ≡ 0 → ⊥) where
      pub field_probes : sizes.probes < p → field_at s at end n b p place ≡ Err (PastSize at)
      unfolding field_at
      field_probes h = rw (ne_eqb _ _ some, ne_eqb _ _ bits, lt-ltb _ _ h)

      module _ (few : p ≤ sizes.probes) where
        pub field_large : sizes.field < field_size n b → field_at s at end n b p place ≡ Err (PastSize at)
        unfolding field_at
        field_large h = rw (ne_eqb _ _ some, ne_eqb _ _ bits, le-ltb _ _ few, lt-ltb _ _ h)

        module _ (small : field_size n b ≤ sizes.field) where
          pub field_cut : left_at s place end < field_size n b → field_at s at end n b p place ≡ Err (Cut place)
          unfolding field_at
          field_cut h = rw (ne_eqb _ _ some, ne_eqb _ _ bits, le-ltb _ _ few, le-ltb _ _ small, lt-ltb _ _ h)

          pub field_read : field_size n b ≤ left_at s place end
              → field_at s at end n b p place ≡ Ok (numbers_of n b p place (field_size n b), place + field_size n b)
          unfolding field_at
          field_read h = rw (ne_eqb _ _ some, ne_eqb _ _ bits, le-ltb _ _ few, le-ltb _ _ small, le-ltb _ _ h)

module _ (s : List ℕ) (at end : ℕ) where
  pub numbers_first : (r : Refusal) → number_at most_filter s at end ≡ Err r → numbers_at s at end ≡ Err r
  unfolding numbers_at after_number
  numbers_first r e = rw e

  module _ (n i : ℕ) (first : number_at most_filter s at end ≡ Ok (n, i)) where
    pub numbers_second : (r : Refusal) → number_at most_filter s i end ≡ Err r → numbers_at s at end ≡ Err r
    unfolding numbers_at after_number
    numbers_second r e = rw (first, e)

    module _ (b j : ℕ) (second : number_at most_filter s i end ≡ Ok (b, j)) where
      pub numbers_third : (r : Refusal) → number_at most_filter s j end ≡ Err r → numbers_at s at end ≡ Err r
      unfolding numbers_at after_number
      numbers_third r e = rw (first, second, e)

      pub numbers_read : (p place : ℕ) → number_at most_filter s j end ≡ Ok (p, place) → numbers_at s at end ≡ field_at s at end n b p place
      unfolding numbers_at after_number
      numbers_read p place e = rw (first, second, e)

  pub filter_default : left_at s at end ≡ 0 → filter_at s at end ≡ Ok (numbers_of 0 default_bits default_probes at 0, at)
  unfolding filter_at
  filter_default h = rw (eq-eqb _ _ h)

  pub filter_numbers_lem : (left_at s at end ≡ 0 → ⊥) → filter_at s at end ≡ numbers_at s at end
  unfolding filter_at
  filter_numbers_lem h = rw (ne_eqb _ _ h)

-- ---- what stands behind a filter that was read

-- The field: what was read is what it was handed, its size is the one that the numbers give, and the bytes were there.
record FieldRead (s : List ℕ) (end n b p place : ℕ) (f : FilterNumbers) (next : ℕ) : Type 0 where
  is : numbers_of n b p place (field_size n b) ≡ f
  whole : next ≡ place + field_size n b
  there : field_size n b ≤ left_at s place end
  some_bits : 0 < n → 0 < b
  few_probes : 0 < n → p ≤ sizes.probes
  small : field_size n b ≤ sizes.field

never : {A : Type 0} (r : Refusal) (f : FilterNumbers) (next : ℕ) → ◌≡◌ {A = Result (FilterNumbers × ℕ) Refusal} (Err r) (Ok (f, next)) → A
never r f next e = absurd (let z : ◌≡◌ {A = ℕ} 0 1 = cc in omega arith)

field_apart : (s : List ℕ) (at end n b p place : ℕ) (f : FilterNumbers) (next : ℕ) → field_at s at end n b p place ≡ Ok (f, next)
    → FieldRead s end n b p place f next
field_apart s at end n b p place f next e =
    split (eqb n 0)
    (λ t0.
    let none : n ≡ 0 = eqb-true _ _ t0 in
    let q = read_same (sym (field_none s at end n b p place none) ∙ e) in
    let same : numbers_of 0 b p place 0 ≡ f = q.0 in
    let x : place ≡ next = q.1 in
    let c : field_size n b ≡ 0 = rw none (capacity_none b) in
    record {
      is = ap₂ (λ (k l : ℕ). numbers_of k b p place l) none c ∙ same;
      whole = omega arith;
      there = omega arith;
      some_bits = λ h. absurd (omega arith);
      few_probes = λ h. absurd (omega arith);
      small = omega arith;
    })
    (λ t0.
    let some = eqb-false _ _ t0 in
    split (eqb b 0)
    (λ t1. never _ _ _ (sym (field_no_bits s at end n b p place some (eqb-true _ _ t1)) ∙ e))
    (λ t1.
    let bits = eqb-false _ _ t1 in
    split (ltb sizes.probes p)
    (λ t2. never _ _ _ (sym (field_probes s at end n b p place some bits (ltb-true _ _ t2)) ∙ e))
    (λ t2.
    let few = ltb-false _ _ t2 in
    split (ltb sizes.field (field_size n b))
    (λ t3. never _ _ _ (sym (field_large s at end n b p place some bits few (ltb-true _ _ t3)) ∙ e))
    (λ t3.
    let small = ltb-false _ _ t3 in
    split (ltb (left_at s place end) (field_size n b))
    (λ t4. never _ _ _ (sym (field_cut s at end n b p place some bits few small (ltb-true _ _ t4)) ∙ e))
    (λ t4.
    let fits = ltb-false _ _ t4 in
    let q = read_same (sym (field_read s at end n b p place some bits few small fits) ∙ e) in
    let x : place + field_size n b ≡ next = q.1 in
    record {
      is = q.0;
      whole = omega arith;
      there = fits;
      some_bits = λ h. omega arith;
      few_probes = λ h. few;
      small = small;
    })))))

-- The three numbers, one after the other.
record NumbersRead (s : List ℕ) (at end n b p place : ℕ) : Type 0 where
  i : ℕ
  j : ℕ
  first : number_at most_filter s at end ≡ Ok (n, i)
  second : number_at most_filter s i end ≡ Ok (b, j)
  third : number_at most_filter s j end ≡ Ok (p, place)

-- Both, of a filter.
record FilterRead (s : List ℕ) (at end : ℕ) (f : FilterNumbers) (next : ℕ) : Type 0 where
  numbers : NumbersRead s at end f.entries f.bits f.probes f.place
  field : FieldRead s end f.entries f.bits f.probes f.place f next
  sized : f.size ≡ field_size f.entries f.bits

module _ (s : List ℕ) (at end : ℕ) (f : FilterNumbers) (next : ℕ) where
  numbers_apart : numbers_at s at end ≡ Ok (f, next) → FilterRead s at end f next
  numbers_apart e = one (number_at most_filter s at end) refl
    where
      three : (n i b j : ℕ)
          → number_at most_filter s at end ≡ Ok (n, i)
          → number_at most_filter s i end ≡ Ok (b, j)
          → (x : Result (ℕ × ℕ) Refusal) → number_at most_filter s j end ≡ x
          → FilterRead s at end f next
      three n i b j k g (Ok (p, place)) h =
          let r = field_apart s at end n b p place f next (sym (numbers_read s at end n i k b j g p place h) ∙ e) in
          let en : n ≡ f.entries = ap (λ (x : FilterNumbers). x.entries) r.is in
          let eb : b ≡ f.bits = ap (λ (x : FilterNumbers). x.bits) r.is in
          let ep : p ≡ f.probes = ap (λ (x : FilterNumbers). x.probes) r.is in
          let ef : place ≡ f.place = ap (λ (x : FilterNumbers). x.place) r.is in
          let es : field_size n b ≡ f.size = ap (λ (x : FilterNumbers). x.size) r.is in
          record {
            numbers = record { i = i; j = j; first = rw en at k; second = rw eb at g; third = rw (ep, ef) at h };
            field = rw (en, eb, ep, ef) at r;
            sized = sym (rw (en, eb) at es);
          }
      three n i b j k g (Err r) h = never _ _ _ (sym (numbers_third s at end n i k b j g r h) ∙ e)

      two : (n i : ℕ) → number_at most_filter s at end ≡ Ok (n, i) → (x : Result (ℕ × ℕ) Refusal) → number_at most_filter s i end ≡ x → FilterRead s at end f next
      two n i k (Ok (b, j)) g = three n i b j k g (number_at most_filter s j end) refl
      two n i k (Err r) g = never _ _ _ (sym (numbers_second s at end n i k r g) ∙ e)

      one : (x : Result (ℕ × ℕ) Refusal) → number_at most_filter s at end ≡ x → FilterRead s at end f next
      one (Ok (n, i)) k = two n i k (number_at most_filter s i end) refl
      one (Err r) k = never _ _ _ (sym (numbers_first s at end r k) ∙ e)

  -- A filter read from no bytes is the default; any other is three numbers and a field.
  filter_apart : {A : Type 0} → filter_at s at end ≡ Ok (f, next)
      → (left_at s at end ≡ 0 → numbers_of 0 default_bits default_probes at 0 ≡ f → at ≡ next → A)
      → (0 < left_at s at end → FilterRead s at end f next → A)
      → A
  filter_apart e default numbers =
      split (eqb (left_at s at end) 0)
      (λ t.
      let none = eqb-true _ _ t in
      let q = read_same (sym (filter_default s at end none) ∙ e) in
      default none q.0 q.1)
      (λ t.
      let some = eqb-false _ _ t in
      numbers (omega arith) (numbers_apart (sym (filter_numbers_lem s at end some) ∙ e)))

-- ---- where a filter ends

-- The field stands up to the next place. A filter ends where its part does, or before; and one that has bytes ends after its place.
pub record FilterInside (s : List ℕ) (at end : ℕ) (f : FilterNumbers) (next : ℕ) : Type 0 where
  pub whole : next ≡ f.place + f.size
  pub onward : at ≤ f.place
  pub up_to : at ≤ end → next ≤ end
  pub there : at ≤ length s → next ≤ length s
  pub read : 0 < left_at s at end → EndsInside s at end next
  pub filled : 0 < f.size → EndsInside s at end next

module _ (s : List ℕ) (at end : ℕ) (f : FilterNumbers) (next : ℕ) (e : filter_at s at end ≡ Ok (f, next)) where
  pub filter_inside : FilterInside s at end f next
  filter_inside =
      filter_apart s at end f next e
      (λ none same x.
      let k : at ≡ f.place = ap (λ (y : FilterNumbers). y.place) same in
      let l : 0 ≡ f.size = ap (λ (y : FilterNumbers). y.size) same in
      record {
        whole = omega arith;
        onward = omega arith;
        up_to = λ h. omega arith;
        there = λ h. omega arith;
        read = λ h. absurd (omega arith);
        filled = λ h. absurd (omega arith);
      })
      (λ some r.
      let k = r.numbers in
      let i1 = number_inside most_filter s at end f.entries k.i k.first in
      let i2 = number_inside most_filter s k.i end f.bits k.j k.second in
      let i3 = number_inside most_filter s k.j end f.probes f.place k.third in
      let l = left_is s f.place end in
      let w : next ≡ f.place + f.size = omega (arith, r.field.whole, r.sized) in
      let t : f.size ≤ left_at s f.place end = omega (arith, r.field.there, r.sized) in
      let inside : EndsInside s at end next = record { after = omega arith; up_to = omega arith; there = omega arith } in
      record {
        whole = w;
        onward = omega arith;
        up_to = λ h. inside.up_to;
        there = λ h. inside.there;
        read = λ h. inside;
        filled = λ h. inside;
      })

  -- ---- a filter that was read keeps the rules

  pub filter_ruled : Bytes s → filter_rules f.entries f.bits f.probes f.size ≡ true
  filter_ruled all =
      filter_apart s at end f next e
      (λ none same x. rw (← same) (rules_none default_bits default_probes (omega arith) (omega arith)))
      (λ some r.
      let k = r.numbers in
      let m1 = number_most most_filter s at end f.entries k.i all k.first in
      let m2 = number_most most_filter s k.i end f.bits k.j all k.second in
      let m3 = number_most most_filter s k.j end f.probes f.place all k.third in
      let l = r.field in
      rules f.entries f.bits f.probes f.size
      (record {
        entries = m1;
        bits = m2;
        probes = m3;
        size = r.sized;
        full =
            λ h. full_of f.entries f.bits f.probes f.size h (l.some_bits h) (l.few_probes h) r.sized (omega (arith, l.small, r.sized));
      }))

  -- ---- what its bytes mean

  pub filter_means : Bytes s → at ≤ end → end ≤ length s → FilterMeans (slice at end s) (filter_with s f)
  unfolding left_at filter_with
  filter_means all h l =
      filter_apart s at end f next e
      (λ none same x. FilterMeans.none (no_elements _ none) (rw (← same) (ap (filter_of4 0 default_bits default_probes) (slice_past s at (at + 0) (omega arith)))))
      (λ some r.
      let k = r.numbers in
      let inside = filter_inside in
      let ends = inside.whole in
      let i1 = number_inside most_filter s at end f.entries k.i k.first in
      let i2 = number_inside most_filter s k.i end f.bits k.j k.second in
      let i3 = number_inside most_filter s k.j end f.probes f.place k.third in
      let up : next ≤ end = inside.up_to h in
      let last : f.place + f.size ≤ end = omega arith in
      let p1 = slice_parted s at k.i end (omega arith) (omega arith) in
      let p2 = slice_parted s k.i k.j end (omega arith) (omega arith) in
      let p3 = slice_parted s k.j f.place end (omega arith) (omega arith) in
      let p4 = slice_parted s f.place (f.place + f.size) end (omega arith) last in
      let w1 = written_number most_filter s at end f.entries k.i all k.first in
      let w2 = written_number most_filter s k.i end f.bits k.j all k.second in
      let w3 = written_number most_filter s k.j end f.probes f.place all k.third in
      let long : length (slice f.place (f.place + f.size) s) ≡ f.size =
      length-slice f.place (f.place + f.size) s (omega arith) ∙ omega arith
      in
      FilterMeans.said (slice (f.place + f.size) end s) (rw (p1, w1, p2, w2, p3, w3, p4)) (rw long (filter_ruled all)))

-- ---- the bytes of a filter

module _ (n b p : ℕ) (field : List ℕ) where
  pub no_bytes : n ≡ 0 → filter_bytes (filter_of4 n b p field) ≡ []
  unfolding filter_bytes
  no_bytes h = rw (eq-eqb _ _ h)

  module _ (some : n ≡ 0 → ⊥) where
    pub all_bytes : filter_bytes (filter_of4 n b p field) ≡ shortest n ++ (shortest b ++ (shortest p ++ field))
    unfolding filter_bytes
    all_bytes = rw (ne_eqb _ _ some)

    pub bytes_length : length (filter_bytes (filter_of4 n b p field)) ≡ length (shortest n) + length (shortest b) + length (shortest p) + length field
    bytes_length = rw all_bytes (simp length-append (omega arith))

-- ---- writing, then reading

-- A number that was written is read, and what follows it stands after it.
number_off : (s body rest : List ℕ) (at end n : ℕ) → n ≤ most_filter → slice at end s ≡ (shortest n ++ body) ++ rest
    → (number_at most_filter s at end ≡ Ok (n, at + length (shortest n))) × (slice (at + length (shortest n)) end s ≡ body ++ rest)
number_off s body rest at end n small same =
    let first : slice at end s ≡ shortest n ++ (body ++ rest) = same ∙ append_assoc (shortest n) body rest in
    let number = number_written most_filter s at end n (body ++ rest) small first in
    let inside = number_inside most_filter s at end n (at + length (shortest n)) number in
    (number, (slice_parts (length (shortest n)) at end s (shortest n) (body ++ rest) inside.up_to refl first).1)

pub filter_written : (s rest : List ℕ) (at end : ℕ) (f : Filter)
    → filter_rules f.entries f.bits f.probes (length f.field) ≡ true
    → 0 < f.entries
    → slice at end s ≡ filter_bytes f ++ rest
    → let place = at + length (shortest f.entries) + length (shortest f.bits) + length (shortest f.probes) in
    let next = place + length f.field in
    (filter_at s at end ≡ Ok (numbers_of f.entries f.bits f.probes place (length f.field), next)) × (slice place next s ≡ f.field)
unfolding left_at
filter_written s rest at end f keeps entries same =
    let n = f.entries in
    let b = f.bits in
    let p = f.probes in
    let field = f.field in
    let r = ruled n b p (length field) keeps in
    let full = r.full entries in
    let some : n ≡ 0 → ⊥ = omega arith in
    let bits : b ≡ 0 → ⊥ = omega arith in
    let bytes = rw (all_bytes n b p field some) at same in
    let one = number_off s (shortest b ++ (shortest p ++ field)) rest at end n r.entries bytes in
    let i : ℕ = at + length (shortest n) in
    let two = number_off s (shortest p ++ field) rest i end b r.bits one.1 in
    let j : ℕ = i + length (shortest b) in
    let three = number_off s field rest j end p r.probes two.1 in
    let place : ℕ = j + length (shortest p) in
    let inside = number_inside most_filter s at end n i one.0 in
    let held : length field ≤ left_at s place end = rw three.1 (omega (arith, length-append field rest)) in
    let room : place + length field ≤ end = omega (arith, left_is s place end, number_inside most_filter s j end p place three.0) in
    let there : left_at s at end ≡ 0 → ⊥ = omega (arith, left_is s at end) in
    let sized : field_size n b ≡ length field = sym r.size in
    let read = filter_numbers_lem s at end there ∙ numbers_read s at end n i one.0 b j two.0 p place three.0 in
    let last =
    rw sized at
    (field_read s at end n b p place some bits full.few_probes (omega arith) (omega arith))
    in
    (read ∙ last, (slice_parts (length field) place end s field rest room refl three.1).0)

pub default_written : (s : List ℕ) (at end : ℕ) → slice at end s ≡ [] → filter_at s at end ≡ Ok (numbers_of 0 default_bits default_probes at 0, at)
unfolding left_at
default_written s at end e = filter_default s at end (ap length e)

-- ---- putting the parts

pub put_nothing : (out : List ℕ) (at n b p : ℕ) (field : List ℕ) → n ≡ 0 → Put out out at (filter_bytes (filter_of4 n b p field)) at
put_nothing out at n b p field h = rw (no_bytes n b p field h) (record { place = omega arith; content = refl })

pub put_parts : (o₁ o₂ o₃ o₄ o₅ : List ℕ) (at i j k n b p : ℕ) (field : List ℕ)
    → (n ≡ 0 → ⊥)
    → Put o₁ o₂ at (shortest n) i
    → Put o₂ o₃ i (shortest b) j
    → Put o₃ o₄ j (shortest p) k
    → o₅ ≡ sets o₄ k field
    → Put o₁ o₅ at (filter_bytes (filter_of4 n b p field)) (k + length field)
put_parts o₁ o₂ o₃ o₄ o₅ at i j k n b p field some x y z e =
    let w : Put o₄ o₅ k field (k + length field) = record { place = refl; content = e } in
    let q = put_joined o₃ o₄ o₅ j k _ (shortest p) field z w in
    let r = put_joined o₂ o₃ o₅ i j _ (shortest b) _ y q in
    rw (all_bytes n b p field some) (put_joined o₁ o₂ o₅ at i _ (shortest n) _ x r)
