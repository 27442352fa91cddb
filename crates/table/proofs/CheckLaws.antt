-- How a table is checked, row by row and as a whole: each law is one turn of a loop or one way through the tests, with the tests as hypotheses.
-- Last, what an accepted table has, and that a table that has it is accepted.
use Prim.Native.Nat.{ℕ, zero, suc, ◌+◌, ◌-◌, ◌*◌, ◌/◌, ◌%◌, ◌≤◌, ◌<◌}
use mathlib.Core.Bool.{Bool, true, false}
use mathlib.Core.List.{List}
use mathlib.Core.Path.{◌≡◌, sym, ◌∙◌}
use native.Mathlib.Nat.{div-add-mod', mul-lt-mul_of_pos_right}
use native.Mathlib.Numerals.{add-one}
use native.Mathlib.Omega.{arith}
use borrow.Author.Tests.{ltb-true, ltb-false, eqb-true, eqb-false, lt-ltb, le-ltb}
use lib.Dec.{ltb, eqb}
use lib.ListN.{length}
use Rattle.rules.specs.Sizes.{sizes}
use Rattle.rules.specs.declared.refusal.Refusal.TheVariants.{PastSize, BadRow}
use Rattle.rules.proofs.Cases.{split}
use Rattle.table.specs.TableBytes.{row_size_of, row_good_of, first_bad, records_checked, checked_with, table_checked_of, row_size, table_checked}
use Rattle.std.specs.Prelude.{Result, Ok, Err}
use Rattle.rules.specs.declared.refusal.Refusal.{Refusal}

-- ---- rows

module _ (good : ℕ → Bool) where
  -- the first bad one of the rows from i on
  pub testing : ℕ → ℕ → ℕ
  testing n i = first_bad good i (n - i)

  pub test_starts : (n : ℕ) → testing n 0 ≡ first_bad good 0 n
  unfolding testing
  test_starts n =
      let d : n - 0 ≡ n = omega arith in
      rw d

  pub test_fails : (n i : ℕ) → i < n → good i ≡ false → testing n i ≡ i
  unfolding testing first_bad
  test_fails n i h e =
      let d : n - i ≡ suc (n - (i + 1)) = omega arith in
      rw (d, e)

  pub test_on : (n i : ℕ) → i < n → good i ≡ true → testing n i ≡ testing n (i + 1)
  unfolding testing first_bad
  test_on n i h e =
      let d : n - i ≡ suc (n - (i + 1)) = omega arith in
      rw (d, e, add-one)

  pub test_ends : (n i : ℕ) → i ≤ n → n ≤ i → testing n i ≡ n
  unfolding testing first_bad
  test_ends n i h k =
      let d : n - i ≡ 0 = omega arith in
      rw d (omega arith)

  -- where no row is bad all are good, and the other way round
  pub first_bad_all : (i n j : ℕ) → i + n ≤ first_bad good i n → i ≤ j → j < i + n → good j ≡ true
  unfolding first_bad
  first_bad_all i zero j h l b = absurd (omega arith)
  first_bad_all i (suc n) j h l b =
      split (good i)
      (λ e.
      split (eqb i j)
      (λ q. let same : i ≡ j = eqb-true i j q in rw same at e)
      (λ q.
      let other : i ≡ j → ⊥ = eqb-false i j q in
      first_bad_all (suc i) n j (let k = rw e at h in omega (arith, k)) (omega arith) (omega arith)))
      (λ e. absurd (let k = rw e at h in omega (arith, k)))

  pub all_first_bad : (i n : ℕ) → ((j : ℕ) → i ≤ j → j < i + n → good j ≡ true) → first_bad good i n ≡ i + n
  unfolding first_bad
  all_first_bad i zero h = omega arith
  all_first_bad i (suc n) h =
      let e : suc i + n ≡ i + suc n = omega arith in
      rw (h i (omega arith) (omega arith)) (all_first_bad (suc i) n (λ j l b. h j (omega arith) (omega arith)) ∙ e)

-- ---- records

-- what accepted records have: n whole ones, all good
pub record RecordsSound (good : ℕ → Bool) (size bytes n : ℕ) : Type 0 where
  pub count : n ≡ bytes / size
  pub whole : bytes ≡ n * size
  pub each : (i : ℕ) → i < n → good i ≡ true

some_left : (r : ℕ) → (r ≡ 0 → ⊥) → 0 < r
some_left r h = omega arith

module _ (bad : ℕ → Result ℕ Refusal) (good : ℕ → Bool) (size bytes : ℕ) where
  pub records_bad : (r : ℕ) → r ≡ first_bad good 0 (bytes / size) → r < bytes / size → records_checked bad good size bytes ≡ bad r
  unfolding records_checked
  records_bad r e h = rw (← e, lt-ltb r (bytes / size) h)

  module _ (r : ℕ) (e : r ≡ first_bad good 0 (bytes / size)) (none : bytes / size ≤ r) where
    pub records_partial : (bytes % size ≡ 0 → ⊥) → records_checked bad good size bytes ≡ bad (bytes / size)
    unfolding records_checked
    records_partial h = rw (← e, le-ltb r (bytes / size) none, lt-ltb 0 (bytes % size) (some_left (bytes % size) h))

    pub records_good : bytes % size ≡ 0 → records_checked bad good size bytes ≡ Ok (bytes / size)
    unfolding records_checked
    records_good h = rw (← e, le-ltb r (bytes / size) none, le-ltb 0 (bytes % size) (omega arith))

  pub good_records : bytes % size ≡ 0 → ((i : ℕ) → i < bytes / size → good i ≡ true) → records_checked bad good size bytes ≡ Ok (bytes / size)
  good_records rest each =
      let all : first_bad good 0 (bytes / size) ≡ 0 + bytes / size = all_first_bad good 0 (bytes / size) (λ j l b. each j (omega arith)) in
      records_good (0 + bytes / size) (sym all) (omega arith) rest

  pub records_sound : ((i n : ℕ) → bad i ≡ Ok n → ⊥) → (n : ℕ) → records_checked bad good size bytes ≡ Ok n → RecordsSound good size bytes n
  unfolding records_checked
  records_sound never n a =
      split (ltb (first_bad good 0 (bytes / size)) (bytes / size))
      (λ f. absurd (never (first_bad good 0 (bytes / size)) n (rw f at a)))
      (λ f.
      let a₁ = rw f at a in
      split (ltb 0 (bytes % size))
      (λ g. absurd (never (bytes / size) n (rw g at a₁)))
      (λ g.
      let same : Ok (bytes / size) ≡ Ok n = rw g at a₁ in
      let count : n ≡ bytes / size = cc in
      let rest : bytes % size ≤ 0 = ltb-false 0 (bytes % size) g in
      let sum : bytes / size * size + bytes % size ≡ bytes = div-add-mod' bytes size in
      record {
        count = count;
        whole = rw count (omega arith);
        each =
            λ i b.
            first_bad_all good 0 (bytes / size) i (let l = ltb-false (first_bad good 0 (bytes / size)) (bytes / size) f in omega (arith, l)) (omega arith) (omega arith);
      }))

-- ---- a table

-- what an accepted table of records has: n whole records, not too many bytes, and good rows
pub record RecordsAccepted (good : ℕ → Bool) (size most bytes n : ℕ) : Type 0 where
  pub count : n ≡ bytes / size
  pub whole : bytes ≡ n * size
  pub few : bytes ≤ most * size
  pub each : (i : ℕ) → i < n → good i ≡ true

module _ (bad : ℕ → Result ℕ Refusal) (good : ℕ → Bool) (size most bytes : ℕ) where
  pub check_past : most * size < bytes → checked_with bad good size most bytes ≡ Err (PastSize 0)
  unfolding checked_with
  check_past h = rw (lt-ltb (most * size) bytes h)

  module _ (few : bytes ≤ most * size) where
    check_within : checked_with bad good size most bytes ≡ records_checked bad good size bytes
    unfolding checked_with
    check_within = rw (le-ltb (most * size) bytes few)

    pub check_bad : (r : ℕ) → r ≡ first_bad good 0 (bytes / size) → r < bytes / size → checked_with bad good size most bytes ≡ bad r
    check_bad r e h = check_within ∙ records_bad bad good size bytes r e h

    module _ (r : ℕ) (e : r ≡ first_bad good 0 (bytes / size)) (none : bytes / size ≤ r) where
      pub check_partial : (bytes % size ≡ 0 → ⊥) → checked_with bad good size most bytes ≡ bad (bytes / size)
      check_partial h = check_within ∙ records_partial bad good size bytes r e none h

      pub check_good : bytes % size ≡ 0 → checked_with bad good size most bytes ≡ Ok (bytes / size)
      check_good h = check_within ∙ records_good bad good size bytes r e none h

    pub good_is_accepted : bytes % size ≡ 0 → ((i : ℕ) → i < bytes / size → good i ≡ true) → checked_with bad good size most bytes ≡ Ok (bytes / size)
    good_is_accepted rest each = check_within ∙ good_records bad good size bytes rest each

  pub accepted : ((i n : ℕ) → bad i ≡ Ok n → ⊥) → (n : ℕ) → checked_with bad good size most bytes ≡ Ok n → RecordsAccepted good size most bytes n
  unfolding checked_with
  accepted never n a =
      split (ltb (most * size) bytes)
      (λ e. absurd (let b : Err (PastSize 0) ≡ Ok n = rw e at a in let z : ◌≡◌ {A = ℕ} 0 1 = cc in omega arith))
      (λ e.
      let s = records_sound bad good size bytes never n (rw e at a) in
      record { count = s.count; whole = s.whole; few = ltb-false (most * size) bytes e; each = s.each })

-- records of a size are no more than others if their bytes aren't
pub fewer : (n most size : ℕ) → 0 < size → n * size ≤ most * size → n ≤ most
fewer n most size h b =
    split (ltb most n)
    (λ e.
    let more : most * size < n * size = mul-lt-mul_of_pos_right (ltb-true most n e) h in
    absurd (omega arith))
    (λ e. ltb-false most n e)

-- ---- a change table

module _ (d most : ℕ) (s : List ℕ) where
  pub table_past_of : most * row_size_of d < length s → table_checked_of d most s ≡ Err (PastSize 0)
  unfolding table_checked_of
  table_past_of h = check_past _ (row_good_of d s) (row_size_of d) most (length s) h

  module _ (few : length s ≤ most * row_size_of d) where
    pub table_bad_of : (r : ℕ) → r ≡ first_bad (row_good_of d s) 0 (length s / row_size_of d) → r < length s / row_size_of d
        → table_checked_of d most s ≡ Err (BadRow r)
    unfolding table_checked_of
    table_bad_of r e h = check_bad _ (row_good_of d s) (row_size_of d) most (length s) few r e h

    module _ (r : ℕ) (e : r ≡ first_bad (row_good_of d s) 0 (length s / row_size_of d)) (none : length s / row_size_of d ≤ r) where
      pub table_partial_of : (length s % row_size_of d ≡ 0 → ⊥) → table_checked_of d most s ≡ Err (BadRow (length s / row_size_of d))
      unfolding table_checked_of
      table_partial_of h = check_partial _ (row_good_of d s) (row_size_of d) most (length s) few r e none h

      pub table_fine_of : length s % row_size_of d ≡ 0 → table_checked_of d most s ≡ Ok (length s / row_size_of d)
      unfolding table_checked_of
      table_fine_of h = check_good _ (row_good_of d s) (row_size_of d) most (length s) few r e none h

pub table_past : (s : List ℕ) → sizes.rows * row_size < length s → table_checked s ≡ Err (PastSize 0)
table_past = table_past_of sizes.dependencies sizes.rows
