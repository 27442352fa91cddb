-- The tests of a session, one law for each way through them.
use Prim.Native.Nat.{ℕ, zero, suc, ◌+◌, ◌-◌, ◌*◌, ◌≤◌, ◌<◌}
use mathlib.Core.Bool.{Bool, true, false}
use mathlib.Core.List.{List, ◌∷◌}
use mathlib.Core.Path.{◌≡◌, refl}
use native.Mathlib.Omega.{arith}
use borrow.Author.Tests.{lt-leb, le-leb}
use lib.Dec.{leb, ltb}
use lib.ListN.{length}
use Rattle.bloom.specs.Have.{have_words, passed_good, passed_few}
use Rattle.hash_order.specs.Order.{ascends}
use Rattle.rules.specs.Hash.{hash_at, hashes_at}
use Rattle.rules.specs.Sizes.{sizes}
use Rattle.session_state.specs.Value.{Lent, kept_haves}
use Rattle.session_state.specs.declared.session.Session.{Session}
use Rattle.session_check.specs.SessionGood.{list_good, heard_good, haves_good, sent_good, session_good}
use Rattle.std.specs.Prelude.{Option, Some, None}

-- ---- a list

module _ (s : List ℕ) (count : ℕ) where
  pub list_many : sizes.hashes < count → list_good s count ≡ false
  unfolding list_good
  list_many h = rw (lt-leb count sizes.hashes h)

  pub list_where : count ≤ sizes.hashes → list_good s count ≡ leb (sizes.hash * count) (length s)
  unfolding list_good
  list_where h = rw (le-leb count sizes.hashes h)

pub heard_nothing : (s : List ℕ) (h : Option ℕ) → h ≡ None → heard_good s h ≡ true
unfolding heard_good
heard_nothing s h e = rw e

pub heard_count_lem : (s : List ℕ) (h : Option ℕ) (n : ℕ) → h ≡ Some n → heard_good s h ≡ list_good s n
unfolding heard_good
heard_count_lem s h n e = rw e

-- ---- kept haves

module _ (s haves : List ℕ) (h : Option ℕ) where
  pub haves_nothing : h ≡ None → haves_good s haves h ≡ true
  unfolding haves_good
  haves_nothing e = rw e

  module _ (n : ℕ) (is : h ≡ Some n) where
    pub haves_many : sizes.haves < n → haves_good s haves h ≡ false
    unfolding haves_good
    haves_many m = rw (is, lt-leb n sizes.haves m)

    module _ (few : n ≤ sizes.haves) where
      pub haves_short : length haves < have_words * n → haves_good s haves h ≡ false
      unfolding haves_good
      haves_short m = rw (is, le-leb n sizes.haves few, lt-leb (have_words * n) (length haves) m)

      module _ (there : have_words * n ≤ length haves) where
        pub haves_bad : passed_good s (kept_haves haves n) ≡ false → haves_good s haves h ≡ false
        unfolding haves_good
        haves_bad e = rw (is, le-leb n sizes.haves few, le-leb (have_words * n) (length haves) there, e)

        pub syncs_decide : passed_good s (kept_haves haves n) ≡ true → haves_good s haves h ≡ passed_few (kept_haves haves n)
        unfolding haves_good
        syncs_decide e = rw (is, le-leb n sizes.haves few, le-leb (have_words * n) (length haves) there, e)

-- ---- sent hashes

one_ascends : (s : List ℕ) (place n : ℕ) → n ≤ 1 → ascends (hashes_at s place n) ≡ true
unfolding hashes_at ascends
one_ascends s place zero h = refl
one_ascends s place (suc zero) h = refl
one_ascends s place (suc (suc n)) h = absurd (omega arith)

-- a hash that is less than the next one leaves it to the rest
climbed : (x y : ℕ) (ys : List ℕ) → ltb x y ≡ true → ascends (x ∷ y ∷ ys) ≡ ascends (y ∷ ys)
unfolding ascends
climbed x y ys e = rw e

module _ (s : List ℕ) (count : ℕ) where
  -- whether the hashes from the one before number i on ascend
  pub climbing : ℕ → Bool
  climbing i = ascends (hashes_at s (sizes.hash * (i - 1)) (count - (i - 1)))

  pub climbing_starts : climbing 1 ≡ ascends (hashes_at s 0 count)
  unfolding climbing
  climbing_starts =
      let d : count - 0 ≡ count = omega arith in
      rw d

  module _ (i : ℕ) (behind : 1 ≤ i) where
    pub climbing_fails : i < count → ltb (hash_at s (sizes.hash * (i - 1))) (hash_at s (sizes.hash * i)) ≡ false → climbing i ≡ false
    unfolding climbing hashes_at ascends
    climbing_fails l e =
        let d : count - (i - 1) ≡ suc (suc (count - (i + 1))) = omega arith in
        let next : sizes.hash * (i - 1) + sizes.hash ≡ sizes.hash * i = omega arith in
        rw (d, next, e)

    pub climbing_on : i < count → ltb (hash_at s (sizes.hash * (i - 1))) (hash_at s (sizes.hash * i)) ≡ true → climbing i ≡ climbing (i + 1)
    unfolding climbing hashes_at
    climbing_on l e =
        let d : count - (i - 1) ≡ suc (suc (count - (i + 1))) = omega arith in
        let here : i + 1 - 1 ≡ i = omega arith in
        let f : count - i ≡ suc (count - (i + 1)) = omega arith in
        let next : sizes.hash * (i - 1) + sizes.hash ≡ sizes.hash * i = omega arith in
        rw (d, here, f, next) (climbed _ _ _ e)

    pub climbing_ends : count ≤ i → climbing i ≡ true
    unfolding climbing
    climbing_ends l = one_ascends s (sizes.hash * (i - 1)) (count - (i - 1)) (omega arith)

  pub sent_many : sizes.sent_hashes < count → sent_good s count ≡ false
  unfolding sent_good
  sent_many h = rw (lt-leb count sizes.sent_hashes h)

  pub sent_short : count ≤ sizes.sent_hashes → length s < sizes.hash * count → sent_good s count ≡ false
  unfolding sent_good
  sent_short f h = rw (le-leb count sizes.sent_hashes f, lt-leb (sizes.hash * count) (length s) h)

  pub sent_there : count ≤ sizes.sent_hashes → sizes.hash * count ≤ length s → sent_good s count ≡ ascends (hashes_at s 0 count)
  unfolding sent_good
  sent_there f h = rw (le-leb count sizes.sent_hashes f, le-leb (sizes.hash * count) (length s) h)

-- ---- the session

module _ (s : Session) (l : Lent) where
  pub bad_shared : list_good l.shared s.shared_heads ≡ false → session_good s l ≡ false
  unfolding session_good
  bad_shared e = rw e

  module _ (a : list_good l.shared s.shared_heads ≡ true) where
    pub bad_last_sent : list_good l.last_sent s.last_sent_heads ≡ false → session_good s l ≡ false
    unfolding session_good
    bad_last_sent e = rw (a, e)

    module _ (b : list_good l.last_sent s.last_sent_heads ≡ true) where
      pub bad_heads : heard_good l.their_heads s.their_heads ≡ false → session_good s l ≡ false
      unfolding session_good
      bad_heads e = rw (a, b, e)

      module _ (c : heard_good l.their_heads s.their_heads ≡ true) where
        pub bad_need : heard_good l.their_need s.their_need ≡ false → session_good s l ≡ false
        unfolding session_good
        bad_need e = rw (a, b, c, e)

        module _ (d : heard_good l.their_need s.their_need ≡ true) where
          pub bad_haves : haves_good l.bytes l.haves s.their_have ≡ false → session_good s l ≡ false
          unfolding session_good
          bad_haves e = rw (a, b, c, d, e)

          module _ (f : haves_good l.bytes l.haves s.their_have ≡ true) where
            pub bad_sent : sent_good l.sent s.sent_hashes ≡ false → session_good s l ≡ false
            unfolding session_good
            bad_sent e = rw (a, b, c, d, f, e)

            pub all_good : sent_good l.sent s.sent_hashes ≡ true → session_good s l ≡ true
            unfolding session_good
            all_good e = rw (a, b, c, d, f, e)
