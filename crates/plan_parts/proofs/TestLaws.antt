-- Tests in turn: both of two, and silence; a law for each way through them.
use mathlib.Core.Bool.{Bool, true, false, ◌&&◌, ◌||◌}
use mathlib.Core.Path.{◌≡◌, refl, sym}
use Rattle.rules.proofs.Cases.{or_right, and_false}

-- ---- both of two

pub first_fails : (x y : Bool) → x ≡ false → false ≡ (x && y)
first_fails x y e = rw e

pub second_decides : (x y : Bool) → x ≡ true → y ≡ (x && y)
second_decides x y e = rw e

-- ---- silence

last : (x : Bool) → x ≡ ((x && true) || false)
last true = refl
last false = refl

module _ (told equal readOnlyUnit nothing in_flight : Bool) where
  abbrev quiet : Bool
  quiet = told && (((equal || readOnlyUnit) && nothing) || in_flight)

  pub quiet_untold : told ≡ false → false ≡ quiet
  quiet_untold e = rw e

  module _ (t : told ≡ true) where
    pub quiet_waiting : in_flight ≡ true → true ≡ quiet
    quiet_waiting e = rw (t, e) (sym (or_right ((equal || readOnlyUnit) && nothing) true refl))

    module _ (f : in_flight ≡ false) where
      pub quiet_not : nothing ≡ false → false ≡ quiet
      quiet_not e = rw (t, f, e, and_false (equal || readOnlyUnit))

      module _ (n : nothing ≡ true) where
        pub quiet_equal : equal ≡ true → true ≡ quiet
        quiet_equal e = rw (t, f, n, e)

        pub quiet_decides : equal ≡ false → readOnlyUnit ≡ quiet
        quiet_decides e = rw (t, f, n, e) (last readOnlyUnit)
