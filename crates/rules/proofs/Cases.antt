-- Taking tests apart with the scrutinee first, so that each arm has its equation.
use Prim.Native.Nat.{ℕ}
use mathlib.Core.Bool.{Bool, true, false, ◌&&◌, ◌||◌}
use mathlib.Core.Path.{◌≡◌, refl, sym, ap}
use Rattle.std.specs.Prelude.{Result, Ok, Err, IsErrAnd}
use Rattle.std.proofs.lemmas.Result.{err_from_is_err_and}
use native.Mathlib.Omega.{arith}

pub split {ℓ} : {C : Type ℓ} (t : Bool) → (t ≡ true → C) → (t ≡ false → C) → C
split true f g = f refl
split false f g = g refl

-- Read values are the same where their parts are.
pub read_same : {A B E : Type 0} {a c : A} {b d : B} → ◌≡◌ {A = Result (A × B) E} (Ok (a, b)) (Ok (c, d)) → (a ≡ c) × (b ≡ d)
read_same {A} {B} {E} {a} {c} {b} {d} e = let q : ◌≡◌ {A = A × B} (a, b) (c, d) = cc in (ap (λ p. p.0) q, ap (λ p. p.1) q)

-- What a `?` hands on is the callee's refusal.
pub handed_on : {T E : Type 0} {e : E} {r : Result T E} → IsErrAnd r (λ d. d ≡ e) → r ≡ Err e
handed_on {T} {E} {e} {r} h = let p = err_from_is_err_and r h in rw (p.1, p.2)

pub both : (x y : Bool) → (x && y) ≡ true → (x ≡ true) × (y ≡ true)
both true y e = (refl, e)
both false y e = absurd (let z : ◌≡◌ {A = ℕ} 0 1 = cc in omega arith)

pub other : (x y : Bool) → (x || y) ≡ true → x ≡ false → y ≡ true
other x y e f = rw f at e

pub true_false : (x : Bool) → x ≡ true → x ≡ false → ⊥
true_false x p q = let z : ◌≡◌ {A = ℕ} 0 1 = cc in omega arith

-- Two tests are the same if each passes where the other does.
pub same_truth : (x y : Bool) → (x ≡ true → y ≡ true) → (y ≡ true → x ≡ true) → x ≡ y
same_truth true y f g = sym (f refl)
same_truth false true f g = g refl
same_truth false false f g = refl

pub either : {C : Type 0} (x y : Bool) → (x || y) ≡ true → (x ≡ true → C) → (y ≡ true → C) → C
either true y e f g = f refl
either false y e f g = g e

pub or_left : (x y : Bool) → x ≡ true → (x || y) ≡ true
or_left x y e = rw e

pub or_right : (x y : Bool) → y ≡ true → (x || y) ≡ true
or_right true y e = refl
or_right false y e = e

pub and_true : (x y : Bool) → x ≡ true → y ≡ true → (x && y) ≡ true
and_true x y p q = rw (p, q)

pub and_false : (x : Bool) → (x && false) ≡ false
and_false true = refl
and_false false = refl
