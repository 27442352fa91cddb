-- What `map_err` leaves: where there is a value there was one, and a refusal is the one that the error becomes.
use Prim.Native.Nat.{ℕ}
use mathlib.Core.Path.{◌≡◌, refl}
use native.Mathlib.Omega.{arith}
use Rattle.std.specs.Prelude.{Result, Ok, Err, MatchResult, IsErrAnd}

module _ {A E F : Type 0} (f : E → F) where
  abbrev pub Mapped : Result A E → Result A F → Type 0
  Mapped p r = MatchResult p (λ x. r ≡ Ok x) (λ e. IsErrAnd r (λ d. d ≡ f e))

  pub mapped_ok : (p : Result A E) {x : A} → Mapped p (Ok x) → p ≡ Ok x
  mapped_ok (Ok y) {x} h = let q : x ≡ y = cc in rw q
  mapped_ok (Err e) {x} h = absurd h

  pub record WasErr (p : Result A E) (d : F) : Type 0 where
    pub error : E
    pub is : p ≡ Err error
    pub refusal : d ≡ f error

  pub mapped_err : (p : Result A E) {d : F} → Mapped p (Err d) → WasErr p d
  mapped_err (Ok y) {d} h = absurd (let z : ◌≡◌ {A = ℕ} 0 1 = cc in omega arith)
  mapped_err (Err e) {d} h = record { error = e; is = refl; refusal = h }
