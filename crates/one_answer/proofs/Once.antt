-- What every line of the lists cites: two things that are equal to a third are equal, and pairs are equal where both parts are. Assumes nothing.
use mathlib.Core.Path.{◌≡◌, refl, sym, ap₂, ◌∙◌}

pub once : {A : Type 0} {x y d : A} → x ≡ d → y ≡ d → x ≡ y
once p q = p ∙ sym q

pub joined : {A B : Type 0} {p q : A × B} → p.0 ≡ q.0 → p.1 ≡ q.1 → p ≡ q
joined {A} {B} e f = ap₂ (λ (a : A) (b : B). (a, b)) e f

-- nothing is lent by the first of them
pub skip : {B : Type 0} {p q : Unit {0} × B} → p.1 ≡ q.1 → p ≡ q
skip e = joined refl e
