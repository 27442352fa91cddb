-- 01, How tightly the statements bind: whatever a call is handed, its contract has one result and one content of what is lent to it.
use Rattle.std.specs.Prelude.{◌≡◌}
use contract.Lifetimes.{Lfts}
use denote.Triple.Clauses.{Ended, Lasts, AtExit, at_exit}
use denote.Triple.Entry.{Args, Res}

-- A signature f, and what a contract says of arguments, result and arguments at exit. Two results, and the last values of what was lent, that both meet it
-- are equal.
abbrev pub Binds : (f : Ended) → ((κs : Lfts f.signature.lifetimes) → Args f.signature κs → Res f.signature κs → AtExit f κs → Type 0) → Type 0
Binds f post =
    (κs : Lfts f.signature.lifetimes) (a : Args f.signature κs) (x y : Res f.signature κs) (u v : Lasts f κs a)
    → post κs a x (at_exit f κs a u)
    → post κs a y (at_exit f κs a v)
    → (x ≡ y) × (u ≡ v)
