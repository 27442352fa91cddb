-- What is said of an exported call is what its contract says. 01, The catch-up walk, speaks of the session calls: so no statement of them may rest on reading a
-- contract beside it.
use contract.Lifetimes.{Lfts}
use denote.Triple.Clauses.{Ended, Lasts, AtExit, at_exit}
use denote.Triple.Entry.{Args, Res}

-- A signature f, what its contract says of arguments, result and arguments at exit, and what is said of the arguments in the order in which C lends them, at
-- entry and at exit: whatever the call is handed, the contract gives what is said.
abbrev pub Ties : (f : Ended)
    → ((κs : Lfts f.signature.lifetimes) → Args f.signature κs → Res f.signature κs → AtExit f κs → Type 0)
    → ((κs : Lfts f.signature.lifetimes) → Args f.signature κs → AtExit f κs → Type 0)
    → Type 0
Ties f post said =
    (κs : Lfts f.signature.lifetimes) (a : Args f.signature κs) (x : Res f.signature κs) (u : Lasts f κs a)
    → post κs a x (at_exit f κs a u)
    → said κs a (at_exit f κs a u)
