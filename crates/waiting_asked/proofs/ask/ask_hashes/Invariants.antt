-- `waiting_asked::ask::ask_hashes` meets its contract: whatever the rest of the list leads to, the whole list leads to from the start. Assumes nothing.
use Prim.Native.Nat.{◌+◌, ◌-◌, ◌*◌}
use mathlib.Core.Bool.{Bool}
use mathlib.Core.List.{List}
use mathlib.Core.Path.{◌≡◌}
use lib.ListN.{length}
use Rattle.rules.specs.Hash.{hashes_at}
use Rattle.rules.specs.Sizes.{sizes}
use Rattle.waiting.specs.WaitingBytes.{waitings_at}
use Rattle.waiting_asked.specs.Asking.{Request, Asks}
use Rattle.waiting_asked.proofs.ask.ask_hashes.Given as goal

abbrev pub invariant-loop-i : goal.invariant-loop-i
invariant-loop-i l =
    record {
      same_marks : length l.marks ≡ length l.initial.marks;
      rest : (marks' : List Bool)
          → Asks (waitings_at l.waiting 0 l.m) (Request.list (hashes_at l.bytes (l.place + sizes.hash * l.i) (l.entries - l.i))) l.marks marks'
          → Asks (waitings_at l.waiting 0 l.m) (Request.list (hashes_at l.bytes l.place l.entries)) l.initial.marks marks';
    }
