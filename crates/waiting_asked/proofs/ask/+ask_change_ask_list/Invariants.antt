-- The measure of the cycle {ask_change, ask_list} is twice the number of unmarked rows, and one more for a list: a change marks its row before it asks
-- its list, and no call takes a mark off. ask_list's loop has for its invariant that whatever the rest of the list leads to, the whole list leads to
-- from the start.
use Prim.Native.Nat.{suc, ◌+◌, ◌-◌, ◌*◌, ◌≤◌}
use mathlib.Core.Bool.{Bool}
use mathlib.Core.List.{List}
use mathlib.Core.Path.{◌≡◌}
use lib.ListN.{length}
use Rattle.rules.specs.Hash.{hashes_at}
use Rattle.rules.specs.Sizes.{sizes}
use Rattle.waiting.specs.WaitingBytes.{waitings_at}
use Rattle.waiting.specs.Waiting.{asks_of}
use Rattle.waiting_asked.specs.Asking.{Request, Asks}
use Rattle.waiting_asked.proofs.AskLaws.{unmarked}
use Rattle.waiting_asked.proofs.ask.+ask_change_ask_list.Given as goal

abbrev pub decreases-ask_change : goal.decreases-ask_change
decreases-ask_change l = 2 * unmarked l.marks.now

abbrev pub decreases-ask_list : goal.decreases-ask_list
decreases-ask_list l = suc (2 * unmarked l.marks.now)

abbrev pub invariant-ask_list-loop-i : goal.invariant-ask_list-loop-i
invariant-ask_list-loop-i l =
    record {
      same_marks : length l.marks ≡ length l.initial.marks;
      less : unmarked l.marks ≤ unmarked l.initial.marks;
      rest : (marks' : List Bool)
          → Asks (waitings_at l.waiting 0 l.m) (Request.list (hashes_at l.waiting (l.place + sizes.hash * l.i) (l.entries - l.i))) l.marks marks'
          → Asks (waitings_at l.waiting 0 l.m) (Request.list (asks_of (waitings_at l.waiting 0 l.m) l.row)) l.initial.marks marks';
    }
