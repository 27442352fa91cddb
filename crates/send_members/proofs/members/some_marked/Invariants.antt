-- `send_members::members::some_marked` meets its contract: the numbers from the j-th on decide what all of them do. A number of a good row is below
-- the row's own, so it has a mark. Assumes nothing.
use mathlib.Core.Bool.{false}
use mathlib.Core.Path.{◌≡◌}
use lib.ListN.{get_or}
use Rattle.table.specs.TableBytes.{used_at}
use Rattle.send_members.specs.Internal.Members.{some_of}
use Rattle.send_members.proofs.MemberLaws.{numbers_from}
use Rattle.send_members.proofs.members.some_marked.Given as goal

abbrev pub invariant-loop-j : goal.invariant-loop-j
invariant-loop-j l =
    numbers_from l.table l.i (λ k. get_or l.marks k false) l.j ≡ some_of (λ k. get_or l.marks k false) (used_at l.table l.i)
