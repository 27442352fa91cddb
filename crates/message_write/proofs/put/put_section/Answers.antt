-- `message_write::put::put_section` meets its contract: three bytes, or none. Assumes nothing.
use Prim.Native.Nat.{◌+◌, ◌≤◌}
use native.Mathlib.Omega.{arith}
use lib.ListN.{length, length-set}
use Rattle.message_write.proofs.PutLaws.{section_room, put_absent, put_present}
use Rattle.message_write.proofs.put.put_section.Goals as goal

pub bounds-out-at : goal.bounds-out-at
bounds-out-at c = omega (arith, (let it : c.args.at + 3 ≤ length c.args.out.now = section_room _ _ _ _ c.in-Some.is c.requires in it))

pub bounds-out-at-in-Some : goal.bounds-out-at-in-Some
bounds-out-at-in-Some c = rw length-set (omega (arith, (let it : c.args.at + 3 ≤ length c.args.out.now = section_room _ _ _ _ c.in-Some.is c.requires in it)))

pub bounds-out-at-in-Some-2 : goal.bounds-out-at-in-Some-2
bounds-out-at-in-Some-2 c = rw (length-set, length-set) (omega (arith, (let it : c.args.at + 3 ≤ length c.args.out.now = section_room _ _ _ _ c.in-Some.is c.requires in it)))

pub returns-in-None : goal.returns-in-None
returns-in-None c = rw c.in-None.is (put_absent _ _)

pub returns-in-Some : goal.returns-in-Some
returns-in-Some c = rw c.in-Some.is (put_present _ _ _)
