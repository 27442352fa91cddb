-- `plan_decide::puts::puts_of` meets its contract, case by case. Assumes nothing.
use Rattle.plan_decide.proofs.DecideLaws.{refused_puts, silent_puts, reset_puts, says_puts}
use Rattle.plan_decide.proofs.puts.puts_of.Goals as goal

pub returns-in-Err : goal.returns-in-Err
returns-in-Err c = refused_puts _ _ c.in-Err.is

pub returns-in-Ok-Silent : goal.returns-in-Ok-Silent
returns-in-Ok-Silent c =
    let says = rw c.in-Ok-Silent.is at c.in-Ok-Silent.field-0-is in
    silent_puts _ (rw says at c.in-Ok-Silent.is)

pub returns-in-Ok-Reset : goal.returns-in-Ok-Reset
returns-in-Ok-Reset c =
    let says = rw c.in-Ok-Reset.is at c.in-Ok-Reset.field-0-is in
    reset_puts _ _ (rw says at c.in-Ok-Reset.is) c.puts_for.ensures

pub returns-in-Ok-Says : goal.returns-in-Ok-Says
returns-in-Ok-Says c =
    let says = rw c.in-Ok-Says.is at c.in-Ok-Says.field-0-is in
    says_puts _ _ _ (rw says at c.in-Ok-Says.is) c.puts_for-in-Ok-Says.ensures
