-- What follows a change table's check, 4 and 6 first.
use Rattle.std.specs.Prelude.{ℕ, Result, Ok, Err}
use Rattle.rules.specs.Output.{Output}
use Rattle.rules.specs.declared.refusal.Refusal.{Refusal}

-- What follows a check, or its refusal passed on.
unfoldable pub after_check : Result ℕ Refusal → (ℕ → Output) → Output
after_check (Ok n) k = k n
after_check (Err r) k = Output.refuse r

-- What is checked beside a table: the table's own refusals come first.
unfoldable pub passed_on : Result ℕ Refusal → Result ℕ Refusal → Result ℕ Refusal
passed_on (Ok n) c = c
passed_on (Err r) c = Err r
