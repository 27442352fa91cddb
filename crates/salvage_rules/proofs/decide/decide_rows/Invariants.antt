-- `salvage_rules::decide::decide_rows` meets its contract: each turn decides one row, and keeps whether a kept row has a class (DecideLaws). Assumes
-- nothing.
use Prim.Native.Nat.{ℕ, ◌<◌}
use mathlib.Core.Path.{◌≡◌}
use lib.ListN.{length, get_or}
use Rattle.salvage_rules.specs.Internal.Decided.{rule_of, Taken}
use Rattle.salvage_rules.specs.KeptRows.{kept_of}
use Rattle.salvage_rules.proofs.decide.decide_rows.Given as goal

abbrev pub invariant-loop-i : goal.invariant-loop-i
invariant-loop-i l =
    record {
      takes : Taken l.d l.table l.n l.classes l.taken l.i;
      rule : (j : ℕ) → j < l.i → get_or l.rules j 0 ≡ rule_of l.d l.table j;
      place : (j : ℕ) → j < l.i → get_or l.places j 0 ≡ length (kept_of l.d l.table j);
      count : l.kept ≡ length (kept_of l.d l.table l.i);
    }
