-- `salvage_rules::decide::deps_kept` meets its contract: what the numbers from the j-th on say is what all of them say, until one names a dropped row or
-- none is left (DecideLaws). Assumes nothing.
use mathlib.Core.Path.{◌≡◌}
use lib.Dec.{eqb}
use lib.ListN.{get_or}
use Rattle.hash_order.specs.Order.{every}
use Rattle.table.specs.TableBytes.{used_of}
use Rattle.salvage_rules.proofs.DecideLaws.{kept_left}
use Rattle.salvage_rules.proofs.decide.deps_kept.Given as goal

abbrev pub invariant-loop-j : goal.invariant-loop-j
invariant-loop-j l =
    kept_left l.d l.table l.i l.rules l.count l.j ≡ every (λ k. eqb (get_or l.rules k 0) 0) (used_of l.d l.table l.i)
