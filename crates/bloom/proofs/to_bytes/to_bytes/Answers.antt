-- `bloom::to_bytes::to_bytes` meets its contract: the rules are tested first, then the room, and then all is put. Assumes nothing.
use mathlib.Core.Bool.{true, false}
use mathlib.Core.List.{List}
use mathlib.Core.Path.{◌≡◌, sym, ◌∙◌}
use lib.ListN.{length}
use Prim.Native.Nat.{ℕ}
use Rattle.rules.specs.Output.{bytes, refuse}
use Rattle.rules.specs.declared.refusal.Refusal.TheVariants.{BadNumbers}
use Rattle.rules.proofs.Outputs.{written_bytes, no_room, refused}
use Rattle.bloom.specs.Filter.{filter_of4, filter_rules, filter_bytes, filter_output}
use Rattle.bloom.proofs.to_bytes.to_bytes.Goals as goal

module _ (n b p : ℕ) (field : List ℕ) where
  broken : filter_rules n b p (length field) ≡ false → filter_output (filter_of4 n b p field) ≡ refuse BadNumbers
  unfolding filter_output
  broken e = rw e

  kept : filter_rules n b p (length field) ≡ true → filter_output (filter_of4 n b p field) ≡ bytes (filter_bytes (filter_of4 n b p field))
  unfolding filter_output
  kept e = rw e

pub returns-then-not-filter_rules : goal.returns-then-not-filter_rules
returns-then-not-filter_rules c = rw (broken _ _ _ _ (sym c.filter_rules.ensures ∙ c.if-not-filter_rules.true)) (refused _ _)

pub returns-then-out-size : goal.returns-then-out-size
returns-then-out-size c =
    rw (kept _ _ _ _ (sym c.filter_rules.ensures ∙ c.if-not-filter_rules.false))
    (no_room _ _ _ c.filter_size-size.ensures c.if-out-size.true)

pub returns : goal.returns
returns c =
    rw (kept _ _ _ _ (sym c.filter_rules.ensures ∙ c.if-not-filter_rules.false))
    (written_bytes _ _ _ _ c.filter_size-size.ensures c.if-out-size.false c.put_filter.ensures.content)
