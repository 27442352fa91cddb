-- Read-only mode: what switching does and keeps.
use mathlib.Core.Bool.{Bool, true, false}
use mathlib.Core.Path.{◌≡◌, refl}
use Rattle.rules.proofs.Cases.{split}
use Rattle.session_state.specs.Session.{State, fresh, fresh_read_only, set_read_only, switched_on, switched_off}

module _ (s : State) where
  -- No change is no change.
  pub switch_same : (on : Bool) → s.read_only ≡ on → set_read_only s on ≡ s
  unfolding set_read_only
  switch_same true e = rw e
  switch_same false e = rw e

  pub switch_on : s.read_only ≡ false → set_read_only s true ≡ switched_on s
  unfolding set_read_only
  switch_on e = rw e

  pub switch_off : s.read_only ≡ true → set_read_only s false ≡ switched_off s
  unfolding set_read_only
  switch_off e = rw e

  -- It is then as it was set, and setting it so again changes nothing.
  pub switched : (on : Bool) → (set_read_only s on).read_only ≡ on
  switched true = split s.read_only (λ e. rw (switch_same true e) e) (λ e. rw (switch_on e))
  switched false = split s.read_only (λ e. rw (switch_off e)) (λ e. rw (switch_same false e) e)

pub switch_twice : (s : State) (on : Bool) → set_read_only (set_read_only s on) on ≡ set_read_only s on
switch_twice s on = switch_same (set_read_only s on) on (switched s on)

-- Switching a fresh session on gives the fresh one of a unit that takes no changes.
pub fresh_switched_on : set_read_only fresh true ≡ fresh_read_only
fresh_switched_on = switch_on fresh refl
