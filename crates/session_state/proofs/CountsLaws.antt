-- Setting read-only on the struct of counts, one law for each way through its two tests.
use mathlib.Core.Bool.{Bool, true, false}
use mathlib.Core.Path.{◌≡◌}
use Rattle.session_state.specs.Counts.{set_read_only_counts, switched_on_counts, switched_off_counts}
use Rattle.session_state.specs.declared.session.Session.{Session}

module _ (s : Session) where
  pub counts_same : (on : Bool) → s.read_only ≡ on → set_read_only_counts s on ≡ s
  unfolding set_read_only_counts
  counts_same true e = rw e
  counts_same false e = rw e

  pub counts_on : s.read_only ≡ false → set_read_only_counts s true ≡ switched_on_counts s
  unfolding set_read_only_counts
  counts_on e = rw e

  pub counts_off : s.read_only ≡ true → set_read_only_counts s false ≡ switched_off_counts s
  unfolding set_read_only_counts
  counts_off e = rw e
