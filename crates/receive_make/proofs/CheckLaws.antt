-- The tests before, one law for each way out, with the code's tests as hypotheses. Assumes nothing.
use Prim.Native.Nat.{ℕ, ◌≤◌, ◌<◌}
use mathlib.Core.Bool.{true, false}
use mathlib.Core.List.{List}
use mathlib.Core.Path.{◌≡◌}
use borrow.Author.Tests.{lt-ltb, le-ltb}
use Rattle.message_read.specs.MessageRead.{message_at, decoded_of}
use Rattle.message_read.specs.declared.parse.Places.{Places}
use Rattle.table_index.specs.Index.{index_checked}
use Rattle.session_check.specs.SessionGood.{session_good}
use Rattle.rules.specs.declared.refusal.Refusal.{Refusal}
use Rattle.rules.specs.declared.refusal.Refusal.TheVariants.{BadNumbers, BadRowsBefore}
use Rattle.session_state.specs.Value.{Lent}
use Rattle.session_state.specs.declared.session.Session.{Session}
use Rattle.receive_make.specs.Internal.ReceiveChecks.{checked, after_rows, beside_rows}
use Rattle.std.specs.Prelude.{Ok, Err}

module _ (s : Session) (l : Lent) (table index : List ℕ) (before : ℕ) (message : List ℕ) where
  pub bad_session : session_good s l ≡ false → Err BadNumbers ≡ checked s l table index before message
  unfolding checked
  bad_session e = rw e

  module _ (good : session_good s l ≡ true) where
    pub bad_table : (r : Refusal) → index_checked table index ≡ Err r → Err r ≡ checked s l table index before message
    unfolding checked after_rows
    bad_table r e = rw (good, e)

    module _ (n : ℕ) (rows : index_checked table index ≡ Ok n) where
      pub bad_before : n < before → Err BadRowsBefore ≡ checked s l table index before message
      unfolding checked after_rows
      bad_before h = rw (good, rows, lt-ltb _ _ h)

      module _ (inside : before ≤ n) where
        pub bad_message : (r : Refusal) → decoded_of (message_at message) ≡ Err r → Err r ≡ checked s l table index before message
        unfolding checked after_rows beside_rows
        bad_message r e = rw (good, rows, le-ltb _ _ inside, e)

        pub all_good : (p : Places) → decoded_of (message_at message) ≡ Ok p → Ok (n, p) ≡ checked s l table index before message
        unfolding checked after_rows beside_rows
        all_good p e = rw (good, rows, le-ltb _ _ inside, e)
