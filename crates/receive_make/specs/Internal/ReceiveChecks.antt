-- What internal contracts speak of: the tests before a message is taken. No rule of 01 stands here.
use Rattle.std.specs.Prelude.{ℕ, ◌≤◌, true, cond, not, List, ◌≡◌, ltb, Result, Ok, Err}
use Rattle.message_read.specs.MessageRead.{message_at, decoded_of}
use Rattle.message_read.specs.declared.parse.Places.{Places}
use Rattle.table_index.specs.Index.{index_checked}
use Rattle.session_check.specs.SessionGood.{session_good}
use Rattle.rules.specs.declared.refusal.Refusal.TheVariants.{BadNumbers, BadRowsBefore}
use Rattle.session_state.specs.Value.{Lent}
use Rattle.session_state.specs.declared.session.Session.{Session}
use Rattle.rules.specs.declared.refusal.Refusal.{Refusal}

-- The rows of the table and the places of the message, or the first refusal: 10, then 4 and 6, then 12, then 11, then the message's own.
unfoldable pub beside_rows : ℕ → Result Places Refusal → Result (ℕ × Places) Refusal
beside_rows n (Ok p) = Ok (n, p)
beside_rows n (Err r) = Err r

-- After the table: 11, then the message.
unfoldable pub after_rows : Result ℕ Refusal → ℕ → List ℕ → Result (ℕ × Places) Refusal
after_rows (Ok n) before message =
    cond (ltb n before) (Err BadRowsBefore) (beside_rows n (decoded_of (message_at message)))
after_rows (Err r) before message = Err r

-- All of it, 10 first.
unfoldable pub checked : Session → Lent → List ℕ → List ℕ → ℕ → List ℕ → Result (ℕ × Places) Refusal
checked s l table index before message =
    cond (not (session_good s l)) (Err BadNumbers) (after_rows (index_checked table index) before message)

-- All tests passed.
pub record Accepted (s : Session) (l : Lent) (table index : List ℕ) (n before : ℕ) (message : List ℕ) (p : Places) : Type 0 where
  pub good : session_good s l ≡ true
  pub rows : index_checked table index ≡ Ok n
  pub inside : before ≤ n
  pub read : decoded_of (message_at message) ≡ Ok p
