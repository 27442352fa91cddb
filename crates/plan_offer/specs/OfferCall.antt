-- What a pick is made of. 02, M-110: the body that the session asks for, all of it, for a session as counts with its lent lists, and a table and its index as
-- bytes: 10; 4 and 6 for the table; 12 for its index; 7 for the list's buffer.
use Rattle.std.specs.Prelude.{ℕ, ◌*◌, cond, not, List, ◌≡◌, ltb, length, Result, Ok, Err, Bool}
use Rattle.std.proofs.lemmas.List.Edits.{sets}
use Rattle.rules.specs.Hash.{hashes_bytes}
use Rattle.rules.specs.Sizes.{sizes}
use Rattle.rules.specs.declared.refusal.Refusal.{Refusal}
use Rattle.rules.specs.declared.refusal.Refusal.TheVariants.{NoRoom, BadNumbers}
use Rattle.session.specs.Plan.{Body, body_of}
use Rattle.session_check.specs.SessionGood.{session_good}
use Rattle.session_state.specs.Value.{Lent, state_of}
use Rattle.session_state.specs.declared.session.Session.{Session}
use Rattle.table.specs.TableBytes.{table_of}
use Rattle.table_index.specs.Index.{index_checked}

-- A body, or the refusal that comes before.
pub data Offered : Type 0 where
  none : Refusal → Offered
  body : Body → Offered

-- 4 and 6 for the table, 12 for its index.
unfoldable pub offered_after : Result ℕ Refusal → Body → Offered
offered_after (Ok n) b = Offered.body b
offered_after (Err r) b = Offered.none r

-- 10 comes first.
unfoldable pub offer_of : Session → Lent → List ℕ → List ℕ → Offered
offer_of s l table index =
    cond (not (session_good s l)) (Offered.none BadNumbers) (offered_after (index_checked table index) (body_of (table_of table) (state_of s l)))

-- What the call answers for a buffer of so many bytes: 7 with the bytes wanted where they are fewer than the hashes have.
unfoldable pub offer_answer : Offered → ℕ → Result (Bool × ℕ) Refusal
offer_answer (Offered.none r) room = Err r
offer_answer (Offered.body b) room =
    cond (ltb room (sizes.hash * length b.hashes))
    (Err (NoRoom (sizes.hash * length b.hashes)))
    (Ok (b.document, length b.hashes))

-- The buffer at exit: the hashes at its start and the rest as it was; after a refusal all of it as it was.
unfoldable pub offer_content : Offered → List ℕ → List ℕ
offer_content (Offered.none r) before = before
offer_content (Offered.body b) before =
    cond (ltb (length before) (sizes.hash * length b.hashes)) before (sets before 0 (hashes_bytes b.hashes))

-- What the call ensures.
pub record OfferCalled (o : Offered) (before after : List ℕ) (r : Result (Bool × ℕ) Refusal) : Type 0 where
  pub answer : r ≡ offer_answer o (length before)
  pub content : after ≡ offer_content o before
