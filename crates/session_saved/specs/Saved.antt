-- Saved states. 01, Wire, Saved state: a first byte and the shared heads, and what follows isn't looked at; what is read is a fresh session whose peer's
-- haves are there, and none.
use Rattle.std.specs.Prelude.{ℕ, ◌*◌, not, cond, List, ◌∷◌, ◌≡◌, ltb, eqb, length, get_or, Result, Ok, Err}
use Rattle.std.proofs.Math.Seq.{slice}
use Rattle.std.proofs.lemmas.List.Edits.{sets}
use Rattle.session_check.specs.SessionGood.{list_good}
use Rattle.rules.specs.Hash.{hashes_at}
use Rattle.rules.specs.Output.{Output}
use Rattle.rules.specs.Sizes.{sizes}
use Rattle.rules.specs.declared.refusal.Refusal.TheVariants.{Cut, WrongType, NoRoom, BadNumbers}
use Rattle.wire.specs.Item.{hash_list_bytes, hash_list_at}
use Rattle.session_state.specs.Counts.{restored_counts}
use Rattle.rules.specs.declared.refusal.Refusal.{Refusal}
use Rattle.wire.specs.declared.parse.Run.{Run}
use Rattle.session_state.specs.declared.session.Session.{Session}

-- The first byte, hexadecimal 43.
abbrev pub state_type : ℕ
state_type = 0x43

-- What is written for the first `count` hashes of a lent buffer; 10 where they are no list.
unfoldable pub state_output : List ℕ → ℕ → Output
state_output s count =
    cond (not (list_good s count)) (Output.refuse BadNumbers) (Output.bytes (state_type ∷ hash_list_bytes (hashes_at s 0 count)))

-- A saved state as it is read: 1 where it is empty, 2 for another first byte, then the list's refusals.
unfoldable pub state_at : List ℕ → Result (Run × ℕ) Refusal
state_at s =
    cond (eqb (length s) 0)
    (Err (Cut 0))
    (cond (not (eqb (get_or s 0 0) state_type)) (Err (WrongType (get_or s 0 0))) (hash_list_at s 1 (length s)))

-- The session that is read, with 7 where the buffer for its shared heads is too short.
unfoldable pub saved_with : Result (Run × ℕ) Refusal → ℕ → Result Session Refusal
saved_with (Err r) room = Err r
saved_with (Ok (heads, next)) room =
    cond (ltb room (sizes.hash * heads.count)) (Err (NoRoom (sizes.hash * heads.count))) (Ok (restored_counts heads.count))

-- The buffer for shared heads at exit: they stand at its start where there is room.
unfoldable pub loaded_into : Result (Run × ℕ) Refusal → List ℕ → List ℕ → List ℕ
loaded_into (Err r) s before = before
loaded_into (Ok (heads, next)) s before =
    cond (ltb (length before) (sizes.hash * heads.count)) before (sets before 0 (slice heads.start next s))

-- Answer and buffer together.
pub record Restored (s before after : List ℕ) (r : Result Session Refusal) : Type 0 where
  pub answer : r ≡ saved_with (state_at s) (length before)
  pub content : after ≡ loaded_into (state_at s) s before
