-- The first hash list of a string. 01, Wire, Message: a message's heads are the list behind the byte that says its version.
use Rattle.std.specs.Prelude.{ℕ, List, length, Result}
use Rattle.wire.specs.Item.{hash_list_at}
use Rattle.rules.specs.declared.refusal.Refusal.{Refusal}
use Rattle.wire.specs.declared.parse.Run.{Run}

-- The list at place 1, up to the end. It is no read of a message: the total size's 4, 1 for no bytes and 2 are given by `opening_at` (message_read MessageRead), whose
-- heads this list is.
unfoldable pub first_list : List ℕ → Result (Run × ℕ) Refusal
first_list s = hash_list_at s 1 (length s)
