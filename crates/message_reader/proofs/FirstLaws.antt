-- The list that the reader finds in a message is its heads.
use Prim.Native.Nat.{ℕ}
use mathlib.Core.List.{List, []}
use mathlib.Core.Path.{◌≡◌, refl}
use Rattle.leb128.specs.Number.{number_at, answer_at, find}
use Rattle.rules.specs.declared.refusal.Refusal.TheVariants.{Cut}
use Rattle.wire.specs.Item.{after_number, count_at, hash_list_at}
use Rattle.wire.specs.declared.parse.Run.{Run}
use Rattle.message.specs.declared.version.MessageVersion.{MessageVersion}
use Rattle.message_read.specs.MessageRead.{read, opening_at, message_at}
use Rattle.message_read.specs.declared.parse.Places.{Places}
use Rattle.message_read.proofs.Messages.{opening_behind}
use Rattle.message_read.proofs.ReadLaws.{message_behind}
use Rattle.message_reader.specs.First.{first_list}
use Rattle.std.specs.Prelude.{Ok, Err}

-- Where the first stage of a message is read, its heads are these.
pub opening_heads : (s : List ℕ) (version : MessageVersion) (heads : Run) (next : ℕ) → opening_at s ≡ Ok (version, heads, next)
    → first_list s ≡ Ok (heads, next)
unfolding first_list
opening_heads s version heads next e = (opening_behind s version heads next e).list

-- Where a whole message is read, the list behind its first byte is its heads.
pub message_heads : (s : List ℕ) (p : Places) (haves chunks : List ℕ) → message_at s ≡ read p haves chunks
    → record { next : ℕ; is : first_list s ≡ Ok (p.heads, next) }
message_heads s p haves chunks e =
    let b = message_behind s p haves chunks e in
    record { next = b.at_need; is = opening_heads s p.version p.heads b.at_need b.opening }

-- No bytes: the list is cut where it would start.
pub first_of_none : first_list [] ≡ Err (Cut 1)
unfolding first_list hash_list_at count_at after_number number_at answer_at find
first_of_none = refl
