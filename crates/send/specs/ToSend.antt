-- Hashes to send. 01, Hashes to send: what was asked for and is held, in the order of asking; then S, in the table's. S starts from the rows beyond what
-- both are known to share that no filter has, and goes up from there: who lacks a change lacks all that depends on it.
use Rattle.std.specs.Prelude.{ℕ, cond, not, ◌&&◌, List, [], ◌∷◌, ◌++◌}
use Rattle.bloom.specs.Have.{Have, haves_of, passed_good, passed_few}
use Rattle.table_index.specs.Index.{index_checked}
use Rattle.send_members.specs.Internal.Members.{the_s}
use Rattle.hash_order.specs.Order.{member, keep}
use Rattle.rules.specs.Hash.{hashes_at, hashes_bytes}
use Rattle.rules.specs.Output.{Output}
use Rattle.rules.specs.Passed.{passed_hashes, after_passed}
use Rattle.rules.specs.declared.refusal.Refusal.TheVariants.{PastSize, BadNumbers}
use Rattle.table.specs.TableBytes.{table_of}
use Rattle.table.specs.TableCalls.{after_check}
use Rattle.table.specs.Table.{Row, held}

-- The answer.
unfoldable pub to_send : List Row → List Have → List ℕ → List ℕ
to_send t [] need = keep (held t) need
to_send t (h ∷ hs) need = keep (λ x. held t x && not (member x (the_s t (h ∷ hs)))) need ++ the_s t (h ∷ hs)

-- The answer less the hashes that were sent before. 01, Session and The catch-up walk: nothing is sent twice.
unfoldable pub to_send_less : List Row → List Have → List ℕ → List ℕ → List ℕ
to_send_less t haves need sent = keep (λ h. not (member h sent)) (to_send t haves need)

-- What the call writes, for haves as records over the bytes s and a need list that is passed as bytes, a definition a stage. 01, Refusal
-- numbers, and 02, M-100, for 12: 10 for the haves, 4 and 6 for the table, 12 for its index, 4 and 1 for the need list, 4 for the haves, the list.

-- 4 for too many haves, or too many last-sync hashes of one.
unfoldable pub send_few : List Row → List ℕ → List ℕ → List ℕ → Output
send_few t s haves need =
    cond (not (passed_few haves)) (Output.refuse (PastSize 0)) (Output.bytes (hashes_bytes (to_send t (haves_of s haves) need)))

-- 4 and 1 for the need list.
unfoldable pub send_needs : List Row → List ℕ → List ℕ → List ℕ → Output
send_needs t s haves need = after_passed (passed_hashes need) Output.refuse (λ k. send_few t s haves (hashes_at need 0 k))

-- 4 and 6 for the table, 12 for its index.
unfoldable pub send_rows : List ℕ → List ℕ → List ℕ → List ℕ → List ℕ → Output
send_rows table index s haves need = after_check (index_checked table index) (λ n. send_needs (table_of table) s haves need)

-- 10 for the haves.
unfoldable pub to_send_output : List ℕ → List ℕ → List ℕ → List ℕ → List ℕ → Output
to_send_output table index s haves need = cond (not (passed_good s haves)) (Output.refuse BadNumbers) (send_rows table index s haves need)
