-- What the public call writes, one law for each way through its tests; and what the tests give the functions below them.
use Prim.Native.Nat.{ℕ}
use mathlib.Core.Bool.{true, false}
use mathlib.Core.List.{List}
use mathlib.Core.Path.{◌≡◌}
use Rattle.bloom.specs.Have.{haves_of, passed_good, passed_few}
use Rattle.bloom.proofs.HaveLaws.{PassedHaves}
use Rattle.table_index.specs.Index.{index_checked}
use Rattle.table_index.proofs.CheckLaws.{checked_table}
use Rattle.rules.specs.Hash.{hashes_at, hashes_bytes}
use Rattle.rules.specs.Output.{Output}
use Rattle.rules.specs.Passed.{passed_hashes}
use Rattle.rules.specs.declared.refusal.Refusal.{Refusal}
use Rattle.rules.specs.declared.refusal.Refusal.TheVariants.{PastSize, BadNumbers}
use Rattle.rules.proofs.PassedLaws.{after_refused, after_hashes}
use Rattle.table.specs.TableBytes.{rows_at}
use Rattle.table.specs.TableCalls.{after_check}
use Rattle.table.specs.Table.{Row}
use Rattle.table.proofs.TableLaws.{table_good}
use Rattle.send_members.specs.Internal.Members.{SyncsInside}
use Rattle.send.specs.ToSend.{to_send, send_few, send_needs, send_rows, to_send_output}
use Rattle.std.specs.Prelude.{Ok, Err}

pub syncs_inside : (s haves : List ℕ) → PassedHaves s haves → SyncsInside s haves
syncs_inside s haves p = record { each = λ i h. (p.each i h).there }

-- ---- the need list, then the sizes of the haves

module _ (t : List Row) (s haves need : List ℕ) where
  pub send_need : (r : Refusal) → passed_hashes need ≡ Err r → send_needs t s haves need ≡ Output.refuse r
  unfolding send_needs
  send_need r e = after_refused _ _ _ r e

  module _ (count : ℕ) (whole : passed_hashes need ≡ Ok count) where
    few_haves_lem : send_needs t s haves need ≡ send_few t s haves (hashes_at need 0 count)
    unfolding send_needs
    few_haves_lem = after_hashes _ _ _ count whole

    pub send_many : passed_few haves ≡ false → send_needs t s haves need ≡ Output.refuse (PastSize 0)
    unfolding send_few
    send_many e = rw (few_haves_lem, e)

    pub send_written : passed_few haves ≡ true → send_needs t s haves need ≡ Output.bytes (hashes_bytes (to_send t (haves_of s haves) (hashes_at need 0 count)))
    unfolding send_few
    send_written e = rw (few_haves_lem, e)

-- ---- the haves, then the table and its index

module _ (table index s haves need : List ℕ) where
  pub send_bad : passed_good s haves ≡ false → to_send_output table index s haves need ≡ Output.refuse BadNumbers
  unfolding to_send_output
  send_bad e = rw e

  module _ (good : passed_good s haves ≡ true) where
    pub send_table : (r : Refusal) → index_checked table index ≡ Err r → to_send_output table index s haves need ≡ Output.refuse r
    unfolding to_send_output send_rows after_check
    send_table r e = rw (good, e)

    pub send_good : (n : ℕ) → index_checked table index ≡ Ok n → to_send_output table index s haves need ≡ send_needs (rows_at table 0 n) s haves need
    unfolding to_send_output send_rows after_check
    send_good n e = rw (good, e, (table_good table n (checked_table table index n e)).is)
