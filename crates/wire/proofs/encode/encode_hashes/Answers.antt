-- `wire::encode::encode_hashes` meets its contract: bytes that are whole hashes are the bytes of the hashes that stand in them. Assumes
-- nothing.
use Prim.Native.Nat.{ℕ, ◌+◌, ◌*◌, ◌≤◌}
use mathlib.Core.List.{List, ◌++◌}
use mathlib.Core.Path.{◌≡◌, sym, ◌∙◌}
use native.Mathlib.Omega.{arith}
use lib.ListN.{length}
use lib.Seq.{take-length}
use Rattle.rules.specs.Hash.{Bytes}
use Rattle.rules.specs.Output.{bytes, refuse}
use Rattle.rules.specs.Passed.{passed_hashes}
use Rattle.rules.specs.Sizes.{sizes}
use Rattle.rules.specs.declared.refusal.Refusal.{Refusal}
use Rattle.rules.proofs.Hash.{length_hashes_at, hashes_at_bytes}
use Rattle.rules.proofs.Outputs.{refused}
use Rattle.rules.proofs.PassedLaws.{passed_is, after_refused, after_hashes}
use Rattle.wire.specs.Item.{hash_list_output, hash_list_bytes}
use Rattle.leb128.specs.Number.{shortest}
use Rattle.wire.proofs.encode.encode_hashes.Goals as goal
use Rattle.std.specs.Prelude.{Ok, Err}

no_list_lem : (s : List ℕ) (r : Refusal) → passed_hashes s ≡ Err r → hash_list_output s ≡ refuse r
unfolding hash_list_output
no_list_lem s r e = after_refused _ _ _ r e

whole : (s : List ℕ) (n : ℕ) → Bytes s → passed_hashes s ≡ Ok n → hash_list_output s ≡ bytes (shortest n ++ s)
unfolding hash_list_output hash_list_bytes
whole s n b p =
    let e : 0 + sizes.hash * n ≡ length s = omega (arith, (passed_is s n p).whole) in
    let fits : 0 + sizes.hash * n ≤ length s = omega arith in
    after_hashes _ _ _ n p ∙ rw (length_hashes_at s 0 n, hashes_at_bytes s 0 n b fits, e, take-length s)

pub returns-in-Err : goal.returns-in-Err
returns-in-Err c = rw (no_list_lem _ _ (sym c.passed_hashes.ensures ∙ c.in-Err.is)) (refused _ _)

pub returns : goal.returns
returns c =
    rw (whole _ _ (λ i. (c.type_inv.hashes i).fits) (sym c.passed_hashes.ensures ∙ c.in-Ok.is)) c.encode.ensures
