-- Counts, prefixed strings and hash lists, read and written. 01, Wire, and Refusal numbers, 1 and 4: a count's limit is tested before what it counts.
use Rattle.std.specs.Prelude.{ℕ, ◌+◌, ◌*◌, ◌/◌, cond, List, ◌++◌, ltb, length, Result, Ok, Err}
use Rattle.std.proofs.Math.Seq.{slice}
use Rattle.rules.specs.Hash.{hashes_at, hashes_bytes}
use Rattle.rules.specs.Output.{Output}
use Rattle.rules.specs.Passed.{passed_hashes, after_passed}
use Rattle.rules.specs.Sizes.{sizes}
use Rattle.rules.specs.declared.refusal.Refusal.{Refusal}
use Rattle.rules.specs.declared.refusal.Refusal.TheVariants.{Cut, PastSize}
use Rattle.leb128.specs.Number.{shortest, number_at, most64}
use Rattle.wire.specs.declared.parse.Run.{Run}

-- How many bytes stand from a place up to `end`.
unfoldable pub left_at : List ℕ → ℕ → ℕ → ℕ
left_at s at end = length (slice at end s)

-- Items from a place on.
abbrev pub run : ℕ → ℕ → Run
run start count = record { start = start; count = count }

-- What follows a number that was read, or its refusal passed on.
unfoldable pub after_number : {A : Type 0} → Result (ℕ × ℕ) Refusal → (Refusal → A) → (ℕ → ℕ → A) → A
after_number (Ok (n, next)) refused k = k n next
after_number (Err r) refused k = refused r

-- What follows a prefixed string, or its refusal passed on.
unfoldable pub after_part : {A : Type 0} → Result (ℕ × ℕ) Refusal → (Refusal → A) → (ℕ → ℕ → A) → A
after_part (Ok (start, end)) refused k = k start end
after_part (Err r) refused k = refused r

-- What follows a list, or its refusal passed on.
unfoldable pub after_listed : {A : Type 0} → Result (Run × ℕ) Refusal → (Refusal → A) → (Run → ℕ → A) → A
after_listed (Ok (items, next)) refused k = k items next
after_listed (Err r) refused k = refused r

-- A count: a number, and 4 with its place if it passes its limit.
unfoldable pub count_at : ℕ → List ℕ → ℕ → ℕ → Result (ℕ × ℕ) Refusal
count_at limit s at end =
    after_number (number_at most64 s at end)
    Err
    (λ n next. cond (ltb limit n) (Err (PastSize at)) (Ok (n, next)))

-- A prefixed string: a number, and as many bytes; 1 with the place of that number if there are fewer.
unfoldable pub prefixed_at : List ℕ → ℕ → ℕ → Result (ℕ × ℕ) Refusal
prefixed_at s at end =
    after_number (number_at most64 s at end)
    Err
    (λ n start. cond (ltb (left_at s start end) n) (Err (Cut at)) (Ok (start, start + n)))

-- A hash list: a count, and as many hashes; 1 with the place of the first hash that isn't whole.
unfoldable pub hash_list_at : List ℕ → ℕ → ℕ → Result (Run × ℕ) Refusal
hash_list_at s at end =
    after_number (count_at sizes.hashes s at end)
    Err
    (λ count start.
    cond (ltb (left_at s start end / sizes.hash) count)
    (Err (Cut (start + sizes.hash * (left_at s start end / sizes.hash))))
    (Ok (run start count, start + sizes.hash * count)))

-- A prefixed string as bytes: its length, its bytes.
unfoldable pub prefixed_bytes : List ℕ → List ℕ
prefixed_bytes s = shortest (length s) ++ s

-- A hash list as bytes: its count, its hashes.
unfoldable pub hash_list_bytes : List ℕ → List ℕ
hash_list_bytes hs = shortest (length hs) ++ hashes_bytes hs

-- What is written for a list that is lent as the bytes s, after its tests.
unfoldable pub hash_list_output : List ℕ → Output
hash_list_output s = after_passed (passed_hashes s) Output.refuse (λ n. Output.bytes (hash_list_bytes (hashes_at s 0 n)))
