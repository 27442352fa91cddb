-- What is ignored of a filter's part. 02, M-103: the number of bytes behind the field, for a filter of no bytes 0. What is read stays `filter_at`; here
-- is counted what it leaves.
use Rattle.std.specs.Prelude.{ℕ, List, Result, Ok, Err}
use Rattle.wire.specs.Item.{left_at}
use Rattle.bloom.specs.FilterRead.{filter_at, after_filter}
use Rattle.rules.specs.declared.refusal.Refusal.{Refusal}
use Rattle.bloom.specs.declared.have.FilterNumbers.{FilterNumbers}

-- What is left, up to the part's end, from the place where the filter ended; of a filter that is refused nothing is counted.
unfoldable pub ignored_at : List ℕ → ℕ → ℕ → ℕ
ignored_at s at end = after_filter (filter_at s at end) (λ r. 0) (λ f next. left_at s next end)

-- The filter at a place with its number.
unfoldable pub counted_at : List ℕ → ℕ → ℕ → Result (FilterNumbers × ℕ × ℕ) Refusal
counted_at s at end = after_filter (filter_at s at end) Err (λ f next. Ok (f, next, ignored_at s at end))

-- A filter that was read with the number of ignored bytes, that number forgotten.
unfoldable pub as_parsed : Result (FilterNumbers × ℕ × ℕ) Refusal → Result (FilterNumbers × ℕ) Refusal
as_parsed (Ok (f, next, ignored)) = Ok (f, next)
as_parsed (Err r) = Err r
