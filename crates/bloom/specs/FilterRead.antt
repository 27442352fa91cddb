-- A filter as it is read. 01, Wire, Filter, and Refusal numbers, 1, 3, 4 and 5: all three numbers are read first; where there are entries, 5, both
-- 4s and 1 come in this order.
use Rattle.std.specs.Prelude.{ℕ, ◌+◌, cond, List, ltb, eqb, Result, Ok, Err}
use Rattle.rules.specs.Sizes.{sizes}
use Rattle.rules.specs.declared.refusal.Refusal.{Refusal}
use Rattle.rules.specs.declared.refusal.Refusal.TheVariants.{Cut, PastSize, NoBits}
use Rattle.wire.specs.Item.{left_at, after_number}
use Rattle.leb128.specs.Number.{number_at, most_filter}
use Rattle.bloom.specs.Filter.{field_size, default_bits, default_probes}
use Rattle.bloom.specs.Have.{numbers_of}
use Rattle.bloom.specs.declared.have.FilterNumbers.{FilterNumbers}

-- The field, at the place after p: 5 if b is 0, 4 if p is past its size, 4 for the field's size, 1 if the field is cut. 4 and 5 return the
-- filter's place, which is that of n.
unfoldable pub field_at : List ℕ → ℕ → ℕ → ℕ → ℕ → ℕ → ℕ → Result (FilterNumbers × ℕ) Refusal
field_at s at end n b p place =
    cond (eqb n 0)
    (Ok (numbers_of 0 b p place 0, place))
    (cond (eqb b 0)
    (Err (NoBits at))
    (cond (ltb sizes.probes p)
    (Err (PastSize at))
    (cond (ltb sizes.field (field_size n b))
    (Err (PastSize at))
    (cond (ltb (left_at s place end) (field_size n b))
    (Err (Cut place))
    (Ok (numbers_of n b p place (field_size n b), place + field_size n b))))))

-- The filter at a place that has bytes: n, b, p, and then the field.
unfoldable pub numbers_at : List ℕ → ℕ → ℕ → Result (FilterNumbers × ℕ) Refusal
numbers_at s at end =
    after_number (number_at most_filter s at end)
    Err
    (λ n i.
    after_number (number_at most_filter s i end)
    Err
    (λ b j. after_number (number_at most_filter s j end) Err (λ p place. field_at s at end n b p place)))

-- The filter at a place: no bytes mean the default.
unfoldable pub filter_at : List ℕ → ℕ → ℕ → Result (FilterNumbers × ℕ) Refusal
filter_at s at end = cond (eqb (left_at s at end) 0) (Ok (numbers_of 0 default_bits default_probes at 0, at)) (numbers_at s at end)

-- What follows a filter that was read, or its refusal passed on.
unfoldable pub after_filter : {A : Type 0} → Result (FilterNumbers × ℕ) Refusal → (Refusal → A) → (FilterNumbers → ℕ → A) → A
after_filter (Ok (f, next)) refused k = k f next
after_filter (Err r) refused k = refused r
