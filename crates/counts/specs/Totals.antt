-- Totals over captures. 02, M-108: the sums over the inputs; a bad capture gets a line with its refusal and adds to no total; 16, last for a capture, where a
-- total would pass 64 bits.
use Rattle.std.specs.Prelude.{ℕ, ◌+◌, ◌≤◌, ◌<◌, Bool, true, false, cond, ◌||◌, List, [], ◌∷◌, map, ◌≡◌, ltb, length, Result, Ok, Err}
use Rattle.bloom.specs.Filter.{Filter}
use Rattle.bloom_probe.specs.Build.{filter_of}
use Rattle.bloom_probe.specs.Contains.{contains}
use Rattle.hash_order.specs.Order.{member}
use Rattle.rules.specs.declared.refusal.Refusal.TheVariants.{PastTotal}
use Rattle.table.specs.Table.{Row, held}
use Rattle.counts.specs.Captures.{outside, capture_counts, capture_counted}
use Rattle.counts.specs.declared.totals.Counts.{Counts}
use Rattle.rules.specs.declared.refusal.Refusal.{Refusal}

-- No capture: nothing counted.
abbrev pub nothing : Counts
nothing = record { entries = 0; field_bits = 0; set_bits = 0; tested = 0; contained = 0 }

-- Counts added up, each by itself.
unfoldable pub sum : Counts → Counts → Counts
sum a b =
    record {
      entries = a.entries + b.entries;
      field_bits = a.field_bits + b.field_bits;
      set_bits = a.set_bits + b.set_bits;
      tested = a.tested + b.tested;
      contained = a.contained + b.contained;
    }

-- The most that 64 bits hold.
abbrev pub most_total : ℕ
most_total = 18446744073709551615

-- Whether one of the counts passes that.
unfoldable pub passes : Counts → Bool
passes a =
    ltb most_total a.entries
    || (ltb most_total a.field_bits
    || (ltb most_total a.set_bits || (ltb most_total a.tested || ltb most_total a.contained)))

-- Totals with a capture's counts added: 16 where one would pass.
unfoldable pub added_to : Counts → Counts → Result Counts Refusal
added_to totals a = cond (passes (sum totals a)) (Err PastTotal) (Ok (sum totals a))

-- ---- captures one after the other

-- A capture's bytes.
pub record Capture : Type 0 where
  pub sender : List ℕ
  pub listener : List ℕ
  pub filter : List ℕ

-- The counts of a capture or its refusal.
abbrev pub captured : Capture → Result Counts Refusal
captured c = capture_counted c.sender c.listener c.filter

-- What counts give where there are totals already: they themselves, or 16.
unfoldable pub line_for : Counts → Result Counts Refusal → Result Counts Refusal
line_for totals (Ok a) = cond (passes (sum totals a)) (Err PastTotal) (Ok a)
line_for totals (Err r) = Err r

-- A capture's line.
abbrev pub line_of : Counts → Capture → Result Counts Refusal
line_of totals c = line_for totals (captured c)

-- The totals behind a line. A refusal adds nothing.
unfoldable pub totals_with : Counts → Result Counts Refusal → Counts
totals_with totals (Ok a) = sum totals a
totals_with totals (Err r) = totals

-- The lines of captures in their order.
unfoldable pub lines_from : Counts → List Capture → List (Result Counts Refusal)
lines_from totals [] = []
lines_from totals (c ∷ cs) = line_of totals c ∷ lines_from (totals_with totals (line_of totals c)) cs

-- The totals at the end.
unfoldable pub totals_from : Counts → List Capture → Counts
totals_from totals [] = totals
totals_from totals (c ∷ cs) = totals_from (totals_with totals (line_of totals c)) cs

-- The sums of what lines say.
unfoldable pub sum_of : List (Result Counts Refusal) → Counts
sum_of [] = nothing
sum_of (Ok a ∷ ls) = sum a (sum_of ls)
sum_of (Err r ∷ ls) = sum_of ls

-- The same captures in another order: two neighbours exchanged, again and again.
pub data Reordered : List Capture → List Capture → Type 0 where
  same : {cs : List Capture} → Reordered cs cs
  swap : {a b : Capture} {cs : List Capture} → Reordered (a ∷ b ∷ cs) (b ∷ a ∷ cs)
  behind : {a : Capture} {cs ds : List Capture} → Reordered cs ds → Reordered (a ∷ cs) (a ∷ ds)
  again : {cs ds es : List Capture} → Reordered cs ds → Reordered ds es → Reordered cs es

-- The share of false yeses: of so many rows tested, so many were contained. Two whole numbers.
abbrev pub share : Counts → ℕ × ℕ
share a = (a.contained, a.tested)

-- ---- what is shown of it

-- The sums over the good captures, whatever their order.
abbrev pub sum_over : List Capture → Counts
sum_over cs = sum_of (map captured cs)

-- All that is shown of counts and of totals.
pub record M108 : Type 0 where
  -- totals are the sums of the lines, of which each capture has one, and no total passes 64 bits
  pub sums : (cs : List Capture) → totals_from nothing cs ≡ sum_of (lines_from nothing cs)
  pub lines : (cs : List Capture) → length (lines_from nothing cs) ≡ length cs
  pub within : (cs : List Capture) → passes (totals_from nothing cs) ≡ false
  -- where the sums over the good captures don't pass either, totals are these, and the same in any order
  pub good : (cs : List Capture) → passes (sum_over cs) ≡ false → totals_from nothing cs ≡ sum_over cs
  pub order : (cs ds : List Capture) → Reordered cs ds → passes (sum_over cs) ≡ false → totals_from nothing ds ≡ totals_from nothing cs
  -- no more is contained than tested, and no more set than there are bits; a listener with no other row tests none
  pub few : (a b : List Row) (f : Filter) → (capture_counts a b f).contained ≤ (capture_counts a b f).tested
  pub bits : (a b : List Row) (f : Filter) → (capture_counts a b f).set_bits ≤ (capture_counts a b f).field_bits
  pub none : (t : List Row) (f : Filter) → (capture_counts t t f).tested ≡ 0
  -- a filter built over rows of the sender contains each of them, and none of them is tested: so what is contained is a false yes
  pub built : (b p : ℕ) (hs : List ℕ) → 0 < b → (h : ℕ) → member h hs ≡ true → contains (filter_of b p hs) h ≡ true
  pub apart : (a b : List Row) (hs : List ℕ) → ((h : ℕ) → member h hs ≡ true → held a h ≡ true) → (h : ℕ) → member h (outside a b) ≡ true
      → member h hs ≡ false
