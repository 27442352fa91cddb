-- What the bytes of a filter mean. 01, Wire, Filter: none are the default; any others say the three numbers and the field, and what is left over says
-- nothing. With n = 0 the field is empty, which is one of the filter rules. What `filter_at` reads means its filter: the law `filter-means`.
use Rattle.std.specs.Prelude.{ℕ, true, List, [], ◌++◌, ◌≡◌, length}
use Rattle.leb128.specs.Number.{shortest}
use Rattle.bloom.specs.Filter.{Filter, filter_of4, filter_rules, default_bits, default_probes}

-- What bytes mean as a filter: none is the default; else three numbers in their shortest form, a field of the size that these ask for, and bytes that say nothing.
pub data FilterMeans (bytes : List ℕ) (f : Filter) : Type 0 where
  none : bytes ≡ [] → f ≡ filter_of4 0 default_bits default_probes [] → FilterMeans bytes f
  said : (ignored : List ℕ)
      → bytes ≡ shortest f.entries ++ (shortest f.bits ++ (shortest f.probes ++ (f.field ++ ignored)))
      → filter_rules f.entries f.bits f.probes (length f.field) ≡ true
      → FilterMeans bytes f
