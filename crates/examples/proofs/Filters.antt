-- P6 to P10. The words of a hash decide its probes, so its other bytes are of no account; a filter's part decides what is read of it, so the bytes around
-- it are of none. The rest is computed. Assumes nothing.
use Prim.Native.Nat.{ℕ, ◌+◌, ◌%◌, ◌<◌, max}
use mathlib.Core.Bool.{true, false}
use mathlib.Core.List.{List, [], ◌∷◌}
use mathlib.Core.Path.{◌≡◌, refl, sym, ap, ◌∙◌}
use native.Mathlib.Omega.{arith}
use lib.ListN.{take, drop}
use lib.Seq.{slice, drop-drop}
use Rattle.bloom.proofs.Filters.{filter_numbers_lem, numbers_read, field_no_bits, field_probes, filter_written}
use Rattle.bloom.specs.Filter.{filter_of4, filter_bytes, filter_rules, field_size, default_bits, default_probes}
use Rattle.bloom.specs.Have.{numbers_of, filter_with}
use Rattle.bloom.specs.FilterRead.{field_at, filter_at}
use Rattle.leb128.proofs.Number.{find_end}
use Rattle.leb128.specs.Number.{shortest, sevens, most_filter, answer_at, number_at}
use Rattle.bloom_probe.specs.Build.{set_bit, set_bits, add_hash, add_hashes, filter_of}
use Rattle.bloom_probe.specs.Contains.{clear_at, none_clear, contains}
use Rattle.bloom_probe.specs.Probes.{probes_from, probes_of, bit_at}
use Rattle.rules.specs.Hash.{hash_bytes}
use Rattle.rules.specs.LittleEndian.{u32_at}
use Rattle.rules.specs.declared.refusal.Refusal.TheVariants.{PastSize, NoBits}
use Rattle.wire.specs.Item.{left_at}
use Rattle.examples.specs.Examples.{Words, RefusedWith, ReadAs}
use Rattle.std.specs.Prelude.{Ok}

-- ---- probes

probes_by_words : (m p h x y z : ℕ) → Words h x y z → probes_of m p h ≡ probes_from (max 1 p) m (x % m) (y % m) (z % m)
unfolding probes_of
probes_by_words m p h x y z w = rw (w.first, w.second, w.third)

pub seven_probes : (h : ℕ) → Words h 1 2 3 → probes_of 16 7 h ≡ 1 ∷ 3 ∷ 8 ∷ 0 ∷ 11 ∷ 9 ∷ 10 ∷ []
unfolding probes_from
seven_probes h w = probes_by_words 16 7 h 1 2 3 w

-- the filter of that hash alone
small : (h : ℕ) → Words h 1 2 3 → filter_of default_bits default_probes (h ∷ []) ≡ filter_of4 1 10 7 (0x0b ∷ 0x0f ∷ [])
unfolding field_size set_bit set_bits add_hash add_hashes filter_of
small h w = rw (seven_probes h w)

pub small_bytes : (h : ℕ) → Words h 1 2 3 → filter_bytes (filter_of default_bits default_probes (h ∷ [])) ≡ 0x01 ∷ 0x0a ∷ 0x07 ∷ 0x0b ∷ 0x0f ∷ []
unfolding filter_bytes shortest sevens
small_bytes h w = rw (small h w)

pub false_yes : (h g : ℕ) → Words h 1 2 3 → Words g 1 0 0 → contains (filter_of default_bits default_probes (h ∷ [])) g ≡ true
unfolding contains none_clear clear_at bit_at probes_from
false_yes h g w v = rw (small h w, probes_by_words 16 7 g 1 0 0 v)

pub right_no : (h g : ℕ) → Words h 1 2 3 → Words g 2 0 0 → contains (filter_of default_bits default_probes (h ∷ [])) g ≡ false
unfolding contains none_clear clear_at bit_at probes_from
right_no h g w v = rw (small h w, probes_by_words 16 7 g 2 0 0 v)

pub one_probe : (m h : ℕ) → probes_of m 0 h ≡ u32_at (hash_bytes h) 0 % m ∷ []
unfolding probes_of probes_from
one_probe m h = refl

-- ---- reading

-- a byte below 80 that a part begins with is a number, and the next one begins behind it
number_first : (s rest : List ℕ) (at end n : ℕ) → n < 128 → slice at end s ≡ n ∷ rest
    → (number_at most_filter s at end ≡ Ok (n, at + 1)) × (slice (at + 1) end s ≡ rest)
unfolding number_at answer_at
number_first s rest at end n h e =
    (rw (e, find_end 0 most_filter n rest (omega arith) (omega arith) h), sym (drop-drop 1 at (take end s)) ∙ ap (drop 1) e)

-- three numbers and what follows them
module _ (s rest : List ℕ) (at end n b p : ℕ) (small : n < 128) (few : b < 128) (low : p < 128) (e : slice at end s ≡ n ∷ b ∷ p ∷ rest) where
  three_numbers : filter_at s at end ≡ field_at s at end n b p (at + 1 + 1 + 1)
  unfolding left_at
  three_numbers =
      let one = number_first s (b ∷ p ∷ rest) at end n small e in
      let two = number_first s (p ∷ rest) (at + 1) end b few one.1 in
      let three = number_first s rest (at + 1 + 1) end p low two.1 in
      let some : left_at s at end ≡ 0 → ⊥ = rw e (omega arith) in
      filter_numbers_lem s at end some ∙ numbers_read s at end n (at + 1) one.0 b (at + 1 + 1) two.0 p (at + 1 + 1 + 1) three.0

pub no_bits : (s : List ℕ) (at end : ℕ) → slice at end s ≡ 0x01 ∷ 0x00 ∷ 0x07 ∷ [] → RefusedWith (filter_at s at end) 5 at
no_bits s at end e =
    record {
      refusal = NoBits at;
      is = three_numbers s [] at end 1 0 7 (omega arith) (omega arith) (omega arith) e ∙ field_no_bits s at end 1 0 7 _ (omega arith) refl;
      numbered = refl;
      returned = refl;
    }

pub probe_too_many : (s : List ℕ) (at end x y : ℕ) → slice at end s ≡ 0x01 ∷ 0x0a ∷ 0x41 ∷ x ∷ y ∷ [] → RefusedWith (filter_at s at end) 4 at
probe_too_many s at end x y e =
    record {
      refusal = PastSize at;
      is = three_numbers s (x ∷ y ∷ []) at end 1 10 65 (omega arith) (omega arith) (omega arith) e
          ∙ field_probes s at end 1 10 65 _ (omega arith) (omega arith) (omega arith);
      numbered = refl;
      returned = refl;
    }

pub most_probes : (s : List ℕ) (at end x y : ℕ) → slice at end s ≡ 0x01 ∷ 0x0a ∷ 0x40 ∷ x ∷ y ∷ [] → ReadAs s at end (at + 5) 1 10 64 (x ∷ y ∷ [])
unfolding filter_bytes shortest sevens filter_with filter_rules field_size
most_probes s at end x y e =
    let written = filter_written s [] at end (filter_of4 1 10 64 (x ∷ y ∷ [])) refl (omega arith) e in
    record {
      numbers = numbers_of 1 10 64 (at + 1 + 1 + 1) 2;
      is = written.0 ∙ ap (λ (next : ℕ). Ok (numbers_of 1 10 64 (at + 1 + 1 + 1) 2, next)) (omega arith);
      says = rw written.1;
    }
