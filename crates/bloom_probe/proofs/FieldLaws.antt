-- What adding hashes does to a field. Setting a bit leaves every bit at the larger of what it was and what was set, so a bit once set stays
-- set, and the order in which bits are set makes no difference. Hence what was added is contained, in whatever order it was added.
use Prim.Native.Nat.{ℕ, ◌+◌, ◌*◌, ◌/◌, ◌%◌, ◌^◌, ◌≤◌, ◌<◌, max}
use mathlib.Core.Bool.{true, false}
use mathlib.Core.List.{List, [], ◌∷◌, ◌++◌}
use mathlib.Core.Path.{◌≡◌, refl, sym, ap, ap₂, ◌∙◌}
use native.Mathlib.Nat.{mod-lt}
use native.Mathlib.Omega.{arith}
use borrow.Author.Tests.{ltb-true, ltb-false, ne_eqb, eqb-true, eqb-false}
use lib.Arith.{bin_ind}
use lib.Bits.{bit_or, or_step, or_shr, or_comm, or_lt}
use lib.Dec.{ltb, eqb}
use lib.ListN.{length, get_or, set, replicate, length-set, length-append, length-replicate}
use lib.Pow.{shl-shr, pow-lt}
use lib.Seq.{get_or-set_same, get_or-set_other, set_out, set-set, set_comm}
use Rattle.hash_order.proofs.KeepLaws.{member_long}
use Rattle.hash_order.proofs.OrderLaws.{member_none, member_here, member_there, member_behind}
use Rattle.hash_order.specs.Order.{member}
use Rattle.rules.proofs.Cases.{split, or_left}
use Rattle.rules.specs.Hash.{Bytes}
use Rattle.bloom_probe.specs.Build.{set_bit, set_bits, add_hash, add_hashes, filter_of}
use Rattle.bloom_probe.specs.Contains.{clear_at, none_clear, contains, any_contains}
use Rattle.bloom_probe.specs.Probes.{probes_of, bit_at}
use Rattle.bloom.specs.Filter.{Filter, field_size, filter_rules}
use Rattle.bloom.proofs.Rules.{capacity_covers, ruled}
use Rattle.bloom_probe.proofs.ProbeLaws.{probes_below}

-- ---- bits of a number

or_bit : (a b j : ℕ) → bit_or a b / 2 ^ j % 2 ≡ max (a / 2 ^ j % 2) (b / 2 ^ j % 2)
or_bit a b j = rw or_shr (omega (arith, or_step (a / 2 ^ j) (b / 2 ^ j)))

power_bit : (j : ℕ) → 2 ^ j / 2 ^ j % 2 ≡ 1
power_bit j =
    let e : 1 * 2 ^ j ≡ 2 ^ j = omega arith in
    ap (λ (n : ℕ). n / 2 ^ j % 2) (sym e) ∙ ap (λ (n : ℕ). n % 2) (shl-shr 1 j)

or_half : (a b : ℕ) → bit_or a b / 2 ≡ bit_or (a / 2) (b / 2)
or_half a b = omega (arith, or_step a b)

or_odd : (a b : ℕ) → bit_or a b % 2 ≡ max (a % 2) (b % 2)
or_odd a b = omega (arith, or_step a b)

or_swap : (a b c : ℕ) → bit_or (bit_or a b) c ≡ bit_or (bit_or a c) b
or_swap a =
    bin_ind (λ (n : ℕ). (b c : ℕ) → bit_or (bit_or n b) c ≡ bit_or (bit_or n c) b)
    (λ b c. or_comm b c)
    (λ n ih b c.
    let low : max (bit_or n b % 2) (c % 2) ≡ max (bit_or n c % 2) (b % 2) = omega (arith, or_odd n b, or_odd n c) in
    let rest : bit_or (bit_or n b / 2) (c / 2) ≡ bit_or (bit_or n c / 2) (b / 2) = rw (or_half n b, or_half n c) (ih (b / 2) (c / 2)) in
    or_step (bit_or n b) c ∙ ap₂ (λ (x y : ℕ). x * 2 + y) rest low ∙ sym (or_step (bit_or n c) b))
    a

-- ---- one bit set

pub length_set_bit : (field : List ℕ) (k : ℕ) → length (set_bit field k) ≡ length field
unfolding set_bit
length_set_bit field k = simp length-set

-- A byte stays, or gets the bit.
each_byte : (P : ℕ → Type 0) (field : List ℕ) (k i : ℕ)
    → P (get_or field i 0)
    → P (bit_or (get_or field i 0) (2 ^ (k % 8)))
    → P (get_or (set_bit field k) i 0)
unfolding set_bit
each_byte P field k i stays gets =
    split (eqb i (k / 8))
    (λ e.
    let same : i ≡ k / 8 = eqb-true _ _ e in
    split (ltb i (length field))
    (λ l. rw (← same, get_or-set_same field i (bit_or (get_or field i 0) (2 ^ (k % 8))) 0 (ltb-true _ _ l)) gets)
    (λ l. rw (← same, set_out field i (bit_or (get_or field i 0) (2 ^ (k % 8))) (ltb-false _ _ l)) stays))
    (λ e. rw (get_or-set_other field (k / 8) i (bit_or (get_or field (k / 8) 0) (2 ^ (k % 8))) 0 (eqb-false _ _ e)) stays)

pub bytes_set_bit : (field : List ℕ) (k : ℕ) → Bytes field → Bytes (set_bit field k)
bytes_set_bit field k b i =
    each_byte (λ x. x < 256) field k i (b i) (or_lt 8 (get_or field i 0) (2 ^ (k % 8)) (b i) (pow-lt (mod-lt k (omega arith))))

pub bit_set : (field : List ℕ) (k : ℕ) → k / 8 < length field → bit_at (set_bit field k) k ≡ 1
unfolding bit_at set_bit
bit_set field k h =
    let byte : ℕ = get_or field (k / 8) 0 in
    rw (get_or-set_same field (k / 8) (bit_or byte (2 ^ (k % 8))) 0 h, or_bit byte (2 ^ (k % 8)) (k % 8)) (omega (arith, power_bit (k % 8)))

pub bit_stays : (field : List ℕ) (k j : ℕ) → bit_at field j ≡ 1 → bit_at (set_bit field k) j ≡ 1
unfolding bit_at
bit_stays field k j e =
    each_byte (λ x. x / 2 ^ (j % 8) % 2 ≡ 1) field k (j / 8) e (rw (or_bit (get_or field (j / 8) 0) (2 ^ (k % 8)) (j % 8)) (omega arith))

-- A bit is clear or set.
not_clear : (field : List ℕ) (k : ℕ) → bit_at field k ≡ 1 → clear_at field k ≡ false
unfolding clear_at
not_clear field k e = rw e

then_set : (field : List ℕ) (k : ℕ) → clear_at field k ≡ false → bit_at field k ≡ 1
unfolding clear_at bit_at
then_set field k e = omega (arith, eqb-false (get_or field (k / 8) 0 / 2 ^ (k % 8) % 2) 0 e)

set_not_clear : (field : List ℕ) (k : ℕ) → k < 8 * length field → clear_at (set_bit field k) k ≡ false
set_not_clear field k h = not_clear (set_bit field k) k (bit_set field k (omega arith))

stays_not_clear : (field : List ℕ) (k j : ℕ) → clear_at field j ≡ false → clear_at (set_bit field k) j ≡ false
stays_not_clear field k j e = not_clear (set_bit field k) j (bit_stays field k j (then_set field j e))

-- ---- the bits of several probes

pub length_set_bits : (field ks : List ℕ) → length (set_bits field ks) ≡ length field
unfolding set_bits
length_set_bits field [] = refl
length_set_bits field (k ∷ ks) = length_set_bits (set_bit field k) ks ∙ length_set_bit field k

pub length_add_hash : (p : ℕ) (field : List ℕ) (h : ℕ) → length (add_hash p field h) ≡ length field
unfolding add_hash
length_add_hash p field h = length_set_bits field (probes_of (8 * length field) p h)

pub length_add_hashes : (p : ℕ) (field hs : List ℕ) → length (add_hashes p field hs) ≡ length field
unfolding add_hashes
length_add_hashes p field [] = refl
length_add_hashes p field (h ∷ hs) = length_add_hashes p (add_hash p field h) hs ∙ length_add_hash p field h

bits_stay_not_clear : (field ks : List ℕ) (j : ℕ) → clear_at field j ≡ false → clear_at (set_bits field ks) j ≡ false
unfolding set_bits
bits_stay_not_clear field [] j e = e
bits_stay_not_clear field (k ∷ ks) j e = bits_stay_not_clear (set_bit field k) ks j (stays_not_clear field k j e)

set_none_clear : (field ks : List ℕ) → ((k : ℕ) → member k ks ≡ true → k < 8 * length field) → none_clear (set_bits field ks) ks ≡ true
unfolding set_bits none_clear
set_none_clear field [] inside = refl
set_none_clear field (k ∷ ks) inside =
    rw (bits_stay_not_clear (set_bit field k) ks k (set_not_clear field k (inside k (member_here k ks))))
    (set_none_clear (set_bit field k) ks (λ j d. rw length_set_bit (inside j (member_there j k ks d))))

stay_none_clear : (field ks js : List ℕ) → none_clear field js ≡ true → none_clear (set_bits field ks) js ≡ true
unfolding none_clear
stay_none_clear field ks [] e = refl
stay_none_clear field ks (j ∷ js) e =
    split (clear_at field j)
    (λ c.
    let no : false ≡ true = rw c at e in
    let z : ◌≡◌ {A = ℕ} 0 1 = cc in
    absurd (omega arith))
    (λ c.
    let rest : none_clear field js ≡ true = rw c at e in
    rw (bits_stay_not_clear field ks j c) (stay_none_clear field ks js rest))

-- ---- no false no

hashes_stay : (p : ℕ) (field hs js : List ℕ) → none_clear field js ≡ true → none_clear (add_hashes p field hs) js ≡ true
unfolding add_hashes add_hash
hashes_stay p field [] js e = e
hashes_stay p field (h ∷ hs) js e =
    hashes_stay p (add_hash p field h) hs js (stay_none_clear field (probes_of (8 * length field) p h) js e)

hash_added : (p m : ℕ) (field hs : List ℕ) (h : ℕ) → m ≡ 8 * length field → 0 < m → member h hs ≡ true
    → none_clear (add_hashes p field hs) (probes_of m p h) ≡ true
unfolding add_hashes add_hash
hash_added p m field [] h e some d = absurd (member_none h d)
hash_added p m field (g ∷ hs) h e some d =
    split (eqb h g)
    (λ q.
    let same : h ≡ g = eqb-true h g q in
    let ks : List ℕ = probes_of (8 * length field) p g in
    rw (e, same) (hashes_stay p (add_hash p field g) hs ks (set_none_clear field ks (λ k. probes_below (8 * length field) p g k (omega arith)))))
    (λ q. hash_added p m (add_hash p field g) hs h (rw length_add_hash e) some (member_behind h g hs d (eqb-false h g q)))

some_entries : (hs : List ℕ) (h : ℕ) → member h hs ≡ true → eqb (length hs) 0 ≡ false
some_entries hs h d = ne_eqb (length hs) 0 (λ e. omega (arith, member_long h hs d))

-- Whatever the bits per entry and the probes are, as long as there is a bit: a hash that was added is contained.
pub added_contained : (b p : ℕ) (hs : List ℕ) (h : ℕ) → 0 < b → member h hs ≡ true → contains (filter_of b p hs) h ≡ true
unfolding contains filter_of
added_contained b p hs h bits d =
    let size : ℕ = field_size (length hs) b in
    let field : List ℕ = replicate size 0 in
    let long : length field ≡ size = length-replicate size 0 in
    let bits' : length hs ≤ 8 * size = capacity_covers (length hs) b bits in
    let same : 8 * length (add_hashes p field hs) ≡ 8 * length field = ap (λ (n : ℕ). 8 * n) (length_add_hashes p field hs) in
    rw (some_entries hs h d) (hash_added p _ field hs h same (omega (arith, member_long h hs d)) d)

-- A hash that was added is contained in a filter that keeps the rules.
pub accepted_contained : (b p : ℕ) (hs : List ℕ) (h : ℕ) → filter_rules (length hs) b p (field_size (length hs) b) ≡ true → member h hs ≡ true
    → contains (filter_of b p hs) h ≡ true
accepted_contained b p hs h rules d =
    added_contained b p hs h ((ruled (length hs) b p (field_size (length hs) b) rules).full (member_long h hs d)).some_bits d

-- A hash that was added is contained in a list of filters that begins with its own.
pub added_any : (b p : ℕ) (hs : List ℕ) (fs : List Filter) (h : ℕ) → 0 < b → member h hs ≡ true → any_contains (filter_of b p hs ∷ fs) h ≡ true
unfolding any_contains
added_any b p hs fs h bits d = or_left (contains (filter_of b p hs) h) (any_contains fs h) (added_contained b p hs h bits d)

-- ---- the order of adding

bytes_swap : (field : List ℕ) (i j a b : ℕ)
    → (set (set field i (bit_or (get_or field i 0) a)) j (bit_or (get_or (set field i (bit_or (get_or field i 0) a)) j 0) b))
    ≡ (set (set field j (bit_or (get_or field j 0) b)) i (bit_or (get_or (set field j (bit_or (get_or field j 0) b)) i 0) a))
bytes_swap field i j a b =
    let x : ℕ = get_or field i 0 in
    let y : ℕ = get_or field j 0 in
    split (eqb i j)
    (λ e.
    let same : i ≡ j = eqb-true _ _ e in
    split (ltb j (length field))
    (λ l.
    let h : j < length field = ltb-true _ _ l in
    rw (
      same,
      get_or-set_same field j (bit_or y a) 0 h,
      get_or-set_same field j (bit_or y b) 0 h,
      set-set field j (bit_or y a) (bit_or (bit_or y a) b),
      set-set field j (bit_or y b) (bit_or (bit_or y b) a),
      or_swap y a b,
    ))
    (λ l.
    let out : (c : ℕ) → set field j (bit_or y c) ≡ field = λ c. set_out field j (bit_or y c) (ltb-false _ _ l) in
    rw same
    (ap (λ (f : List ℕ). set f j (bit_or (get_or f j 0) b)) (out a)
    ∙ out b
    ∙ sym (out a)
    ∙ sym (ap (λ (f : List ℕ). set f j (bit_or (get_or f j 0) a)) (out b)))))
    (λ e.
    let other : i ≡ j → ⊥ = eqb-false _ _ e in
    rw (get_or-set_other field i j (bit_or x a) 0 (λ q. other (sym q)), get_or-set_other field j i (bit_or y b) 0 other)
    (set_comm field i j (bit_or x a) (bit_or y b) other))

pub bit_order : (field : List ℕ) (j k : ℕ) → set_bit (set_bit field j) k ≡ set_bit (set_bit field k) j
unfolding set_bit
bit_order field j k = bytes_swap field (j / 8) (k / 8) (2 ^ (j % 8)) (2 ^ (k % 8))

bit_before : (field ks : List ℕ) (j : ℕ) → set_bits (set_bit field j) ks ≡ set_bit (set_bits field ks) j
unfolding set_bits
bit_before field [] j = refl
bit_before field (k ∷ ks) j = rw (bit_order field j k) (bit_before (set_bit field k) ks j)

pub bits_order : (field js ks : List ℕ) → set_bits (set_bits field js) ks ≡ set_bits (set_bits field ks) js
unfolding set_bits
bits_order field [] ks = refl
bits_order field (j ∷ js) ks = bits_order (set_bit field j) js ks ∙ ap (λ (f : List ℕ). set_bits f js) (bit_before field ks j)

pub add_order : (p : ℕ) (field : List ℕ) (g h : ℕ) → add_hash p (add_hash p field g) h ≡ add_hash p (add_hash p field h) g
unfolding add_hash
add_order p field g h =
    let m : ℕ = 8 * length field in
    rw (length_set_bits field (probes_of m p g), length_set_bits field (probes_of m p h)) (bits_order field (probes_of m p g) (probes_of m p h))

added_order : (p : ℕ) (field xs ys : List ℕ) (g h : ℕ) → add_hashes p field (xs ++ g ∷ h ∷ ys) ≡ add_hashes p field (xs ++ h ∷ g ∷ ys)
unfolding add_hashes
added_order p field [] ys g h = ap (λ (f : List ℕ). add_hashes p f ys) (add_order p field g h)
added_order p field (x ∷ xs) ys g h = added_order p (add_hash p field x) xs ys g h

-- Whichever of two neighbours was added first, the filter is the same: so it is in whatever order hashes are added.
pub built_order : (b p : ℕ) (xs ys : List ℕ) (g h : ℕ) → filter_of b p (xs ++ g ∷ h ∷ ys) ≡ filter_of b p (xs ++ h ∷ g ∷ ys)
unfolding filter_of
built_order b p xs ys g h = simp length-append (rw (added_order p _ xs ys g h))
