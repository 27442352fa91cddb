-- What an append changes and what it doesn't. 02, M-107. Assumes nothing.
use Prim.Native.Nat.{ℕ, zero, suc, ◌+◌, ◌-◌, ◌*◌, ◌/◌, ◌%◌, ◌≤◌, ◌<◌}
use mathlib.Core.Bool.{Bool, true, false, cond, ◌&&◌}
use mathlib.Core.List.{List, [], ◌∷◌, ◌++◌}
use mathlib.Core.Path.{◌≡◌, refl, sym, ap, ap₂, ◌∙◌}
use native.Mathlib.Nat.{mul-div_cancel, mul-mod_left, div-div-eq-div-mul, mod-lt}
use native.Mathlib.Omega.{arith}
use borrow.Author.Tests.{eq-eqb, ne_eqb, ltb-true, ltb-false, lt-ltb, leb-true, le-leb, lt-leb}
use lib.Dec.{ltb, leb, eqb}
use lib.ListN.{length, get_or, replicate, length-append, get_or-append}
use lib.Seq.{get_or-append-add}
use Rattle.bloom.proofs.Rules.{pair_good_lem}
use Rattle.bloom.specs.Filter.{SettingGood, most_bits}
use Rattle.rules.proofs.ByteLaws.{bytes_cons, zeros_bytes}
use Rattle.rules.proofs.Cases.{split, both}
use Rattle.rules.specs.Hash.{Bytes}
use Rattle.rules.specs.LittleEndian.{u32_at}
use Rattle.rules.specs.Output.{Output}
use Rattle.rules.specs.Sizes.{sizes}
use Rattle.rules.specs.Zeros.{bytes_at, zeros}
use Rattle.rules.specs.declared.refusal.Refusal.{Refusal}
use Rattle.rules.specs.declared.refusal.Refusal.TheVariants.{BadSettings, BadSetting}
use Rattle.settings.specs.History.{Appends, History}
use Rattle.settings.specs.Settings.{
  StationSetting,
  crate_choice,
  allowed,
  setting_size,
  most_number,
  setting_at,
  settings_at,
  settings_of,
  u32_bytes,
  setting_bytes,
  version_before,
  setting_good,
  settings_checked,
  counts,
  asked_from,
  choice_of,
  setting_for,
  newest_version,
  appendable,
  setting_after,
  appended,
}
use Rattle.settings.specs.declared.choice.Choice.{Choice}
use Rattle.table.proofs.CheckLaws.{RecordsSound, records_sound, good_records}
use Rattle.table.specs.TableCalls.{after_check}
use Rattle.std.specs.Prelude.{Result, Ok, Err}

-- ---- a list that was checked

never_good : (i n : ℕ) → Err (BadSettings i) ≡ Ok n → ⊥
never_good i n e =
    let z : ◌≡◌ {A = ℕ} 0 1 = cc in
    omega arith

abbrev Sound : List ℕ → ℕ → Type 0
Sound s n = RecordsSound (setting_good s) setting_size (length s) n

pub sound_has : (s : List ℕ) (n : ℕ) → settings_checked s ≡ Ok n → Sound s n
unfolding settings_checked
sound_has s n e = records_sound _ (setting_good s) setting_size (length s) never_good n e

counted : (s : List ℕ) (n : ℕ) → length s ≡ n * setting_size → length s / setting_size ≡ n
counted s n whole = ap (λ (k : ℕ). k / setting_size) whole ∙ mul-div_cancel n {n = setting_size} (omega arith)

has_sound : (s : List ℕ) (n : ℕ) → length s ≡ n * setting_size → ((i : ℕ) → i < n → setting_good s i ≡ true) → settings_checked s ≡ Ok n
unfolding settings_checked
has_sound s n whole each =
    let is = counted s n whole in
    let rest : length s % setting_size ≡ 0 = ap (λ (k : ℕ). k % setting_size) whole ∙ mul-mod_left n setting_size in
    good_records _ (setting_good s) setting_size (length s) rest (λ i h. each i (omega arith)) ∙ ap Ok is

-- ---- what stands before and behind

module _ (s r : List ℕ) where
  get_front : (k : ℕ) → k < length s → get_or (s ++ r) k 0 ≡ get_or s k 0
  get_front k h = get_or-append s r 0 k h

  u32_front : (k : ℕ) → k + 4 ≤ length s → u32_at (s ++ r) k ≡ u32_at s k
  unfolding u32_at
  u32_front k h = rw (get_front k (omega arith), get_front (k + 1) (omega arith), get_front (k + 2) (omega arith), get_front (k + 3) (omega arith))

  bytes_front : (at c : ℕ) → at + c ≤ length s → bytes_at (s ++ r) at c ≡ bytes_at s at c
  unfolding bytes_at
  bytes_front at zero h = refl
  bytes_front at (suc c) h = ap₂ (λ (a : ℕ) (l : List ℕ). a ∷ l) (get_front at (omega arith)) (bytes_front (at + 1) c (omega arith))

  get_behind : (at k : ℕ) → at ≡ length s + k → get_or (s ++ r) at 0 ≡ get_or r k 0
  get_behind at k e = ap (λ (i : ℕ). get_or (s ++ r) i 0) e ∙ get_or-append-add s r k 0

  pub u32_behind : (at k : ℕ) → at ≡ length s + k → u32_at (s ++ r) at ≡ u32_at r k
  unfolding u32_at
  u32_behind at k e = rw (get_behind at k e, get_behind (at + 1) (k + 1) (omega arith), get_behind (at + 2) (k + 2) (omega arith), get_behind (at + 3) (k + 3) (omega arith))

  pub bytes_behind : (at k c : ℕ) → at ≡ length s + k → bytes_at (s ++ r) at c ≡ bytes_at r k c
  unfolding bytes_at
  bytes_behind at k zero e = refl
  bytes_behind at k (suc c) e = ap₂ (λ (a : ℕ) (l : List ℕ). a ∷ l) (get_behind at k e) (bytes_behind (at + 1) (k + 1) c (omega arith))

  module _ (n : ℕ) (whole : length s ≡ n * setting_size) where
    setting_front : (i : ℕ) → i < n → setting_at (s ++ r) i ≡ setting_at s i
    unfolding setting_at
    setting_front i h =
        rw (u32_front (i * setting_size) (omega arith), u32_front (i * setting_size + 4) (omega arith), u32_front (i * setting_size + 8) (omega arith), u32_front (i * setting_size + 12) (omega arith), get_front (i * setting_size + 16) (omega arith))

    before_front : (i : ℕ) → i ≤ n → version_before (s ++ r) i ≡ version_before s i
    unfolding version_before
    before_front zero h = refl
    before_front (suc i) h = ap (λ (x : StationSetting). x.version) (setting_front i (omega arith))

    good_front : (i : ℕ) → i < n → setting_good (s ++ r) i ≡ setting_good s i
    unfolding setting_good
    good_front i h = rw (before_front i (omega arith), setting_front i h, bytes_front (i * setting_size + 17) (setting_size - 17) (omega arith))

    settings_front : (i c : ℕ) → i + c ≤ n → settings_at (s ++ r) i c ≡ settings_at s i c
    unfolding settings_at
    settings_front i zero h = refl
    settings_front i (suc c) h = ap₂ (λ (a : StationSetting) (l : List StationSetting). a ∷ l) (setting_front i (omega arith)) (settings_front (suc i) c (omega arith))

-- ---- the new record

pub four : (v : ℕ) → v ≤ most_number → v % 256 + 256 * (v / 256 % 256 + 256 * (v / 65536 % 256 + 256 * (v / 16777216 % 256))) ≡ v
four v h =
    let a : v / 65536 ≡ v / 256 / 256 = sym (div-div-eq-div-mul v 256 256) in
    let b : v / 16777216 ≡ v / 256 / 256 / 256 = sym (ap (λ (x : ℕ). x / 256) (div-div-eq-div-mul v 256 256) ∙ div-div-eq-div-mul v 65536 256) in
    rw (a, b) (digits v (v / 256) (v / 256 / 256) (v / 256 / 256 / 256) refl refl refl (small v h))
  where
    small : (v : ℕ) → v ≤ most_number → v / 256 / 256 / 256 < 256
    small v h = omega arith

    digits : (v a b c : ℕ) → v / 256 ≡ a → a / 256 ≡ b → b / 256 ≡ c → c < 256 → v % 256 + 256 * (a % 256 + 256 * (b % 256 + 256 * (c % 256))) ≡ v
    digits v a b c e f g h = omega arith

-- numbers that four bytes and one byte are
record Small (x : StationSetting) : Type 0 where
  version : x.version ≤ most_number
  station : x.station ≤ most_number
  bits : x.choice.bits ≤ most_number
  probes : x.choice.probes ≤ most_number

pub record-long : (x : StationSetting) → length (setting_bytes x) ≡ setting_size
unfolding setting_bytes u32_bytes
record-long x = refl

record-zeros : (x : StationSetting) → zeros (bytes_at (setting_bytes x) 17 (setting_size - 17)) ≡ true
unfolding setting_bytes u32_bytes bytes_at zeros
record-zeros x = refl

module _ (x : StationSetting) (small : Small x) where
  read_version : u32_at (setting_bytes x) 0 ≡ x.version
  unfolding setting_bytes u32_bytes u32_at
  read_version = four x.version small.version

  read_station : u32_at (setting_bytes x) 4 ≡ x.station
  unfolding setting_bytes u32_bytes u32_at
  read_station = four x.station small.station

  read_bits : u32_at (setting_bytes x) 8 ≡ x.choice.bits
  unfolding setting_bytes u32_bytes u32_at
  read_bits = four x.choice.bits small.bits

  read_probes : u32_at (setting_bytes x) 12 ≡ x.choice.probes
  unfolding setting_bytes u32_bytes u32_at
  read_probes = four x.choice.probes small.probes

  read_byte : get_or (setting_bytes x) 16 0 ≡ x.choice.read_only
  unfolding setting_bytes u32_bytes
  read_byte = refl

  made : ℕ → ℕ → ℕ → ℕ → ℕ → StationSetting
  made v st b p t = record { version = v; station = st; choice = record { bits = b; probes = p; read_only = t } }

  setting_behind : (s : List ℕ) (n : ℕ) → length s ≡ n * setting_size → setting_at (s ++ setting_bytes x) n ≡ x
  unfolding setting_at
  setting_behind s n whole =
      rw (
        u32_behind s (setting_bytes x) (n * setting_size) 0 (omega arith) ∙ read_version,
        u32_behind s (setting_bytes x) (n * setting_size + 4) 4 (omega arith) ∙ read_station,
        u32_behind s (setting_bytes x) (n * setting_size + 8) 8 (omega arith) ∙ read_bits,
        u32_behind s (setting_bytes x) (n * setting_size + 12) 12 (omega arith) ∙ read_probes,
        get_behind s (setting_bytes x) (n * setting_size + 16) 16 (omega arith) ∙ read_byte,
      )

  good_behind : (s : List ℕ) (n : ℕ) → length s ≡ n * setting_size → ltb (version_before s n) x.version ≡ true → allowed x.choice ≡ true
      → setting_good (s ++ setting_bytes x) n ≡ true
  unfolding setting_good
  good_behind s n whole newer ok =
      rw (setting_behind s n whole, before_front s (setting_bytes x) n whole n (omega arith), newer, ok)
      (ap zeros (bytes_behind s (setting_bytes x) (n * setting_size + 17) 17 (setting_size - 17) (omega arith)) ∙ record-zeros x)

-- what is written are bytes
u32_is_bytes : (n : ℕ) (rest : List ℕ) → Bytes rest → Bytes (u32_bytes n ++ rest)
unfolding u32_bytes
u32_is_bytes n rest h =
    bytes_cons (n % 256) (n / 256 % 256 ∷ n / 65536 % 256 ∷ n / 16777216 % 256 ∷ rest) (byte_of n)
    (bytes_cons (n / 256 % 256) (n / 65536 % 256 ∷ n / 16777216 % 256 ∷ rest) (byte_of (n / 256))
    (bytes_cons (n / 65536 % 256) (n / 16777216 % 256 ∷ rest) (byte_of (n / 65536)) (bytes_cons (n / 16777216 % 256) rest (byte_of (n / 16777216)) h)))
  where
    byte_of : (m : ℕ) → m % 256 < 256
    byte_of m = mod-lt m (let z : 0 < 256 = omega arith in z)

setting_is_bytes : (y : StationSetting) → y.choice.read_only ≤ 1 → Bytes (setting_bytes y)
unfolding setting_bytes
setting_is_bytes y h =
    u32_is_bytes y.version _ (u32_is_bytes y.station _ (u32_is_bytes y.choice.bits _ (u32_is_bytes y.choice.probes _ (bytes_cons y.choice.read_only (replicate 15 0) (omega arith) (zeros_bytes 15)))))

and_off : (b : Bool) → (b && false) ≡ false
and_off true = refl
and_off false = refl

-- ---- one more record

settings_end : (s : List ℕ) (i c : ℕ) → settings_at s i (suc c) ≡ settings_at s i c ++ setting_at s (i + c) ∷ []
unfolding settings_at
settings_end s i zero = ap (λ (k : ℕ). setting_at s k ∷ []) (let z : i ≡ i + 0 = omega arith in z)
settings_end s i (suc c) =
    ap (λ (l : List StationSetting). setting_at s i ∷ l)
    (settings_end s (suc i) c ∙ ap (λ (k : ℕ). settings_at s (suc i) c ++ setting_at s k ∷ []) (let z : suc i + c ≡ i + suc c = omega arith in z))

asked_end : (c : Choice) (l : List StationSetting) (x : StationSetting) (station version : ℕ)
    → asked_from c (l ++ x ∷ []) station version ≡ cond (eqb x.station station && leb x.version version) x.choice (asked_from c l station version)
unfolding asked_from
asked_end c [] x station version = refl
asked_end c (y ∷ l) x station version = asked_end (cond (eqb y.station station && leb y.version version) y.choice c) l x station version

-- ---- an append

pub allowed_small : (c : Choice) → allowed c ≡ true → (c.bits ≤ most_bits) × (c.probes ≤ sizes.probes) × (c.read_only ≤ 1)
unfolding allowed
allowed_small c e =
    let a = both (leb 1 c.bits && leb c.bits most_bits) ((leb 1 c.probes && leb c.probes sizes.probes) && leb c.read_only 1) e in
    let b = both (leb 1 c.probes && leb c.probes sizes.probes) (leb c.read_only 1) a.1 in (
      leb-true c.bits most_bits (both (leb 1 c.bits) (leb c.bits most_bits) a.0).1,
      leb-true c.probes sizes.probes (both (leb 1 c.probes) (leb c.probes sizes.probes) b.0).1,
      leb-true c.read_only 1 b.1,
    )

-- filters that are built with an allowed choice keep the filter rules
pub allowed_pair : (c : Choice) → allowed c ≡ true → SettingGood c.bits c.probes
unfolding allowed
allowed_pair c e =
    let k = allowed_small c e in
    let a = both (leb 1 c.bits && leb c.bits most_bits) ((leb 1 c.probes && leb c.probes sizes.probes) && leb c.read_only 1) e in
    pair_good_lem c.bits c.probes (leb-true 1 c.bits (both (leb 1 c.bits) (leb c.bits most_bits) a.0).0) k.0 k.1

-- what an append that was given has
record Given (s : List ℕ) (station : ℕ) (c : Choice) (r : List ℕ) : Type 0 where
  count : ℕ
  sound : Sound s count
  checked : settings_checked s ≡ Ok count
  ok : allowed c ≡ true
  named : station ≤ most_number
  left : newest_version s < most_number
  is : r ≡ setting_bytes (record { version = suc (newest_version s); station = station; choice = c })

no_bytes : (x : Refusal) (r : List ℕ) → Output.refuse x ≡ Output.bytes r → ⊥
no_bytes x r e =
    let z : ◌≡◌ {A = ℕ} 0 1 = cc in
    omega arith

given_has : (s : List ℕ) (station : ℕ) (c : Choice) (r : List ℕ) → appended s station c ≡ Output.bytes r → Given s station c r
unfolding appended after_check setting_after appendable
given_has s station c r e = opened (settings_checked s) refl
  where
    opened : (g : Result ℕ Refusal) → settings_checked s ≡ g → Given s station c r
    opened (Err z) q = absurd (no_bytes z r (rw q at e))
    opened (Ok n) q =
        let e₁ = rw q at e in
        split (allowed c && (leb station most_number && ltb (newest_version s) most_number))
        (λ x.
        let same : Output.bytes (setting_bytes (record { version = suc (newest_version s); station = station; choice = c })) ≡ Output.bytes r = rw x at e₁ in
        let a = both (allowed c) (leb station most_number && ltb (newest_version s) most_number) x in
        let b = both (leb station most_number) (ltb (newest_version s) most_number) a.1 in
        record {
          count = n;
          sound = sound_has s n q;
          checked = q;
          ok = a.0;
          named = leb-true station most_number b.0;
          left = ltb-true (newest_version s) most_number b.1;
          is = cc;
        })
        (λ x. absurd (no_bytes BadSetting r (rw x at e₁)))

module _ (s : List ℕ) (station : ℕ) (c : Choice) (r : List ℕ) (a : Given s station c r) where
  abbrev x : StationSetting
  x = record { version = suc (newest_version s); station = station; choice = c }

  small : Small x
  small =
      let k = allowed_small c a.ok in
      record {
        version = (let z = a.left in omega arith);
        station = a.named;
        bits = (let z = k.0 in omega arith);
        probes = (let z = k.1 in omega arith);
      }

  newest : version_before s a.count ≡ newest_version s
  unfolding newest_version
  newest = ap (version_before s) a.sound.count

  whole_after : length (s ++ r) ≡ suc a.count * setting_size
  whole_after =
      length-append s r
      ∙ (let z = ap length a.is ∙ record-long x in
      let y = a.sound.whole in
      let w : length s + length r ≡ suc a.count * setting_size = omega arith in
      w)

  each_after : (i : ℕ) → i < suc a.count → setting_good (s ++ r) i ≡ true
  each_after i l =
      split (ltb i a.count)
      (λ q. good_front s r a.count a.sound.whole i (ltb-true i a.count q) ∙ a.sound.each i (ltb-true i a.count q))
      (λ q.
      let same : i ≡ a.count = (let z = ltb-false i a.count q in omega arith) in
      let good : setting_good (s ++ setting_bytes x) a.count ≡ true =
      good_behind x small s a.count a.sound.whole (lt-ltb (version_before s a.count) (suc (newest_version s)) (let z = newest in omega arith)) a.ok
      in
      ap₂ (λ (l : List ℕ) (k : ℕ). setting_good (s ++ l) k) a.is same ∙ good)

  checked_after : settings_checked (s ++ r) ≡ Ok (suc a.count)
  checked_after = has_sound (s ++ r) (suc a.count) whole_after each_after

  behind : setting_at (s ++ r) a.count ≡ x
  behind = ap (λ (l : List ℕ). setting_at (s ++ l) a.count) a.is ∙ setting_behind x small s a.count a.sound.whole

  newest_after : newest_version (s ++ r) ≡ suc (newest_version s)
  unfolding newest_version version_before
  newest_after = ap (version_before (s ++ r)) (counted (s ++ r) (suc a.count) whole_after) ∙ ap (λ (y : StationSetting). y.version) behind

  values_after : settings_of (s ++ r) ≡ settings_of s ++ x ∷ []
  unfolding settings_of
  values_after =
      ap (settings_at (s ++ r) 0) (counted (s ++ r) (suc a.count) whole_after)
      ∙ settings_end (s ++ r) 0 a.count
      ∙ ap₂ (λ (l : List StationSetting) (y : StationSetting). l ++ y ∷ []) (settings_front s r a.count a.sound.whole 0 a.count (omega arith))
      (ap (setting_at (s ++ r)) (let z : 0 + a.count ≡ a.count = omega arith in z) ∙ behind)
      ∙ ap (λ (k : ℕ). settings_at s 0 k ++ x ∷ []) a.sound.count

  after_is : (other version : ℕ) → setting_for (s ++ r) other version
      ≡ Ok (cond (eqb station other && leb (suc (newest_version s)) version) c (choice_of (settings_of s) other version))
  unfolding setting_for choice_of
  after_is other version = rw (checked_after, values_after) (ap Ok (asked_end crate_choice (settings_of s) x other version))

  before_is : (other version : ℕ) → setting_for s other version ≡ Ok (choice_of (settings_of s) other version)
  unfolding setting_for
  before_is other version = rw a.checked

  record-bytes : Bytes r
  record-bytes = ap_bytes a.is
    where
      ap_bytes : r ≡ setting_bytes x → Bytes r
      ap_bytes e = rw e (setting_is_bytes x (allowed_small c a.ok).2)

  appends_record : Appends s station c r
  appends_record =
      record {
        long = ap length a.is ∙ record-long x;
        bytes = record-bytes;
        good = λ n e. checked_after ∙ ap (λ (m : ℕ). Ok (suc m)) (let same : Ok a.count ≡ Ok n = sym a.checked ∙ e in let z : a.count ≡ n = cc in z);
        values = values_after;
        newest = newest_after;
        stays =
            λ other version h.
            after_is other version
            ∙ ap (λ (t : Bool). Ok (cond t c (choice_of (settings_of s) other version)))
            (ap (λ (t : Bool). eqb station other && t) (lt-leb (suc (newest_version s)) version (omega arith)) ∙ and_off (eqb station other))
            ∙ sym (before_is other version);
        others =
            λ other version h.
            after_is other version
            ∙ ap (λ (t : Bool). Ok (cond (t && leb (suc (newest_version s)) version) c (choice_of (settings_of s) other version))) (ne_eqb station other (λ q. h (sym q)))
            ∙ sym (before_is other version);
        new =
            λ version h.
            after_is station version
            ∙ ap₂ (λ (t u : Bool). Ok (cond (t && u) c (choice_of (settings_of s) station version))) (eq-eqb station station refl) (le-leb (suc (newest_version s)) version h);
      }

-- ---- answers are allowed

good_allowed : (s : List ℕ) (i : ℕ) → setting_good s i ≡ true → (allowed (setting_at s i).choice ≡ true) × (0 < (setting_at s i).version)
unfolding setting_good
good_allowed s i g =
    let p = both (ltb (version_before s i) (setting_at s i).version) (allowed (setting_at s i).choice && zeros (bytes_at s (i * setting_size + 17) (setting_size - 17))) g in (
      (both (allowed (setting_at s i).choice) (zeros (bytes_at s (i * setting_size + 17) (setting_size - 17))) p.1).0,
      (let z : version_before s i < (setting_at s i).version = ltb-true (version_before s i) (setting_at s i).version p.0 in omega arith),
    )

asked_allowed : (s : List ℕ) (i n : ℕ) (c : Choice) (station version : ℕ) → allowed c ≡ true → ((k : ℕ) → i ≤ k → k < i + n → setting_good s k ≡ true)
    → allowed (asked_from c (settings_at s i n) station version) ≡ true
unfolding asked_from settings_at
asked_allowed s i zero c station version ok f = ok
asked_allowed s i (suc n) c station version ok f =
    asked_allowed s (suc i) n (cond (counts (setting_at s i) station version) (setting_at s i).choice c) station version
    (either_way (counts (setting_at s i) station version))
    (λ k p q. f k (omega arith) (omega arith))
  where
    either_way : (b : Bool) → allowed (cond b (setting_at s i).choice c) ≡ true
    either_way true = (good_allowed s i (f i (omega arith) (omega arith))).0
    either_way false = ok

asked_zero : (s : List ℕ) (i n : ℕ) (c : Choice) (station : ℕ) → ((k : ℕ) → i ≤ k → k < i + n → setting_good s k ≡ true)
    → asked_from c (settings_at s i n) station 0 ≡ c
unfolding asked_from settings_at
asked_zero s i zero c station f = refl
asked_zero s i (suc n) c station f =
    let z : leb (setting_at s i).version 0 ≡ false = lt-leb (setting_at s i).version 0 (good_allowed s i (f i (omega arith) (omega arith))).1 in
    ap (λ (t : Bool). asked_from (cond t (setting_at s i).choice c) (settings_at s (suc i) n) station 0)
    (ap (λ (u : Bool). eqb (setting_at s i).station station && u) z ∙ and_off (eqb (setting_at s i).station station))
    ∙ asked_zero s (suc i) n c station (λ k p q. f k (omega arith) (omega arith))

crate_allowed : allowed crate_choice ≡ true
unfolding allowed
crate_allowed = refl

within_list : (s : List ℕ) (station version : ℕ) (c : Choice) → setting_for s station version ≡ Ok c → allowed c ≡ true
unfolding setting_for choice_of settings_of
within_list s station version c e = opened (settings_checked s) refl
  where
    opened : (g : Result ℕ Refusal) → settings_checked s ≡ g → allowed c ≡ true
    opened (Err z) q = absurd (let b : Err z ≡ Ok c = rw q at e in let w : ◌≡◌ {A = ℕ} 0 1 = cc in omega arith)
    opened (Ok n) q =
        let f = sound_has s n q in
        let same : Ok (asked_from crate_choice (settings_at s 0 (length s / setting_size)) station version) ≡ Ok c = rw q at e in
        let is : asked_from crate_choice (settings_at s 0 (length s / setting_size)) station version ≡ c = cc in
        ap allowed (sym is) ∙ asked_allowed s 0 (length s / setting_size) crate_choice station version crate_allowed (λ j p r. f.each j (omega (arith, f.count)))

pub history : History
unfolding choice_of settings_of
history =
    record {
      appends = λ s station c r e. appends_record s station c r (given_has s station c r e);
      within = within_list;
      earliest =
          λ s station n k.
          let f = sound_has s n k in
          asked_zero s 0 (length s / setting_size) crate_choice station (λ j p q. f.each j (omega (arith, f.count)));
    }
