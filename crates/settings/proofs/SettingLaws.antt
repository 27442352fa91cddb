-- Records of a settings list by their numbers, and how a list is gone through: each law is one turn of a loop or one way through the tests. Assumes nothing.
use Prim.Native.Nat.{ℕ, suc, ◌+◌, ◌-◌, ◌*◌, ◌/◌, ◌%◌, ◌≤◌, ◌<◌}
use mathlib.Core.Bool.{true, false, cond, ◌&&◌}
use mathlib.Core.List.{List, [], ◌∷◌}
use mathlib.Core.Path.{◌≡◌, refl, sym, ap, ◌∙◌}
use native.Mathlib.Nat.{mul-le-mul_right}
use native.Mathlib.Numerals.{add-one}
use native.Mathlib.Omega.{arith}
use borrow.Author.Tests.{eq-eqb, ne_eqb, ltb-true, lt-ltb, le-ltb, le-leb, lt-leb}
use lib.Dec.{ltb, leb}
use lib.ListN.{length, get_or, replicate}
use Rattle.bloom.specs.Filter.{most_bits}
use Rattle.rules.proofs.Cases.{both}
use Rattle.rules.specs.LittleEndian.{u32_at}
use Rattle.rules.specs.Output.{Output}
use Rattle.rules.specs.Sizes.{sizes}
use Rattle.rules.specs.Zeros.{bytes_at, zeros}
use Rattle.rules.specs.declared.refusal.Refusal.{Refusal}
use Rattle.rules.specs.declared.refusal.Refusal.TheVariants.{BadSettings, BadSetting}
use Rattle.settings.specs.Settings.{
  crate_choice,
  allowed,
  setting_size,
  most_number,
  setting_at,
  settings_at,
  settings_of,
  u32_bytes,
  setting_bytes,
  version_before,
  setting_good,
  settings_checked,
  counts,
  asked_from,
  choice_of,
  setting_for,
  newest_version,
  appendable,
  setting_after,
  appended,
}
use Rattle.settings.specs.declared.choice.Choice.{Choice}
use Rattle.settings.proofs.HistoryLaws.{sound_has, allowed_small}
use Rattle.table.proofs.CheckLaws.{records_bad, records_partial, records_good}
use Rattle.table.specs.TableBytes.{first_bad}
use Rattle.table.specs.TableCalls.{after_check}
use Rattle.std.specs.Prelude.{Ok, Err}

-- ---- a choice

module _ (c : Choice) where
  pub not_bits : (leb 1 c.bits && leb c.bits most_bits) ≡ false → allowed c ≡ false
  unfolding allowed
  not_bits e = rw e

  module _ (bits : (leb 1 c.bits && leb c.bits most_bits) ≡ true) where
    pub not_probes : (leb 1 c.probes && leb c.probes sizes.probes) ≡ false → allowed c ≡ false
    unfolding allowed
    not_probes e = rw (bits, e)

    pub by_byte : (leb 1 c.probes && leb c.probes sizes.probes) ≡ true → allowed c ≡ leb c.read_only 1
    unfolding allowed
    by_byte e = rw (bits, e)

-- ---- a record

-- a record of the first n stands there whole
pub record-within : (i n long : ℕ) → i < n → n * setting_size ≤ long → (i + 1) * setting_size ≤ long
record-within i n long h inside =
    let most : (i + 1) * setting_size ≤ n * setting_size = mul-le-mul_right setting_size (omega arith) in
    omega arith

module _ (s : List ℕ) (i : ℕ) where
  pub version_read : (r : ℕ) → r ≡ u32_at s (i * setting_size) → r ≡ (setting_at s i).version
  unfolding setting_at
  version_read r e = e

  pub station_read : (r : ℕ) → r ≡ u32_at s (i * setting_size + 4) → r ≡ (setting_at s i).station
  unfolding setting_at
  station_read r e = e

  pub choice_read : (b p t : ℕ) → b ≡ u32_at s (i * setting_size + 8) → p ≡ u32_at s (i * setting_size + 12) → t ≡ get_or s (i * setting_size + 16) 0
      → record { bits = b; probes = p; read_only = t } ≡ (setting_at s i).choice
  unfolding setting_at
  choice_read b p t e f g = rw (e, f, g)

  module _ (before v : ℕ) (is : before ≡ version_before s i) (read : v ≡ (setting_at s i).version) where
    pub good_old : v ≤ before → setting_good s i ≡ false
    unfolding setting_good
    good_old h = rw (← is, ← read, le-ltb before v h)

    module _ (newer : before < v) (c : Choice) (chosen : c ≡ (setting_at s i).choice) where
      pub good_not : allowed c ≡ false → setting_good s i ≡ false
      unfolding setting_good
      good_not e = rw (← is, ← read, lt-ltb before v newer, ← chosen, e)

      pub good_rest : allowed c ≡ true → setting_good s i ≡ zeros (bytes_at s (i * setting_size + 17) (setting_size - 17))
      unfolding setting_good
      good_rest e = rw (← is, ← read, lt-ltb before v newer, ← chosen, e)

-- the version before the next record is this one's
pub version_next : (s : List ℕ) (i v : ℕ) → v ≡ (setting_at s i).version → v ≡ version_before s (i + 1)
unfolding version_before
version_next s i v e = rw (add-one i) e

pub version_first : (s : List ℕ) → 0 ≡ version_before s 0
unfolding version_before
version_first s = refl

pub version_none : (s : List ℕ) (n : ℕ) → n ≡ 0 → 0 ≡ version_before s n
unfolding version_before
version_none s n e = rw e

pub version_last : (s : List ℕ) (n v : ℕ) → (n ≡ 0 → ⊥) → v ≡ (setting_at s (n - 1)).version → v ≡ version_before s n
unfolding version_before
version_last s n v h e =
    let d : n ≡ suc (n - 1) = omega arith in
    e ∙ ap (version_before s) (sym d)

-- ---- a record as bytes

pub u32_made : (n : ℕ) → (n % 256 ∷ n / 256 % 256 ∷ n / 65536 % 256 ∷ n / 16777216 % 256 ∷ []) ≡ u32_bytes n
unfolding u32_bytes
u32_made n = refl

pub setting_made : (version station : ℕ) (c : Choice) (v s b p : List ℕ) → v ≡ u32_bytes version → s ≡ u32_bytes station → b ≡ u32_bytes c.bits
    → p ≡ u32_bytes c.probes
    → get_or v 0 0 ∷ get_or v 1 0 ∷ get_or v 2 0 ∷ get_or v 3 0
    ∷ get_or s 0 0 ∷ get_or s 1 0 ∷ get_or s 2 0 ∷ get_or s 3 0
    ∷ get_or b 0 0 ∷ get_or b 1 0 ∷ get_or b 2 0 ∷ get_or b 3 0
    ∷ get_or p 0 0 ∷ get_or p 1 0 ∷ get_or p 2 0 ∷ get_or p 3 0
    ∷ c.read_only ∷ replicate 15 0
    ≡ setting_bytes (record { version = version; station = station; choice = c })
unfolding setting_bytes u32_bytes
setting_made version station c v s b p e f g h = rw (e, f, g, h)

-- ---- a list is checked

module _ (s : List ℕ) (r : ℕ) (e : r ≡ first_bad (setting_good s) 0 (length s / setting_size)) where
  pub settings_bad : r < length s / setting_size → Err (BadSettings r) ≡ settings_checked s
  unfolding settings_checked
  settings_bad h = sym (records_bad _ (setting_good s) setting_size (length s) r e h)

  module _ (none : length s / setting_size ≤ r) where
    pub settings_partial : (length s % setting_size ≡ 0 → ⊥) → Err (BadSettings (length s / setting_size)) ≡ settings_checked s
    unfolding settings_checked
    settings_partial h = sym (records_partial _ (setting_good s) setting_size (length s) r e none h)

    pub settings_fine : length s % setting_size ≡ 0 → Ok (length s / setting_size) ≡ settings_checked s
    unfolding settings_checked
    settings_fine h = sym (records_good _ (setting_good s) setting_size (length s) r e none h)

-- ---- asked

module _ (s : List ℕ) (station version : ℕ) where
  -- what the records from i on leave of a choice
  pub asking : ℕ → Choice → ℕ → Choice
  asking n c i = asked_from c (settings_at s i (n - i)) station version

  pub ask_starts : (n : ℕ) (c : Choice) → c ≡ crate_choice → asking n c 0 ≡ choice_of (settings_at s 0 n) station version
  unfolding asking choice_of
  ask_starts n c e =
      let d : n - 0 ≡ n = omega arith in
      rw (d, e)

  pub ask_on : (n : ℕ) (c c' : Choice) (i : ℕ) → i < n → c' ≡ cond (counts (setting_at s i) station version) (setting_at s i).choice c
      → asking n c i ≡ asking n c' (i + 1)
  unfolding asking asked_from settings_at
  ask_on n c c' i h e =
      let d : n - i ≡ suc (n - (i + 1)) = omega arith in
      rw (d, add-one i, e)

  pub ask_ends : (n : ℕ) (c : Choice) (i : ℕ) → n ≤ i → asking n c i ≡ c
  unfolding asking asked_from settings_at
  ask_ends n c i h =
      let d : n - i ≡ 0 = omega arith in
      rw d

  pub not_station : (i : ℕ) (c : Choice) (st : ℕ) → st ≡ (setting_at s i).station → (st ≡ station → ⊥)
      → c ≡ cond (counts (setting_at s i) station version) (setting_at s i).choice c
  not_station i c st is h = rw (← is, ne_eqb st station h)

  module _ (i : ℕ) (c : Choice) (st v : ℕ) (is : st ≡ (setting_at s i).station) (read : v ≡ (setting_at s i).version) where
    pub not_yet : st ≡ station → version < v → c ≡ cond (counts (setting_at s i) station version) (setting_at s i).choice c
    not_yet q h = rw (← is, eq-eqb st station q, ← read, lt-leb v version h)

    pub counted_one : st ≡ station → v ≤ version → (setting_at s i).choice ≡ cond (counts (setting_at s i) station version) (setting_at s i).choice c
    counted_one q h = rw (← is, eq-eqb st station q, ← read, le-leb v version h)

module _ (s : List ℕ) (station version : ℕ) where
  pub asked_refused : (r : Refusal) → settings_checked s ≡ Err r → Err r ≡ setting_for s station version
  unfolding setting_for
  asked_refused r e = rw e

  pub asked_found : (n : ℕ) → settings_checked s ≡ Ok n → (c : Choice) → c ≡ choice_of (settings_at s 0 n) station version
      → Ok c ≡ setting_for s station version
  unfolding setting_for settings_of
  asked_found n e c f = rw (e, ← (sound_has s n e).count, f)

-- so many records stand there
pub checked_long : (s : List ℕ) (n : ℕ) → settings_checked s ≡ Ok n → n * setting_size ≤ length s
checked_long s n e = let z = (sound_has s n e).whole in omega arith

-- ---- appended

module _ (newest station : ℕ) (c : Choice) where
  pub not_allowed : allowed c ≡ false → appendable newest station c ≡ false
  unfolding appendable
  not_allowed e = rw e

  module _ (ok : allowed c ≡ true) where
    pub not_named : most_number < station → appendable newest station c ≡ false
    unfolding appendable
    not_named h = rw (ok, lt-leb station most_number h)

    pub by_version : station ≤ most_number → appendable newest station c ≡ ltb newest most_number
    unfolding appendable
    by_version h = rw (ok, le-leb station most_number h)

  pub append_fits : appendable newest station c ≡ true → (newest < most_number) × (c.read_only ≤ 1)
  unfolding appendable
  append_fits e =
      let a = both (allowed c) (leb station most_number && ltb newest most_number) e in
      (ltb-true newest most_number (both (leb station most_number) (ltb newest most_number) a.1).1, (allowed_small c a.0).2)

  pub append_bad : appendable newest station c ≡ false → setting_after newest station c ≡ Output.refuse BadSetting
  unfolding setting_after
  append_bad e = rw e

  pub append_new : appendable newest station c ≡ true
      → setting_after newest station c ≡ Output.bytes (setting_bytes (record { version = newest + 1; station = station; choice = c }))
  unfolding setting_after
  append_new e = rw (e, add-one newest)

module _ (s : List ℕ) (station : ℕ) (c : Choice) where
  pub append_refused : (r : Refusal) → settings_checked s ≡ Err r → appended s station c ≡ Output.refuse r
  unfolding appended after_check
  append_refused r e = rw e

  pub append_goes : (n : ℕ) → settings_checked s ≡ Ok n → (newest : ℕ) → newest ≡ version_before s n → appended s station c ≡ setting_after newest station c
  unfolding appended after_check newest_version
  append_goes n e newest f = rw (e, ← (sound_has s n e).count, f)
