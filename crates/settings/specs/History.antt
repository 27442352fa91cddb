-- What an append changes and what it doesn't. 02, M-107: asked at its version a new setting is the answer, and no earlier answer changes.
use Rattle.std.specs.Prelude.{ℕ, suc, ◌≤◌, ◌<◌, true, List, [], ◌∷◌, ◌++◌, ◌≡◌, length, Ok}
use Rattle.rules.specs.Hash.{Bytes}
use Rattle.rules.specs.Output.{Output}
use Rattle.settings.specs.Settings.{crate_choice, allowed, setting_size, settings_of, settings_checked, choice_of, setting_for, newest_version, appended}
use Rattle.settings.specs.declared.choice.Choice.{Choice}

-- A list, what was appended to it for a station, and the longer list.
pub record Appends (s : List ℕ) (station : ℕ) (c : Choice) (r : List ℕ) : Type 0 where
  -- what is appended is one record of bytes, and the longer list is good, with one record more
  pub long : length r ≡ setting_size
  pub bytes : Bytes r
  pub good : (n : ℕ) → settings_checked s ≡ Ok n → settings_checked (s ++ r) ≡ Ok (suc n)
  -- the list's values are the old ones and the new one
  pub values : settings_of (s ++ r) ≡ settings_of s ++ (record { version = suc (newest_version s); station = station; choice = c } ∷ [])
  pub newest : newest_version (s ++ r) ≡ suc (newest_version s)
  -- no earlier answer changes: of any station at a version up to the old list's last, and of any other station at any version
  pub stays : (other version : ℕ) → version ≤ newest_version s → setting_for (s ++ r) other version ≡ setting_for s other version
  pub others : (other version : ℕ) → (other ≡ station → ⊥) → setting_for (s ++ r) other version ≡ setting_for s other version
  -- the new one is the answer for its station from its version on
  pub new : (version : ℕ) → newest_version s < version → setting_for (s ++ r) station version ≡ Ok c

-- All that is shown of settings lists.
pub record History : Type 0 where
  pub appends : (s : List ℕ) (station : ℕ) (c : Choice) (r : List ℕ) → appended s station c ≡ Output.bytes r → Appends s station c r
  -- an answer is an allowed choice
  pub within : (s : List ℕ) (station version : ℕ) (c : Choice) → setting_for s station version ≡ Ok c → allowed c ≡ true
  -- no station has a setting at version 0
  pub earliest : (s : List ℕ) (station n : ℕ) → settings_checked s ≡ Ok n → choice_of (settings_of s) station 0 ≡ crate_choice
