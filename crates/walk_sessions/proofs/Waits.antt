-- What loading leaves beside a part of A: a longer table, and waiting rows that stand once and ask for A's dependencies. So what is missing from hashes
-- of A are rows of A, and no list of them is longer than A. Assumes nothing.
use Prim.Native.Nat.{ℕ, ◌≤◌}
use mathlib.Core.Bool.{true}
use mathlib.Core.List.{List, [], ◌∷◌}
use mathlib.Core.Path.{◌≡◌, sym, ap, ◌∙◌}
use native.Mathlib.Nat.{le_trans}
use native.Mathlib.Omega.{arith}
use lib.ListN.{length, length-append}
use Rattle.table_graph.proofs.BelowLaws.{deps_held}
use Rattle.session.specs.GoodState.{SoundTable}
use Rattle.message.specs.Sound.{SoundHashes}
use Rattle.waiting_missing.proofs.MissingLaws.{missing_ascends, missing_induction}
use Rattle.waiting_missing.specs.Missing.{missing}
use Rattle.hash_order.proofs.KeepLaws.{once_ascends, once_inside, hashes_inside}
use Rattle.hash_order.proofs.OrderLaws.{member_none}
use Rattle.hash_order.specs.Order.{member, ascends, often, Once}
use Rattle.rules.specs.Sizes.{sizes}
use Rattle.table.proofs.TableLaws.{length_rows}
use Rattle.table.specs.Table.{Row, rows, held}
use Rattle.waiting.specs.Waiting.{Waiting, waiting}
use Rattle.walk.proofs.Loading.{AsksDeps, settles_asked}
use Rattle.walk.specs.Round.{Part, Settles, done, step, Loads}

-- ---- loading

settles_longer : {b : List Row} {w : List Waiting} {b' : List Row} {w' : List Waiting} → Settles b w b' w' → length b ≤ length b'
settles_longer (done f) = omega arith
settles_longer (step {b} {w} {b'} m s) =
    let one : length b' ≡ _ = ap length m.grown ∙ length-append b (record { hash = m.hash; deps = m.numbers } ∷ []) in
    omega (arith, one, settles_longer s)

settles_once : {b : List Row} {w : List Waiting} {b' : List Row} {w' : List Waiting} → Settles b w b' w' → Once (waiting w) → Once (waiting w')
settles_once (done f) o = o
settles_once (step m s) o = settles_once s (λ h. le_trans (m.once h) (o h))

-- What waits beside a part of A: each row once, with A's dependencies.
pub record Waits (A : List Row) (w : List Waiting) : Type 0 where
  pub once : Once (waiting w)
  pub ask : AsksDeps A w

-- nothing waits so
pub waits_none : (A : List Row) → Waits A []
unfolding waiting often
waits_none A = record { once = λ h. omega arith; ask = λ h d m. absurd (member_none h m) }

module _ {A b : List Row} {w : List Waiting} {reply : List ℕ} {b' : List Row} {w' : List Waiting} (ld : Loads A b w reply b' w') where
  pub loads_longer : length b ≤ length b'
  loads_longer = settles_longer ld.settles

  pub loads_waits : Waits A w'
  loads_waits = record { once = settles_once ld.settles ld.joins.once; ask = settles_asked A ld.settles ld.joins.ask }

-- ---- lists of A's rows

module _ (A : List Row) (sound : SoundTable A) where
  -- an ascending list of A's rows may stand anywhere
  pub rows_few : (l : List ℕ) → ascends l ≡ true → ((h : ℕ) → member h l ≡ true → held A h ≡ true) → length l ≤ sizes.rows
  unfolding held
  rows_few l a f = le_trans (once_inside l (rows A) (once_ascends l a) f) (rw (length_rows A) sound.few)

  pub rows_sound : (l : List ℕ) → ascends l ≡ true → ((h : ℕ) → member h l ≡ true → held A h ≡ true) → SoundHashes l
  unfolding held
  rows_sound l a f = record { few = le_trans (rows_few l a f) (omega arith); are = hashes_inside l (rows A) sound.are f }

  pub part_few : (b : List Row) → Part A b → length b ≤ length A
  unfolding held
  part_few b part = rw (length_rows b, length_rows A) at (once_inside (rows b) (rows A) part.good.once part.within)

  -- a part is a sound table as well
  pub part_sound : (b : List Row) → Part A b → SoundTable b
  unfolding held
  part_sound b part =
      record {
        good = part.good;
        are = hashes_inside (rows b) (rows A) sound.are part.within;
        few = le_trans (part_few b part) sound.few;
      }

  -- what is missing from A's rows is rows of A
  module _ (b : List Row) (w : List Waiting) (ws : Waits A w) (l : List ℕ) (have : (h : ℕ) → member h l ≡ true → held A h ≡ true) where
    pub missing_rows : (h : ℕ) → member h (missing b w l) ≡ true → held A h ≡ true
    missing_rows =
        missing_induction b w ws.once (λ h. held A h ≡ true) l have
        (λ g m n p d q. deps_held A sound.good g d (sym (ws.ask g d m) ∙ q))

    pub missing_sound : SoundHashes (missing b w l)
    missing_sound = rows_sound (missing b w l) (missing_ascends b w l) missing_rows
