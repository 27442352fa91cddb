-- Copies one after the other are all of what is put. Assumes nothing.
use Prim.Native.Nat.{ℕ, ◌*◌, ◌≤◌}
use mathlib.Core.List.{List}
use mathlib.Core.Path.{◌≡◌}
use lib.ListN.{length}
use lib.Seq.{length-take-le}
use Rattle.bloom.specs.Have.{have_words, have_count, haves_of}
use Rattle.session_state.specs.Value.{Lent, kept_haves}
use native.Mathlib.Omega.{arith}
use Rattle.session.specs.Laid.{laid_bytes}
use Rattle.receive_haves.specs.Internal.HavesLaid.{Layable}
use Rattle.receive_decide.specs.Internal.ReceivedCounts.{LaidFit}

-- what laying out asks
pub laid_fits : (message words : List ℕ) (count : ℕ) (records bytes : List ℕ) → LaidFit message words count records bytes
    → Layable message (kept_haves words count)
    × (have_words * have_count (kept_haves words count) ≤ length records)
    × (length (laid_bytes (haves_of message (kept_haves words count))) ≤ length bytes)
laid_fits message words count records bytes f =
    (f.layable, omega (arith, length-take-le (have_words * count) words f.there, f.room), f.bytes_room)

-- lists that are equal one by one are equal
pub lents_same : {a a' b b' c c' d d' e e' f f' g g' : List ℕ} → a ≡ a' → b ≡ b' → c ≡ c' → d ≡ d' → e ≡ e' → f ≡ f' → g ≡ g'
    → ◌≡◌ {A = Lent} (record { shared = a; last_sent = b; their_heads = c; their_need = d; haves = e; bytes = f; sent = g })
    (record { shared = a'; last_sent = b'; their_heads = c'; their_need = d'; haves = e'; bytes = f'; sent = g' })
lents_same a b c d e f g = rw (a, b, c, d, e, f, g)
