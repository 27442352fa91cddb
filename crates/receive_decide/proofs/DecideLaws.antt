-- What the code decides, one law for each way out, with the code's tests as hypotheses. Assumes nothing.
use Prim.Native.Nat.{ℕ, ◌*◌, ◌≤◌, ◌<◌}
use mathlib.Core.Bool.{Bool, true, false}
use mathlib.Core.Path.{◌≡◌, ap}
use borrow.Author.Tests.{lt-ltb, le-ltb}
use Rattle.bloom.specs.Have.{have_words}
use Rattle.rules.specs.Sizes.{sizes}
use Rattle.rules.specs.declared.refusal.Refusal.{Refusal}
use Rattle.rules.specs.declared.refusal.Refusal.TheVariants.{PastSize, NoRoom}
use Rattle.session_state.specs.declared.session.Session.{Session}
use Rattle.receive_decide.specs.Internal.ReceivedCounts.{session_counts, counts_room, counts_decided, is_taken}
use Rattle.session.specs.declared.receive_answer.ReceiveAnswer.{ReceiveAnswer}
use Rattle.session.specs.declared.receive_answer.ReceiveAnswer.TheVariants.{Took, Failed}
use Rattle.session.specs.declared.receive_answer.SessionRooms.{SessionRooms}
use Rattle.session.specs.Rooms.{if_room}
use Rattle.receive_decide.specs.declared.decide.ReceivedCounts.{ReceivedCounts}
use Rattle.std.specs.Prelude.{Result, Ok, Err}

-- ---- room

module _ (d : ReceivedCounts) (r : SessionRooms) where
  pub shared_short : r.shared < sizes.hash * d.shared → Err (sizes.hash * d.shared) ≡ counts_room d r
  unfolding counts_room
  shared_short h = rw (lt-ltb _ _ h)

  module _ (shared : sizes.hash * d.shared ≤ r.shared) where
    pub last_short : r.last_sent < sizes.hash * d.last_sent → Err (sizes.hash * d.last_sent) ≡ counts_room d r
    unfolding counts_room
    last_short h = rw (le-ltb _ _ shared, lt-ltb _ _ h)

    module _ (last : sizes.hash * d.last_sent ≤ r.last_sent) where
      pub heads_short : r.their_heads < sizes.hash * d.heads → Err (sizes.hash * d.heads) ≡ counts_room d r
      unfolding counts_room
      heads_short h = rw (le-ltb _ _ shared, le-ltb _ _ last, lt-ltb _ _ h)

      module _ (heads : sizes.hash * d.heads ≤ r.their_heads) where
        pub need_short : r.their_need < sizes.hash * d.need → Err (sizes.hash * d.need) ≡ counts_room d r
        unfolding counts_room
        need_short h = rw (le-ltb _ _ shared, le-ltb _ _ last, le-ltb _ _ heads, lt-ltb _ _ h)

        module _ (need : sizes.hash * d.need ≤ r.their_need) where
          pub haves_short : r.haves < have_words * d.haves → Err (have_words * d.haves) ≡ counts_room d r
          unfolding counts_room
          haves_short h = rw (le-ltb _ _ shared, le-ltb _ _ last, le-ltb _ _ heads, le-ltb _ _ need, lt-ltb _ _ h)

          module _ (haves : have_words * d.haves ≤ r.haves) where
            pub bytes_short : r.bytes < d.bytes → Err d.bytes ≡ counts_room d r
            unfolding counts_room
            bytes_short h = rw (le-ltb _ _ shared, le-ltb _ _ last, le-ltb _ _ heads, le-ltb _ _ need, le-ltb _ _ haves, lt-ltb _ _ h)

            pub enough : d.bytes ≤ r.bytes → Ok tt ≡ counts_room d r
            unfolding counts_room
            enough h = rw (le-ltb _ _ shared, le-ltb _ _ last, le-ltb _ _ heads, le-ltb _ _ need, le-ltb _ _ haves, le-ltb _ _ h)

-- ---- the answer

module _ (flagged : Session) (failed : Bool) (d : ReceivedCounts) (r : SessionRooms) where
  pub is_failed : failed ≡ true → Ok (Failed flagged) ≡ counts_decided flagged failed d r
  unfolding counts_decided
  is_failed e = rw e

  module _ (fine : failed ≡ false) where
    pub is_past : sizes.hashes < d.shared → Err (PastSize 0) ≡ counts_decided flagged failed d r
    unfolding counts_decided
    is_past h = rw (fine, lt-ltb _ _ h)

    module _ (few : d.shared ≤ sizes.hashes) (room : Result Unit ℕ) (asked : room ≡ counts_room d r) where
      pub is_short : (wanted : ℕ) → room ≡ Err wanted → Err (NoRoom wanted) ≡ counts_decided flagged failed d r
      unfolding counts_decided if_room
      is_short wanted e = rw (fine, le-ltb _ _ few, ← asked, e)

      pub is-taken : (next : Session) → room ≡ Ok tt → next ≡ session_counts flagged d → Ok (Took next) ≡ counts_decided flagged failed d r
      unfolding counts_decided if_room
      is-taken next e is = rw (fine, le-ltb _ _ few, ← asked, e) (ap (λ x. Ok (Took x)) is)

-- ---- whether it was taken

module _ (a : Result ReceiveAnswer Refusal) where
  pub took_taken : (s : Session) → a ≡ Ok (Took s) → true ≡ is_taken a
  unfolding is_taken
  took_taken s e = rw e

  pub failed_left : (s : Session) → a ≡ Ok (Failed s) → false ≡ is_taken a
  unfolding is_taken
  failed_left s e = rw e

  pub refused_left : (r : Refusal) → a ≡ Err r → false ≡ is_taken a
  unfolding is_taken
  refused_left r e = rw e
