-- The user's words: if all is granted of each message that is reached, there is a last one, in one of the first max(j, k) + 1 exchanges. Among the messages of so many
-- exchanges there is one after which both hold the joint set, since the ends do; the first such message, or the second of all, is the last. Assumes nothing.
use Prim.Native.Nat.{ℕ, zero, suc, ◌≤◌, ◌<◌, max}
use mathlib.Core.Bool.{Bool, true, false, not, cond, ◌&&◌}
use mathlib.Core.List.{List}
use mathlib.Core.Logic.{◌⊎◌, inl, inr}
use mathlib.Core.Path.{◌≡◌}
use native.Mathlib.Omega.{arith}
use lib.ListN.{length}
use Rattle.bloom.specs.declared.setting.Setting.{Setting}
use Rattle.hash_order.proofs.ReachLaws.{below_suc}
use Rattle.hash_order.specs.Order.{member}
use Rattle.rules.proofs.Cases.{split, both, true_false, and_true}
use Rattle.session.specs.Written.{Host}
use Rattle.table.specs.Table.{Row, held}
use Rattle.waiting.specs.Waiting.{Waiting}
use Rattle.walk.specs.Walk.{holds_all, lacking}
use Rattle.walk_ends.proofs.BothEnds.{both_ends, turns_named}
use Rattle.walk_ends.proofs.Exchanging.{turns_exchange}
use Rattle.walk_ends.specs.Ends.{BothEnds, first_speaks}
use Rattle.walk_ends.specs.Joint.{twice}
use Rattle.walk_ends_sessions.proofs.Talk.{Standing, inside_standing, next, statement}
use Rattle.walk_ends_sessions.specs.TalkEnds.{both_hold, MessageReached, MessageGranted, MessageUnderway, EndTables, EndsMeet, SessionsMeet}
use Rattle.walk_sessions.specs.Passing.{Passes}

-- what each has named, by who spoke first
by_first : (b : Bool) (J X Y : List Row) (l m : List ℕ) → length l ≡ lacking J (cond b Y X) → length m ≡ lacking J (cond b X Y) → length (cond b l m) ≡ lacking J Y
by_first true J X Y l m e f = e
by_first false J X Y l m e f = f

which_first : (b : Bool) (J X Y : List Row) (l m : List ℕ) (h : ℕ)
    → member h l ≡ (held J h && not (held (cond b Y X) h))
    → member h m ≡ (held J h && not (held (cond b X Y) h))
    → member h (cond b l m) ≡ (held J h && not (held Y h))
which_first true J X Y l m h e f = e
which_first false J X Y l m h e f = f

-- the other's
by_second : (b : Bool) (J X Y : List Row) (l m : List ℕ) → length l ≡ lacking J (cond b Y X) → length m ≡ lacking J (cond b X Y) → length (cond b m l) ≡ lacking J X
by_second true J X Y l m e f = f
by_second false J X Y l m e f = e

which_second : (b : Bool) (J X Y : List Row) (l m : List ℕ) (h : ℕ)
    → member h l ≡ (held J h && not (held (cond b Y X) h))
    → member h m ≡ (held J h && not (held (cond b X Y) h))
    → member h (cond b m l) ≡ (held J h && not (held X h))
which_second true J X Y l m h e f = f
which_second false J X Y l m h e f = e

twice_two : (n : ℕ) → 2 ≤ twice (suc n)
unfolding twice
twice_two n = omega arith

module _ (set : ℕ → Setting) (pass : ℕ → Passes) (J : List Row) (T : ℕ → List Row) (W : ℕ → List Waiting) (hosts : ℕ → Host) (tables : EndTables set pass J T W hosts)
    (all : (i : ℕ) → MessageReached set pass J T W hosts i → MessageGranted set pass J T W hosts i) where
  abbrev Comes : ℕ → Type 0
  Comes i = MessageReached set pass J T W hosts i

  abbrev done : ℕ → Bool
  done i = both_hold set pass J T W hosts i

  abbrev most : ℕ
  most = max (lacking J (T 1)) (lacking J (T 0))

  promised : BothEnds J (T 1) (T 0)
  promised = both_ends J (T 1) (T 0) tables.joint

  inside : (i : ℕ) → Comes i → MessageUnderway set pass J T W hosts i
  inside i r = record { reached = r; granted = λ k h. all k (λ n two less. r n two (omega arith)) }

  stands : (i : ℕ) → Comes i → Standing set pass J T W hosts tables i
  stands i r = inside_standing set pass J T W hosts tables i (inside i r)

  -- after the message as well
  stands_after : (i : ℕ) → Comes i → Standing set pass J T W hosts tables (suc i)
  stands_after i r = next set pass J T W hosts tables i (stands i r) (λ two. r i two (omega arith)) (all i r).accepts (all i r)

  -- The last message below n: it is reached, and both hold the joint set after it.
  record Last (n : ℕ) : Type 0 where
    message : ℕ
    less : message < n
    comes : Comes message
    holds : done (suc message) ≡ true

  search : (n : ℕ) → Comes (suc n) ⊎ Last (suc n)
  search zero = inl (λ k two less. absurd (omega arith))
  search (suc n) = after (search n)
    where
      after : Comes (suc n) ⊎ Last (suc n) → Comes (suc (suc n)) ⊎ Last (suc (suc n))
      after (inr l) = inr (record { message = l.message; less = omega (arith, l.less); comes = l.comes; holds = l.holds })
      after (inl r) =
          split (done (suc (suc n)))
          (λ e. inr (record { message = suc n; less = omega arith; comes = r; holds = e }))
          (λ e.
          inl (λ k two less.
          below_suc (λ j. 2 ≤ j → done j ≡ false) (suc (suc n)) (λ j h twoj. r j twoj (omega arith)) (λ twoj. e) k (omega arith) two))

  abbrev messages : ℕ
  messages = twice (suc most)

  found : Comes messages ⊎ Last messages → Last messages
  found (inr l) = l
  found (inl r) =
      let st = stands messages r in
      let held-so = promised.ends (suc most) _ _ ((turns_exchange J (T 1) (T 0)).exchanged (suc most) _ _ st.turns) (omega arith) in
      absurd (true_false (done messages) (and_true _ _ held-so.1 held-so.0) (r messages (twice_two most) (omega arith)))

  pub meeting : EndsMeet set pass J T W hosts (lacking J (T 1)) (lacking J (T 0))
  unfolding twice
  meeting =
      let l = found (search (suc (twice most))) in
      let inner : (i : ℕ) → i ≤ l.message → MessageUnderway set pass J T W hosts i = λ i h. inside i (λ k two less. l.comes k two (omega arith)) in
      let granted : (i : ℕ) → i ≤ l.message → MessageGranted set pass J T W hosts i = λ i h. all i (inner i h).reached in
      let stated = statement set pass J T W hosts tables in
      let st = stands_after l.message l.comes in
      let holding = both (holds_all J (T (suc l.message))) (holds_all J (T (suc (suc l.message)))) l.holds in
      let n = turns_named tables.joint st.turns holding.1 holding.0 in
      record {
        last = l.message;
        bound = l.less;
        reached = l.comes;
        holds = l.holds;
        says = λ i h. let x = (stated.stated i (inner i h) (granted i h).accepts).agrees in (x.message, x.next, x.speaks);
        takes = λ i h. stated.heard i (inner i h) (granted i h);
        to_second =
            by_first (first_speaks (suc l.message)) J (T 1) (T 0) _ _ (rw st.carries at n.by_speaker) (rw st.carries' at n.by_hearer);
        to_first =
            by_second (first_speaks (suc l.message)) J (T 1) (T 0) _ _ (rw st.carries at n.by_speaker) (rw st.carries' at n.by_hearer);
        which_to_second = λ h.
            which_first (first_speaks (suc l.message)) J (T 1) (T 0) _ _ h (rw st.carries at (n.which_by_speaker h)) (rw st.carries' at (n.which_by_hearer h));
        which_to_first = λ h.
            which_second (first_speaks (suc l.message)) J (T 1) (T 0) _ _ h (rw st.carries at (n.which_by_speaker h)) (rw st.carries' at (n.which_by_hearer h));
      }

pub sessions_meet : SessionsMeet
sessions_meet set pass J T W hosts tables all = meeting set pass J T W hosts tables all
