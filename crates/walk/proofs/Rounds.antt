-- Rounds one after the other, in a whole J that neither end need hold: what is neither held nor waits grows fewer by each reply. A reply has only such
-- rows, each once, and all of them wait or are held afterwards; so no row is named twice, and the rows that were named are those that came. Once heads
-- were heard a round in which something is lacking has something missing, and something missing is answered: at least one row fewer each round.
-- Assumes nothing.
use Prim.Native.Nat.{ℕ, zero, suc, ◌+◌, ◌≤◌, ◌<◌}
use mathlib.Core.Bool.{Bool, true, false, not, ◌||◌, ◌&&◌}
use mathlib.Core.List.{List, [], ◌++◌}
use mathlib.Core.Logic.{◌⊎◌, inl, inr}
use mathlib.Core.Path.{◌≡◌, refl, sym, ap, ◌∙◌}
use native.Mathlib.Omega.{arith}
use lib.ListN.{length, length-append}
use Rattle.bloom.specs.Have.{Have}
use Rattle.table_graph.proofs.MarkLaws.{or_false}
use Rattle.table_graph.specs.Graph.{heads}
use Rattle.send_members.specs.Internal.Members.{last_syncs}
use Rattle.waiting_missing.specs.Missing.{missing}
use Rattle.hash_order.proofs.KeepLaws.{member_long, keep_member, keep_keep, keep_same, keep_parts, keep_none, once_none, once_keep, once_append, once_same}
use Rattle.hash_order.proofs.OrderLaws.{member_append, member_none}
use Rattle.hash_order.specs.Order.{member, keep, Once}
use Rattle.rules.proofs.Cases.{split, both, true_false, same_truth, either, and_true, or_right}
use Rattle.table.specs.Table.{Row, GoodTable, rows, held}
use Rattle.waiting.specs.Waiting.{Waiting, waiting}
use Rattle.walk.specs.Round.{Part, Gives, trim, Picks, Loads}
use Rattle.walk.specs.Walk.{At, starting, offer_to, lacking}
use Rattle.walk.proofs.Between.{cases, Between, unsent, unsent_count, none_left, some_missing}
use Rattle.walk.proofs.Loaded.{loads_beside, loads_more, loads_stuck, loads_all}
use Rattle.walk.proofs.Offers.{trim_kept, reply_held, reply_out, reply_new, reply_once, missing_answered}

-- ---- a round in a whole

-- A round in which X answers: a part of the whole, like B, that holds what B heard and the last-sync hashes that B names.
pub record Step (J X : List Row) (heard : List ℕ) (s : At) (haves : List Have) (reply : List ℕ) (s' : At) : Type 0 where
  pub sender : Part J X
  pub known : (h : ℕ) → member h heard ≡ true → held X h ≡ true
  pub gives : Gives s.table s.waits heard haves
  pub last : (h : ℕ) → member h (last_syncs haves) ≡ true → held X h ≡ true
  pub picks : Picks (offer_to X heard s haves) reply
  pub loads : Loads J s.table s.waits reply s'.table s'.waits
  pub sends : s'.sent ≡ trim X (heads s.table) s.sent ++ reply
  pub names : s'.named ≡ s.named ++ reply

-- What was heard are the heads of a part that has all that B lacked at first.
pub record HeardPart (J B : List Row) (heard : List ℕ) : Type 0 where
  pub said : List Row
  pub part : Part J said
  pub are : heard ≡ heads said
  pub rich : (h : ℕ) → held J h ≡ true → (held B h || held said h) ≡ true

-- k rounds from B on; heads are heard from round q on, counted from 0.
pub data Runs (J B : List Row) (q : ℕ) : ℕ → At → Type 0 where
  start : Runs J B q 0 (starting B)
  round : {k : ℕ} {s s' : At} (X : List Row) (heard : List ℕ) (haves : List Have) (reply : List ℕ) → Runs J B q k s
      → Step J X heard s haves reply s'
      → (q ≤ k → HeardPart J B heard)
      → Runs J B q (suc k) s'

-- ---- tests

or_out : (a b : Bool) → b ≡ false → (a || b) ≡ a
or_out a b e = rw e (or_false a)

-- what is left when a reply has come
rest_left : (w r b : Bool) → not ((w || r) || b) ≡ (not (w || b) && not r)
rest_left true r true = refl
rest_left true r false = refl
rest_left false true true = refl
rest_left false true false = refl
rest_left false false true = refl
rest_left false false false = refl

-- what was named when a reply has come, which wasn't held at first
more_named : (w r b z : Bool) → (r ≡ true → z ≡ false) → (((w || b) && not z) || r) ≡ (((w || r) || b) && not z)
more_named true true true z f = rw (f refl)
more_named true true false z f = rw (f refl)
more_named true false true true f = refl
more_named true false true false f = refl
more_named true false false true f = refl
more_named true false false false f = refl
more_named false true b z f = or_right (b && not z) true refl ∙ sym (rw (f refl))
more_named false false true true f = refl
more_named false false true false f = refl
more_named false false false true f = refl
more_named false false false false f = refl

-- ---- one round

module _ {J : List Row} (good : GoodTable J) {X : List Row} {heard : List ℕ} {s : At} {haves : List Have} {reply : List ℕ} {s' : At}
    (r : Step J X heard s haves reply s') (inv : Between J s.table s.waits s.sent) where
  -- rows that neither are held nor wait, each once
  pub step_ours : (h : ℕ) → member h reply ≡ true → held J h ≡ true
  step_ours h m = r.sender.within h (reply_held r.sender s inv heard r.known haves r.gives r.last reply r.picks h m)

  pub step_out : (h : ℕ) → member h reply ≡ true → held s.table h ≡ false
  step_out = reply_out r.sender s inv heard r.known haves r.gives r.last reply r.picks

  pub step_new : (h : ℕ) → member h reply ≡ true → member h (waiting s.waits) ≡ false
  step_new = reply_new r.sender s inv heard r.known haves r.gives r.last reply r.picks

  pub step_once : Once reply
  step_once = reply_once r.sender s inv heard r.known haves r.gives r.last reply r.picks

  still_out : (h : ℕ) → held s'.table h ≡ false → held s.table h ≡ false
  still_out h e = split (held s.table h) (λ k. absurd (true_false (held s'.table h) (loads_more r.loads h k) e)) (λ k. k)

  pending_after : (h : ℕ) → held s'.table h ≡ false → member h s'.sent ≡ member h (waiting s'.waits)
  pending_after h e =
      let out = still_out h e in
      let kept : List ℕ = trim X (heads s.table) s.sent in
      ap (member h) r.sends
      ∙ member_append h kept reply
      ∙ ap (λ (x : Bool). x || member h reply) (trim_kept r.sender s inv heard r.known h out)
      ∙ sym (or_out (member h (waiting s.waits) || member h reply) (held s.table h) out)
      ∙ sym (loads_all r.loads h)
      ∙ or_out (member h (waiting s'.waits)) (held s'.table h) e

  pub step_between : Between J s'.table s'.waits s'.sent
  step_between =
      record {
        beside = loads_beside inv.beside (λ h m. (step_ours h m, step_out h m)) r.loads;
        stuck = loads_stuck r.loads;
        pending = pending_after;
      }

  unsent_after : (h : ℕ) → unsent s'.table s'.waits h ≡ (unsent s.table s.waits h && not (member h reply))
  unsent_after h = ap not (loads_all r.loads h) ∙ rest_left (member h (waiting s.waits)) (member h reply) (held s.table h)

  -- what is left falls by the reply's length
  pub step_left : length reply + unsent_count J s'.table s'.waits ≡ unsent_count J s.table s.waits
  unfolding held
  step_left =
      let was : List ℕ = keep (unsent s.table s.waits) (rows J) in
      let came : length (keep (λ h. member h reply) was) ≡ length reply =
      once_same (keep (λ h. member h reply) was) reply
      (once_keep (λ h. member h reply) was (once_keep (unsent s.table s.waits) (rows J) good.once))
      step_once
      (λ h.
      same_truth (member h (keep (λ h. member h reply) was)) (member h reply)
      (λ m. (both (member h reply) (member h was) (sym (keep_member (λ h. member h reply) was h) ∙ m)).0)
      (λ m.
      keep_member (λ h. member h reply) was h
      ∙ and_true _ _ m
      (keep_member (unsent s.table s.waits) (rows J) h ∙ and_true (unsent s.table s.waits h) _ (rw (step_new h m, step_out h m)) (step_ours h m))))
      in
      let rest : keep (λ h. not (member h reply)) was ≡ keep (unsent s'.table s'.waits) (rows J) =
      keep_keep (λ h. not (member h reply)) (unsent s.table s.waits) (rows J)
      ∙ keep_same _ (unsent s'.table s'.waits) (rows J) (λ h m. sym (unsent_after h))
      in
      omega (arith, keep_parts (λ h. member h reply) was, came, ap length rest)

  -- and falls where heads were heard and something is lacking
  pub step_less : (B : List Row) → HeardPart J B heard → ((h : ℕ) → held B h ≡ true → held s.table h ≡ true)
      → ((h : ℕ) → held J h ≡ true → held s.table h ≡ true) ⊎ (unsent_count J s'.table s'.waits < unsent_count J s.table s.waits)
  step_less B hears since =
      cases (some_missing inv hears.said hears.part)
      (λ f. inl (λ h e. either (held B h) (held hears.said h) (hears.rich h e) (since h) (f h)))
      (λ f.
      let there : member f.0 (missing s.table s.waits heard) ≡ true = rw hears.are f.1 in
      let a = missing_answered r.sender s inv heard r.known haves r.gives r.last reply r.picks f.0 there in
      inr (omega (arith, step_left, member_long a.0 reply a.1)))

-- where all is held, nothing is left
pub held_none_left : (J b : List Row) (w : List Waiting) → ((h : ℕ) → held J h ≡ true → held b h ≡ true) → unsent_count J b w ≡ 0
unfolding held
held_none_left J b w f = ap length (keep_none (unsent b w) (rows J) (λ h m. ap not (or_right (member h (waiting w)) (held b h) (f h m))))

-- ---- rounds

-- Where a run from B stands.
pub record RunStands (J B : List Row) (q k : ℕ) (s : At) : Type 0 where
  -- B, W and T stand as they do between two rounds
  pub between : Between J s.table s.waits s.sent
  -- what B held is held
  pub kept : (h : ℕ) → held B h ≡ true → held s.table h ≡ true
  -- no row was named twice
  pub once : Once s.named
  -- those were named that came since: held or waiting, not held at first
  pub are : (h : ℕ) → member h s.named ≡ ((member h (waiting s.waits) || held s.table h) && not (held B h))
  -- what was named and what is left are what was lacking
  pub count : length s.named + unsent_count J s.table s.waits ≡ lacking J B
  -- since heads are heard, each round leaves one less, until nothing is left
  pub falls : (unsent_count J s.table s.waits ≡ 0) ⊎ (unsent_count J s.table s.waits + k ≤ lacking J B + q)

early : (q k : ℕ) → (q ≤ k) ⊎ (k < q)
early zero k = inl (omega arith)
early (suc q) zero = inr (omega arith)
early (suc q) (suc k) = cases (early q k) (λ e. inl (omega arith)) (λ e. inr (omega arith))

module _ {J : List Row} (good : GoodTable J) {B : List Row} (part : Part J B) (q : ℕ) where
  start_left : unsent_count J B [] ≡ lacking J B
  unfolding waiting member
  start_left = refl

  none_waits : (h : ℕ) → member h (waiting []) ≡ false
  unfolding waiting member
  none_waits h = refl

  begins : Between J B [] []
  unfolding waiting member
  begins =
      record {
        beside =
            record {
              part = part;
              ours = λ h m. absurd (member_none h m);
              unheld = λ h m. absurd (member_none h m);
              once = once_none;
              ask = λ h d m. absurd (member_none h m);
            };
        stuck = λ h m. absurd (member_none h m);
        pending = λ h e. refl;
      }

  start_stands : RunStands J B q 0 (starting B)
  unfolding member
  start_stands =
      record {
        between = begins;
        kept = λ h e. e;
        once = once_none;
        are = λ h. sym (rw (none_waits h) (never (held B h)));
        count = omega (arith, start_left);
        falls = inr (omega (arith, start_left));
      }
    where
      never : (a : Bool) → (a && not a) ≡ false
      never true = refl
      never false = refl

  next_stands : {k : ℕ} {s s' : At} {X : List Row} {heard : List ℕ} {haves : List Have} {reply : List ℕ} → RunStands J B q k s
      → Step J X heard s haves reply s'
      → (q ≤ k → HeardPart J B heard)
      → RunStands J B q (suc k) s'
  next_stands {k} {s} {s'} {X} {heard} {haves} {reply} st r hears =
      record {
        between = step_between good r st.between;
        kept = λ h e. loads_more r.loads h (st.kept h e);
        once = rw r.names (once_append s.named reply st.once (step_once good r st.between) apart);
        are = are_after;
        count = rw (r.names, length-append) (omega (arith, st.count, fewer));
        falls = falls_after;
      }
    where
      fewer : length reply + unsent_count J s'.table s'.waits ≡ unsent_count J s.table s.waits
      fewer = step_left good r st.between

      lacked : (h : ℕ) → member h reply ≡ true → held B h ≡ false
      lacked h m =
          split (held B h) (λ e. absurd (true_false (held s.table h) (st.kept h e) (step_out good r st.between h m))) (λ e. e)

      apart : (h : ℕ) → member h s.named ≡ true → member h reply ≡ false
      apart h e =
          split (member h reply)
          (λ m.
          either (member h (waiting s.waits)) (held s.table h) (both _ _ (sym (st.are h) ∙ e)).0
          (λ k. absurd (true_false (member h (waiting s.waits)) k (step_new good r st.between h m)))
          (λ k. absurd (true_false (held s.table h) k (step_out good r st.between h m))))
          (λ m. m)

      are_after : (h : ℕ) → member h s'.named ≡ ((member h (waiting s'.waits) || held s'.table h) && not (held B h))
      are_after h =
          ap (member h) r.names
          ∙ member_append h s.named reply
          ∙ ap (λ (x : Bool). x || member h reply) (st.are h)
          ∙ more_named (member h (waiting s.waits)) (member h reply) (held s.table h) (held B h) (lacked h)
          ∙ ap (λ (x : Bool). x && not (held B h)) (sym (loads_all r.loads h))

      falls_after : (unsent_count J s'.table s'.waits ≡ 0) ⊎ (unsent_count J s'.table s'.waits + suc k ≤ lacking J B + q)
      falls_after =
          cases st.falls (λ e. inl (omega (arith, fewer)))
          (λ e.
          cases (early q k)
          (λ a.
          cases (step_less good r st.between B (hears a) st.kept)
          (λ f. inl (omega (arith, fewer, held_none_left J s.table s.waits f)))
          (λ f. inr (omega arith)))
          (λ a. inr (omega (arith, fewer, st.count))))

  pub stands : {k : ℕ} {s : At} → Runs J B q k s → RunStands J B q k s
  stands start = start_stands
  stands (round X heard haves reply runs r hears) = next_stands (stands runs) r hears

  -- All is held after m + q rounds, and ever after.
  pub all_held : {k : ℕ} {s : At} → Runs J B q k s → lacking J B + q ≤ k → (h : ℕ) → held J h ≡ true → held s.table h ≡ true
  all_held {k} {s} runs e =
      let st = stands runs in
      none_left st.between good (cases st.falls (λ z. z) (λ z. omega arith))
