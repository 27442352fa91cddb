-- Demand 3. The walk is a run in the whole A in which A itself answers, and A's heads are heard from round two on: so all is held after m + 1 rounds, and
-- what a run promises of its names and tables is promised of the walk. That a walk can go on is that loading has an outcome. Assumes nothing.
use Prim.Native.Nat.{ℕ, zero, suc, ◌≤◌}
use mathlib.Core.Bool.{Bool, true, false, not, ◌||◌, ◌&&◌}
use mathlib.Core.List.{List, ◌++◌}
use mathlib.Core.Path.{◌≡◌, refl, ap, ◌∙◌}
use native.Mathlib.Omega.{arith}
use lib.ListN.{length}
use Rattle.bloom.specs.Have.{Have}
use Rattle.table_graph.proofs.HeadLaws.{head_held}
use Rattle.table_graph.specs.Graph.{heads}
use Rattle.send_members.proofs.SLaws.{last_syncs_one}
use Rattle.send_members.specs.Internal.Members.{last_syncs}
use Rattle.hash_order.proofs.KeepLaws.{every_member, every_one}
use Rattle.hash_order.proofs.OrderLaws.{member_none}
use Rattle.hash_order.specs.Order.{member}
use Rattle.rules.proofs.Cases.{same_truth, either, or_right}
use Rattle.table.specs.Table.{Row, GoodTable, rows, held}
use Rattle.waiting.specs.Waiting.{Waiting, waiting}
use Rattle.walk.specs.Round.{Part, Gives, one, none, trim}
use Rattle.walk.specs.Walk.{At, Walk, Round, heard_in, offer_to, holds_all, lacking, Theorem1}
use Rattle.walk.proofs.Loading.{loads_outcome}
use Rattle.walk.proofs.Offers.{picks_whole}
use Rattle.walk.proofs.Parts.{part_itself}
use Rattle.walk.proofs.Rounds.{Step, HeardPart, Runs, RunStands, stands, all_held, step_out, held_none_left}

-- last-sync hashes of a have that may be given are held
gives_holds : {t : List Row} {w : List Waiting} {heard : List ℕ} {haves : List Have} → Gives t w heard haves
    → (h : ℕ) → member h (last_syncs haves) ≡ true → held t h ≡ true
unfolding last_syncs
gives_holds (one v e c) h m = c.holds h (rw (last_syncs_one v) at m)
gives_holds (none e) h m = absurd (member_none h m)

pub holds_each : (A b : List Row) → holds_all A b ≡ true → (h : ℕ) → held A h ≡ true → held b h ≡ true
unfolding held
holds_each A b e h m = every_member (held b) (rows A) e h m

pub each_holds : (A b : List Row) → ((h : ℕ) → held A h ≡ true → held b h ≡ true) → holds_all A b ≡ true
unfolding held
each_holds A b f = every_one (held b) (rows A) f

module _ (A B : List Row) (good : GoodTable A) (part : Part A B) where
  -- heads that are heard are A's
  heard_held : (k h : ℕ) → member h (heard_in k A) ≡ true → held A h ≡ true
  unfolding heard_in
  heard_held zero h m = absurd (member_none h m)
  heard_held (suc k) h m = head_held A good h m

  hears : (k : ℕ) → 1 ≤ k → HeardPart A B (heard_in k A)
  unfolding heard_in
  hears zero e = absurd (omega arith)
  hears (suc k) e = record { said = A; part = part_itself A good; are = refl; rich = λ h m. or_right (held B h) (held A h) m }

  -- a round is one in the whole A in which A answers
  round_step : (k : ℕ) {s s' : At} {haves : List Have} {reply : List ℕ} → Part A s.table → Round A (heard_in k A) s haves reply s'
      → Step A A (heard_in k A) s haves reply s'
  round_step k p r =
      record {
        sender = part_itself A good;
        known = heard_held k;
        gives = r.gives;
        last = λ h m. p.within h (gives_holds r.gives h m);
        picks = r.picks;
        loads = r.loads;
        sends = r.sends;
        names = r.names;
      }

  pub walk_runs : {k : ℕ} {s : At} → Walk A B k s → Runs A B 1 k s
  walk_runs Walk.start = Runs.start
  walk_runs (Walk.round {k} haves reply walk r) =
      let runs = walk_runs walk in
      Runs.round A (heard_in k A) haves reply runs (round_step k (stands good part 1 runs).between.beside.part r) (hears k)

  pub walk_stands : {k : ℕ} {s : At} → Walk A B k s → RunStands A B 1 k s
  walk_stands walk = stands good part 1 (walk_runs walk)

  module _ {k : ℕ} {s : At} (walk : Walk A B k s) where
    abbrev st : RunStands A B 1 k s
    st = walk_stands walk

    part_now : Part A s.table
    part_now = st.between.beside.part

    -- when all is held, nothing waits that isn't, so the names are what was lacking
    names_now : holds_all A s.table ≡ true → (h : ℕ) → member h s.named ≡ (held A h && not (held B h))
    names_now e h =
        st.are h
        ∙ ap (λ (x : Bool). x && not (held B h))
        (same_truth (member h (waiting s.waits) || held s.table h) (held A h)
        (λ m. either (member h (waiting s.waits)) (held s.table h) m (st.between.beside.ours h) (part_now.within h))
        (λ m. or_right (member h (waiting s.waits)) (held s.table h) (holds_each A s.table e h m)))

    count_now : holds_all A s.table ≡ true → length s.named ≡ lacking A B
    count_now e = omega (arith, st.count, held_none_left A s.table s.waits (holds_each A s.table e))

    new_now : (s' : At) (haves : List Have) (reply : List ℕ) → Round A (heard_in k A) s haves reply s'
        → (h : ℕ) → member h reply ≡ true → held s.table h ≡ false
    new_now s' haves reply r = step_out good (round_step k part_now r) st.between

    goes_now_lem : (haves : List Have) → Gives s.table s.waits (heard_in k A) haves
        → (s' : At) × Round A (heard_in k A) s haves (offer_to A (heard_in k A) s haves) s'
    goes_now_lem haves gives =
        let reply : List ℕ = offer_to A (heard_in k A) s haves in
        let (b', w', l) = loads_outcome A s.table s.waits reply in (
          record { table = b'; waits = w'; sent = trim A (heads s.table) s.sent ++ reply; named = s.named ++ reply },
          record { gives = gives; picks = picks_whole reply; loads = l; sends = refl; names = refl },
        )

-- Demand 3 holds.
pub theorem_1 : Theorem1
theorem_1 A B good part =
    record {
      ends = λ k s walk e. each_holds A s.table (all_held good part 1 (walk_runs A B good part walk) (omega arith));
      new = λ k s s' haves reply walk. new_now A B good part walk s' haves reply;
      once = λ k s walk. (walk_stands A B good part walk).once;
      count = λ k s walk. count_now A B good part walk;
      which = λ k s walk. names_now A B good part walk;
      part = λ k s walk. part_now A B good part walk;
      kept = λ k s walk. (walk_stands A B good part walk).kept;
      goes = λ k s walk. goes_now_lem A B good part walk;
    }
