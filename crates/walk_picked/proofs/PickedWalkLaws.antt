-- An accepted pick is a reply that the walk allows, so demand 3 holds with picks: in table order no hash stands twice; and where every change fits, the first row
-- of the offer makes a pick by itself, since what it depends on stands before it, so that an empty pick means an empty offer. Assumes nothing.
use Prim.Native.Nat.{ℕ, ◌+◌, ◌≤◌, ◌<◌}
use mathlib.Core.Bool.{true, false, not, ◌||◌}
use mathlib.Core.List.{List, [], ◌∷◌, ◌++◌}
use mathlib.Core.Path.{◌≡◌, refl, sym, ap, subst}
use native.Mathlib.Omega.{arith}
use borrow.Author.Tests.{ltb-true, ltb-false, le-leb}
use lib.Dec.{ltb}
use lib.ListN.{length, get_or}
use Rattle.bloom.specs.Have.{Have}
use Rattle.hash_order.proofs.KeepLaws.{every_member, every_one, often_none, often_some, index_once, once_inside}
use Rattle.hash_order.proofs.OrderLaws.{member_here}
use Rattle.hash_order.specs.Order.{member, every, often, Once}
use Rattle.pick.proofs.AcceptLaws.{check_tells}
use Rattle.pick.proofs.PlannerLaws.{planner_accepted}
use Rattle.pick.specs.Picking.{goes_with, hash_fits, first_broken, size_sum, pick_fits, pick_checked, pick_of, Acceptable}
use Rattle.rules.proofs.Cases.{split, true_false, or_left}
use Rattle.send.proofs.SelectLaws.{less_held}
use Rattle.session.specs.Plan.{haves_for}
use Rattle.table.proofs.TableLaws.{row_of_held, length_rows}
use Rattle.table.specs.Table.{Row, GoodTable, row_number, rows, held, deps}
use Rattle.table_graph.proofs.BelowLaws.{row_induction}
use Rattle.table_graph.specs.Graph.{heads}
use Rattle.walk.proofs.Loading.{loads_outcome}
use Rattle.walk.proofs.Theorem1.{theorem_1}
use Rattle.walk.proofs.Walk01.{haves_given}
use Rattle.walk.specs.Round.{Gives, trim}
use Rattle.walk.specs.Walk.{At, Walk, Round, heard_in, walk_need, offer_to}
use Rattle.walk_picked.specs.PickedWalk.{AllFit, AcceptedPicks, RoundPicked, WalkPicked, PickedWalks, PickedEnds, PickedGoes, M110}
use Rattle.std.specs.Prelude.{Ok}

-- ---- an accepted pick

module _ (t : List Row) (list rowSizes : List ℕ) (budget : ℕ) (pick : List ℕ) (fine : pick_checked t list rowSizes budget pick ≡ Ok tt) where
  told : Acceptable t list rowSizes budget pick
  told = (check_tells t list rowSizes budget pick).0 fine

  -- in table order no hash stands twice
  pub picked_once : Once pick
  picked_once =
      index_once pick
      (λ i j a b e.
      split (ltb i j)
      (λ x. absurd (apart i j (told.ordered i j (ltb-true i j x) b) e))
      (λ x.
      split (ltb j i)
      (λ y. absurd (apart j i (told.ordered j i (ltb-true j i y) a) (sym e)))
      (λ y. omega (arith, ltb-false i j x, ltb-false j i y))))
    where
      apart : (i j : ℕ) → row_number t (get_or pick i 0) < row_number t (get_or pick j 0) → get_or pick i 0 ≡ get_or pick j 0 → ⊥
      apart i j h e = let z : row_number t (get_or pick i 0) ≡ row_number t (get_or pick j 0) = ap (row_number t) e in omega arith

  -- so it has no more hashes than there are rows
  pub picked_few : length pick ≤ length t
  unfolding held
  picked_few = rw (length_rows t) at (once_inside pick (rows t) picked_once (λ h m. (told.listed h m).0))

  -- and none more often than the list
  picked_rarer : (h : ℕ) → often h pick ≤ often h list
  picked_rarer h =
      split (member h pick)
      (λ m. omega (arith, picked_once h, often_some h list (told.listed h m).1))
      (λ m. omega (arith, often_none h pick m))

-- ---- where every change fits, something goes

-- a hash makes a pick by itself where it is in the list, none of its dependencies is, and it fits
single_fits : (t : List Row) (list rowSizes : List ℕ) (budget h : ℕ) → held t h ≡ true → member h list ≡ true
    → ((d : ℕ) → member d (deps t h) ≡ true → member d list ≡ false)
    → get_or rowSizes (row_number t h) 0 ≤ budget
    → pick_fits t list rowSizes budget (h ∷ []) ≡ true
unfolding pick_fits first_broken hash_fits goes_with size_sum
single_fits t list rowSizes budget h held-h listed free small =
    let rest : every (λ d. not (member d list) || member d (h ∷ [])) (deps t h) ≡ true =
    every_one (λ d. not (member d list) || member d (h ∷ [])) (deps t h) (λ d m. or_left _ (member d (h ∷ [])) (ap not (free d m)))
    in
    rw (held-h, listed, le-leb 0 (row_number t h) (omega arith), rest) (le-leb (get_or rowSizes (row_number t h) 0 + 0) budget (omega arith))

pub accepted_picks : AcceptedPicks
accepted_picks t list rowSizes budget pick good ours fit fine =
    record { few = picked_rarer t list rowSizes budget pick fine; some = found pick (told t list rowSizes budget pick fine).some }
  where
    -- where no row makes a pick by itself, no row is in the list
    unlisted : ((h : ℕ) → member h list ≡ true → pick_fits t list rowSizes budget (h ∷ []) ≡ false) → (h : ℕ) → held t h ≡ true → member h list ≡ false
    unlisted none =
        row_induction t good (λ h. member h list ≡ false)
        (λ h m ih.
        split (member h list)
        (λ l.
        absurd (true_false (pick_fits t list rowSizes budget (h ∷ []))
        (single_fits t list rowSizes budget h m l ih (fit.fit (row_number t h) (row_of_held t h m))) (none h l)))
        (λ l. l))

    found : (p : List ℕ) → (p ≡ [] → (h : ℕ) → member h list ≡ true → pick_fits t list rowSizes budget (h ∷ []) ≡ false)
        → (x : ℕ) → member x list ≡ true → (y : ℕ) × (member y p ≡ true)
    found [] none x m = absurd (true_false (member x list) m (unlisted (none refl) x (every_member (held t) list ours x m)))
    found (y ∷ ys) none x m = (y, member_here y ys)

-- ---- so demand 3 holds with picks

offer_held : (A : List Row) → GoodTable A → (heard : List ℕ) (s : At) (haves : List Have) → every (held A) (offer_to A heard s haves) ≡ true
offer_held A good heard s haves =
    every_one (held A) (offer_to A heard s haves) (less_held A haves (walk_need heard s) (trim A (heads s.table) s.sent) good)

pub picked_rounds : {bits probes : ℕ} {rowSizes : List ℕ} {budget : ℕ} {A : List Row} {heard l : List ℕ} {s : At} {haves : List Have} {reply : List ℕ} {s' : At}
    → GoodTable A → AllFit A rowSizes budget → RoundPicked bits probes rowSizes budget A heard l s haves reply s' → Round A heard s haves reply s'
picked_rounds {bits} {probes} {rowSizes} {budget} {A} {heard} {l} {s} {haves} {reply} {s'} good fit r =
    record {
      gives = subst (Gives s.table s.waits heard) (sym r.have) (haves_given bits probes s.table s.waits heard l r.setting r.holds);
      picks = accepted_picks A (offer_to A heard s haves) rowSizes budget reply good (offer_held A good heard s haves) fit r.picked;
      loads = r.loads;
      sends = r.sends;
      names = r.names;
    }

walks : {bits probes budget : ℕ → ℕ} {rowSizes : List ℕ} {L : ℕ → List ℕ} {A B : List Row} {k : ℕ} {s : At} → GoodTable A
    → ((k : ℕ) → AllFit A rowSizes (budget k))
    → WalkPicked bits probes budget rowSizes L A B k s
    → Walk A B k s
walks good fit WalkPicked.start = Walk.start
walks good fit (WalkPicked.round {k} haves reply walk r) = Walk.round haves reply (walks good fit walk) (picked_rounds good (fit k) r)

picked_walks : PickedWalks
picked_walks bits probes budget rowSizes L A B good part fit k s walk = (walks good fit walk, theorem_1 A B good part)

picked_ends : PickedEnds
picked_ends bits probes budget rowSizes L A B good part fit k s walk e =
    let promised = theorem_1 A B good part in
    let all = promised.ends k s (walks good fit walk) e in
    (all, promised.count k s (walks good fit walk) all)

picked_goes : PickedGoes
picked_goes bits probes budget rowSizes L A B good each k s walk rules holds =
    let haves : List Have = haves_for (bits k) (probes k) s.table (walk_need (heard_in k A) s) (heard_in k A) (L k) in
    let reply : List ℕ = pick_of A (offer_to A (heard_in k A) s haves) rowSizes (budget k) in
    let (b', w', l) = loads_outcome A s.table s.waits reply in (
      record { table = b'; waits = w'; sent = trim A (heads s.table) s.sent ++ reply; named = s.named ++ reply },
      WalkPicked.round haves reply walk
          (record {
            holds = holds;
            setting = rules;
            have = refl;
            picked = planner_accepted A (offer_to A (heard_in k A) s haves) rowSizes (budget k) good each;
            loads = l;
            sends = refl;
            names = refl;
          }),
    )

pub m110 : M110
m110 =
    record {
      check = check_tells;
      planner = planner_accepted;
      picks = accepted_picks;
      walks = picked_walks;
      ends = picked_ends;
      goes = picked_goes;
    }
